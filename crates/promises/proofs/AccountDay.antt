-- A day in which some calls keep an account is the day of the same calls without one. Assumes nothing.
use Prim.Native.Nat.{ℕ, zero, suc}
use native.Mathlib.Omega.{arith}
use mathlib.Core.Path.{◌≡◌, refl, sym, ap, ◌∙◌, subst, subst⁻¹}
use mathlib.Core.Logic.{◌⊎◌, inl, inr}
use mathlib.Core.Bool.{Bool, true, false, not, cond, ◌&&◌, ◌||◌, false≢true}
use mathlib.Core.List.{List, [], ◌∷◌}
use lib.ListN.{drop}
use lib.Dec.{eqb}
use borrow.Author.Tests.{ne_eqb, eqb-true}
use Rattle.rules.specs.Allowance.{All}
use Rattle.state.specs.State.{size}
use Rattle.state.specs.Sound.{Sound, is_sound}
use Rattle.state.proofs.Exactly.{taken-apart, exactly}
use Rattle.profile.specs.Reading.{Accepted}
use Rattle.machine.specs.Answer.{Answer, Refused, Judged, Left, Standing}
use Rattle.machine.specs.State.{State}
use Rattle.machine.specs.Calls.{Call}
use Rattle.machine.specs.Refusals.{first_of}
use Rattle.machine.specs.Judge.{step, numbers, is_refusal}
use Rattle.calls.specs.Calls.{is_short, mark_of, arm_answer, arm_memory, memory_refusal, call_answer, call_memory}
use Rattle.calls.proofs.Armed.{sound-memory, sound-long, call-refused}
use Rattle.calls.proofs.Cases.{arm-marked}
use Rattle.figures.specs.Account.{is_account}
use Rattle.figures.specs.Levels.{Above}
use Rattle.accounted.specs.declared.Event.{Event as Kept}
use Rattle.accounted.specs.Accounted.{call_of, is_short_account, lent_refusal, account_counted, accounted_answer, accounted_memory, account_after_call}
use Rattle.promises.specs.AnyDay.{AnyCall, arm, text, state, called, after_any, any_from, any_day_of, AnyPromised}
use Rattle.promises.specs.AccountDay.{AccountCall, plain, keeping, is_for_account, AccountDay, account_event, after_account, account_from, plain_calls, begins, IsKept, SameDay, ForItsAccount, AccountDayPromised}
use Rattle.promises.specs.Refusals.{Short}
use Rattle.promises.specs.AccountRefusals.{ShortAccount}
use Rattle.promises.proofs.Marked.{sound-marked}
use Rattle.promises.proofs.Holds.{Holds, holds-ready, call-holds, arm-holds}
use Rattle.promises.proofs.AccountRefusals.{why-one, why-two}
use Rattle.promises.proofs.Counted.{refused-memory, refused-account, refusal_is}
use Rattle.promises.proofs.Day.{any-day-promised}

-- ---- a call that keeps an account

-- one that is refused for its account is refused
for-account : (a : Answer) → is_for_account a ≡ true → is_refusal a ≡ true
unfolding is_for_account is_refusal
for-account (Refused n) e = refl
for-account (Judged verdict grant roottrip firmtrip) e = absurd (false≢true e)
for-account (Left n) e = absurd (false≢true e)
for-account (Standing roots) e = absurd (false≢true e)

module _ (memory account : List ℕ) (call : Call) where
  -- the number of memory and account is 1 or 2, or else that of the memory
  lent-memory : (lent_refusal memory account ≡ 1) ⊎ (lent_refusal memory account ≡ 2) ⊎ (lent_refusal memory account ≡ memory_refusal memory)
  unfolding lent_refusal memory_refusal first_of
  lent-memory = go (is_short memory) (is_short_account account) (eqb (mark_of memory) 0) (is_sound memory) (is_account account)
    where
      go : (a b c d e : Bool)
          → (◌≡◌ {A = ℕ} (cond (a || b) 1 (cond c 4 (cond (not (d && e)) 2 0))) 1) ⊎ (◌≡◌ {A = ℕ} (cond (a || b) 1 (cond c 4 (cond (not (d && e)) 2 0))) 2)
          ⊎ (◌≡◌ {A = ℕ} (cond (a || b) 1 (cond c 4 (cond (not (d && e)) 2 0))) (cond a 1 (cond c 4 (cond (not d) 2 0))))
      go true b c d e = inl refl
      go false true c d e = inl refl
      go false false true d e = inr (inr refl)
      go false false false false e = inr (inl refl)
      go false false false true false = inr (inl refl)
      go false false false true true = inr (inr refl)

  -- one that is not refused for its account answers as the plain call does
  plain-answer : is_for_account (accounted_answer memory account call) ≡ false → accounted_answer memory account call ≡ call_answer memory call
  unfolding accounted_answer is_for_account
  plain-answer h = go lent-memory h
    where
      answer_of : ℕ → Bool → Answer
      answer_of lent fits = cond (eqb lent 0) (cond fits (call_answer memory call) (Refused 21)) (Refused lent)

      by-memory : (n : ℕ) → n ≡ memory_refusal memory → (fits : Bool) → is_for_account (answer_of n fits) ≡ false → answer_of n fits ≡ call_answer memory call
      by-memory zero k true h = refl
      by-memory zero k false h = absurd (false≢true (sym h))
      by-memory (suc n) k fits h = rw (ne_eqb (suc n) 0 (λ z. omega arith)) (call-refused memory call (suc n) k (λ z. omega arith)).0

      go : (lent_refusal memory account ≡ 1) ⊎ (lent_refusal memory account ≡ 2) ⊎ (lent_refusal memory account ≡ memory_refusal memory)
          → is_for_account (answer_of (lent_refusal memory account) (is_account (account_counted memory account call))) ≡ false
          → answer_of (lent_refusal memory account) (is_account (account_counted memory account call)) ≡ call_answer memory call
      go (inl e) h = absurd (false≢true (sym (rw e at h)))
      go (inr (inl e)) h = absurd (false≢true (sym (rw e at h)))
      go (inr (inr e)) h = by-memory (lent_refusal memory account) e (is_account (account_counted memory account call)) h

  -- and leaves what the plain call leaves
  plain-memory : is_for_account (accounted_answer memory account call) ≡ false → accounted_memory memory account call ≡ call_memory memory call
  unfolding accounted_memory call_memory
  plain-memory h = rw (plain-answer h) (go (is_refusal (call_answer memory call)) _)
    where
      go : (b : Bool) (ys : List ℕ) → cond b memory (cond b memory ys) ≡ cond b memory ys
      go true ys = refl
      go false ys = refl

-- ---- a day

-- one call more that keeps an account is one call more on the state, or none
counted_same : (d : AccountDay) (event : Kept) (account : List ℕ) (calls : List AnyCall)
    → any_from (after_account d (keeping event account)).day calls
    ≡ any_from d.day (cond (is_for_account (account_event d.day.memory event account).answer) calls (state (call_of event) ∷ calls))
unfolding after_account any_from after_any
counted_same d event account calls = go (is_for_account (accounted_answer memory account call)) refl
  where
    memory : List ℕ
    memory = d.day.memory

    call : Call
    call = call_of event

    go : (b : Bool) → is_for_account (accounted_answer memory account call) ≡ b
        → any_from (record { memory = accounted_memory memory account call; history = cond b d.day.history (called (account_event memory event account) ∷ d.day.history) }) calls
        ≡ any_from d.day (cond b calls (state call ∷ calls))
    go true e = rw (refused-memory memory account call (for-account (accounted_answer memory account call) e))
    go false e = rw (plain-memory memory account call e, plain-answer memory account call e)

same-day : (d : AccountDay) (calls : List AccountCall) → (account_from d calls).day ≡ any_from d.day (plain_calls d calls)
unfolding account_from plain_calls any_from after_account
same-day d [] = refl
same-day d (plain call ∷ calls) = same-day (record { day = after_any d.day call; aside = d.aside }) calls
same-day d (keeping event account ∷ calls) =
    same-day (after_account d (keeping event account)) calls ∙ counted_same d event account (plain_calls (after_account d (keeping event account)) calls)

-- an account that was lent to a refused call
kept_more : (d : AccountDay) (event : Kept) (account : List ℕ) → All IsKept d.aside → All IsKept (after_account d (keeping event account)).aside
unfolding after_account
kept_more d event account k = go (is_for_account (accounted_answer d.day.memory account (call_of event))) refl
  where
    go : (b : Bool) → is_for_account (accounted_answer d.day.memory account (call_of event)) ≡ b
        → All IsKept (cond b
        (record { event = account_event d.day.memory event account; lent = account; left = account_after_call d.day.memory account (call_of event) } ∷ d.aside) d.aside)
    go true e = (refused-account d.day.memory account (call_of event) (for-account (accounted_answer d.day.memory account (call_of event)) e), k)
    go false e = k

all-kept : (d : AccountDay) → All IsKept d.aside → (calls : List AccountCall) → All IsKept (account_from d calls).aside
unfolding account_from after_account
all-kept d k [] = k
all-kept d k (plain call ∷ calls) = all-kept (record { day = after_any d.day call; aside = d.aside }) k calls
all-kept d k (keeping event account ∷ calls) = all-kept (after_account d (keeping event account)) (kept_more d event account k) calls

-- CALLS THAT KEEP AN ACCOUNT, among any others on any memory
pub account-day : (memory : List ℕ) (calls : List AccountCall) → SameDay memory calls
account-day memory calls = record { same = same-day (begins memory) calls; kept = all-kept (begins memory) tt calls }

-- ---- on an armed unit

-- a call that is left out of a day on sound memory is refused for its account
reason : (memory account : List ℕ) (call : Call) → memory_refusal memory ≡ 0 → is_for_account (accounted_answer memory account call) ≡ true → (left : List ℕ)
    → ForItsAccount (record { event = record { call = call; answer = accounted_answer memory account call }; lent = account; left = left })
unfolding ForItsAccount is_for_account numbers
reason memory account call ready h left =
    let is = refusal_is (accounted_answer memory account call) (for-account (accounted_answer memory account call) h) in
    go is.0 is.1 (eqb is.0 1) (eqb is.0 2) refl refl (rw is.1 at h)
  where
    short : Short memory ⊎ ShortAccount account → ShortAccount account
    short (inl e) = absurd (omega (arith, e, sound-long memory ready))
    short (inr e) = e

    above : (Sound memory → ⊥) ⊎ Above account → Above account
    above (inl e) = absurd (e ((exactly memory).1 (sound-memory memory ready)))
    above (inr e) = e

    go : (n : ℕ) → accounted_answer memory account call ≡ Refused n → (a b : Bool) → eqb n 1 ≡ a → eqb n 2 ≡ b → (eqb n 1 || (eqb n 2 || eqb n 21)) ≡ true
        → ((accounted_answer memory account call ≡ Refused 1) × ShortAccount account) ⊎ ((accounted_answer memory account call ≡ Refused 2) × Above account)
        ⊎ (accounted_answer memory account call ≡ Refused 21)
    go n e true b ea eb h =
        let one : accounted_answer memory account call ≡ Refused 1 = e ∙ ap Refused (eqb-true n 1 ea) in
        inl (one, short (why-one memory account call one))
    go n e false true ea eb h =
        let two : accounted_answer memory account call ≡ Refused 2 = e ∙ ap Refused (eqb-true n 2 eb) in
        inr (inl (two, above (why-two memory account call two)))
    go n e false false ea eb h = inr (inr (e ∙ ap Refused (eqb-true n 21 (rw (ea, eb) at h))))

-- a day on memory that holds a state
module _ (past : List ℕ) where
  abbrev Armed : List ℕ → Type 0
  Armed memory = (s : State) × Holds s past memory

  -- every call leaves it such
  plain-armed : (d : AccountDay) → Armed d.day.memory → (call : AnyCall) → Armed (after_any d.day call).memory
  unfolding after_any
  plain-armed d h (arm words) =
      let t = taken-apart d.day.memory h.1.sound in
      let three = arm-marked d.day.memory words t.long (λ z. omega (arith, sound-marked d.day.memory h.1.sound)) in
      (h.0, subst (Holds h.0 past) three.1 h.1)
  plain-armed d h (text verdict room) = h
  plain-armed d h (state call) = ((step h.0 call).after, call-holds h.1 call)

  counted-armed : (memory account : List ℕ) (call : Call) → Armed memory → Armed (accounted_memory memory account call)
  unfolding accounted_memory
  counted-armed memory account call h = go (is_refusal (accounted_answer memory account call))
    where
      go : (b : Bool) → Armed (cond b memory (call_memory memory call))
      go true = h
      go false = ((step h.0 call).after, call-holds h.1 call)

  reasons-more : (d : AccountDay) (event : Kept) (account : List ℕ) → Armed d.day.memory → All ForItsAccount d.aside
      → All ForItsAccount (after_account d (keeping event account)).aside
  unfolding after_account
  reasons-more d event account h r = go (is_for_account (accounted_answer d.day.memory account (call_of event))) refl
    where
      go : (b : Bool) → is_for_account (accounted_answer d.day.memory account (call_of event)) ≡ b
          → All ForItsAccount (cond b
          (record { event = account_event d.day.memory event account; lent = account; left = account_after_call d.day.memory account (call_of event) } ∷ d.aside) d.aside)
      go true e = (reason d.day.memory account (call_of event) (holds-ready h.1) e _, r)
      go false e = r

  all-reasons : (d : AccountDay) → All ForItsAccount d.aside → Armed d.day.memory → (calls : List AccountCall) → All ForItsAccount (account_from d calls).aside
  unfolding account_from after_account
  all-reasons d r h [] = r
  all-reasons d r h (plain call ∷ calls) = all-reasons (record { day = after_any d.day call; aside = d.aside }) r (plain-armed d h call) calls
  all-reasons d r h (keeping event account ∷ calls) =
      all-reasons (after_account d (keeping event account)) (reasons-more d event account h r) (counted-armed d.day.memory account (call_of event) h) calls

-- AND WHAT IS PROMISED OF EVERY DAY holds of every day with such calls
pub account-day-promised : (memory words : List ℕ) (firm rules roots : ℕ) → arm_answer memory words ≡ Accepted firm rules roots → (calls : List AccountCall)
    → AccountDayPromised memory words calls
unfolding any_day_of
account-day-promised memory words firm rules roots ok calls =
    let start = begins (arm_memory memory words) in
    record {
      promised = subst⁻¹ (AnyPromised memory words (plain_calls start calls)) (same-day start calls) (any-day-promised memory words firm rules roots ok (plain_calls start calls));
      reasons = all-reasons (drop size memory) start tt (_, arm-holds memory words firm rules roots ok) calls;
    }
