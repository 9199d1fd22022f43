-- The use never passes the room, whatever is called: so a report always finds a place in the log. Assumes nothing.
use Prim.Native.Nat.{ℕ, zero, suc, ◌+◌, ◌≤◌, ◌<◌, zero-le}
use mathlib.Core.Path.{◌≡◌, refl, sym, ap, ◌∙◌}
use mathlib.Core.Bool.{Bool, true, false, not, cond, false≢true}
use mathlib.Core.List.{List, [], ◌∷◌, ◌++◌, map}
use lib.ListN.{length, length-append}
use lib.Dec.{ltb}
use borrow.Author.Tests.{ltb-true, ltb-false, lt-ltb, leb-false}
use native.Mathlib.Nat.{le_refl}
use native.Mathlib.Omega.{arith}
use Rattle.laws.specs.Folds.{every, keep}
use Rattle.rules.specs.Valid.{has_rate}
use Rattle.rules.specs.declared.Level.{Level}
use Rattle.rules.specs.declared.Rule.{Rule}
use Rattle.machine.specs.declared.Entry.{Entry}
use Rattle.machine.specs.declared.Offer.{Offer}
use Rattle.machine.specs.declared.Sent.{Sent}
use Rattle.machine.specs.State.{State, rules_in, roots_in}
use Rattle.machine.specs.Entries.{is_flagged, is_recent, recent}
use Rattle.machine.specs.Effects.{zeroing}
use Rattle.machine.specs.Calls.{Call, order, lockout, offer, remaining, status, send, report, close}
use Rattle.machine.specs.Deeds.{Source, granted, reported, Deed, nothing, passing, filling, resetting, locking_out, sending, closing, clock_after}
use Rattle.machine.specs.Locks.{verdict_of}
use Rattle.machine.specs.Order.{unflagged, unflagged_log}
use Rattle.machine.specs.Offers.{longest, entry_of, joined_log}
use Rattle.machine.specs.Register.{has_identity, sent_of, register_by, register_after, kept_places, is_sent}
use Rattle.machine.specs.Refusals.{used, log_full, no_places, refusal_of}
use Rattle.machine.specs.Step.{log_after, part_after, after}
use Rattle.machine.specs.Judge.{filled, offered, ordered, sent_away, judged, unless, judge, step_in}
use Rattle.machine.proofs.Lists.{keep-le}
use Rattle.machine.proofs.Refusals.{accepted, sendable}
use Rattle.machine.proofs.Register.{report-frees, closed-le, sent-adds}
use Rattle.machine.proofs.Meets.{Few, Meets, judge-meets}

module _ {A : Type 0} where
  -- fewer pass a test that is harder to pass, after a change and a second test
  keep-fewer : (p q r : A → Bool) (f : A → A) → ((x : A) → p (f x) ≡ true → r x ≡ true) → (xs : List A)
      → length (keep p (keep q (map f xs))) ≤ length (keep r xs)
  unfolding keep
  keep-fewer p q r f harder [] = zero-le
  keep-fewer p q r f harder (x ∷ xs) = go (q (f x)) (p (f x)) refl (r x) refl (keep-fewer p q r f harder xs)
    where
      rest : List A
      rest = keep q (map f xs)

      go : (a b : Bool) → p (f x) ≡ b → (c : Bool) → r x ≡ c → length (keep p rest) ≤ length (keep r xs)
          → length (keep p (cond a (f x ∷ rest) rest)) ≤ length (cond c (x ∷ keep r xs) (keep r xs))
      go true true e true ec h = rw e (omega arith)
      go true true e false ec h = absurd (false≢true (sym ec ∙ harder x e))
      go true false e true ec h = rw e (omega arith)
      go true false e false ec h = rw e h
      go false b e true ec h = omega arith
      go false b e false ec h = h

  keep_same : (xs : List A) → keep (λ x. true) (map (λ x. x) xs) ≡ xs
  unfolding keep
  keep_same [] = refl
  keep_same (x ∷ xs) = ap (λ (l : List A). x ∷ l) (keep_same xs)

module _ (top clock t : ℕ) (le : clock ≤ t) where
  -- an entry inside the window at a time was inside it before
  recent-before : (e : Entry) → is_recent top t e ≡ true → is_recent top clock e ≡ true
  recent-before e h = lt-ltb clock (e.time + top) (omega (arith, ltb-true t (e.time + top) h))

  -- so later no more are inside it
  pub later-fewer : (log : List Entry) → length (recent top t log) ≤ length (recent top clock log)
  unfolding recent
  later-fewer log = rw keep_same at (keep-fewer (is_recent top t) (λ e. true) (is_recent top clock) (λ e. e) recent-before log)

  -- nor after a reset
  pub reset-fewer : (zeroes : Level → Bool) (log : List Entry) → length (recent top t (unflagged_log zeroes log)) ≤ length (recent top clock log)
  unfolding recent unflagged_log unflagged
  reset-fewer zeroes log = keep-fewer (is_recent top t) is_flagged (is_recent top clock) (unflagged zeroes) recent-before log

-- and one more at the most after a fill
pub joined-one : (rules : List Rule) (log : List Entry) (o : Offer) (n : ℕ) → has_rate rules ≡ true
    → length (recent (longest rules) o.time (joined_log rules log o n)) ≤ length (recent (longest rules) o.time log) + cond (ltb 0 n) 1 0
unfolding joined_log recent
joined-one rules log o n has = rw has (go (ltb 0 n))
  where
    kept : List Entry
    kept = recent (longest rules) o.time log

    most : length (recent (longest rules) o.time (kept ++ (entry_of o n ∷ []))) ≤ length kept + 1
    most = omega (arith, keep-le (is_recent (longest rules) o.time) (kept ++ (entry_of o n ∷ [])), length-append kept (entry_of o n ∷ []))

    go : (b : Bool) → length (recent (longest rules) o.time (cond b (kept ++ (entry_of o n ∷ [])) log)) ≤ length kept + cond b 1 0
    go true = most
    go false = omega arith

-- a grant finds its place free, and a sending the places that it asks for, where the profile has a rate rule
unfoldable pub Placed : ℕ → State → Deed → Type 0
Placed bound s nothing = Unit
Placed bound s (passing time) = Unit
Placed bound s (filling granted o n) = has_rate (rules_in s) ≡ true → 0 < n → used s o.time < bound
Placed bound s (filling (reported identity) o n) = Unit
Placed bound s (resetting time root effect) = Unit
Placed bound s (locking_out time level) = Unit
Placed bound s (sending time sent) = has_rate (rules_in s) ≡ true → used s time + sent.reports ≤ bound
Placed bound s (closing time identity) = Unit

module _ (bound : ℕ) (s : State) (below : used s s.part.clock ≤ bound) where
  abbrev rules : List Rule
  rules = s.part.profile.rules

  abbrev top : ℕ
  top = longest rules

  abbrev register : List Sent
  register = s.part.register

  -- the use at a time, where the profile has a rate rule
  use-is : has_rate rules ≡ true → (t : ℕ) → used s t ≡ length (recent top t s.log) + kept_places register
  unfolding used rules_in
  use-is has t = rw has

  -- the time alone lets none come into use
  use-later : (t : ℕ) → s.part.clock ≤ t → has_rate rules ≡ true → length (recent top t s.log) + kept_places register ≤ bound
  use-later t le has = omega (arith, later-fewer top s.part.clock t le s.log, use-is has s.part.clock)

  -- A FILL FINDS A PLACE: a grant because its place was free, a report because its order keeps one
  pub fill-place : (source : Source) (o : Offer) (n : ℕ) → Meets s (filling source o n) → Placed bound s (filling source o n)
      → has_rate rules ≡ true → 0 < n → length (recent top o.time s.log) < bound
  unfolding Meets Few Placed rules_in
  fill-place granted o n m p has pos = omega (arith, p has pos, use-is has o.time)
  fill-place (reported identity) o n m p has pos =
      omega (arith, report-frees identity n register m.few.0 m.few.1, use-later o.time m.time.after has)

  -- what is in use after a deed, where the profile has a rate rule
  abbrev Fits : Deed → Type 0
  Fits deed =
      has_rate rules ≡ true
      → length (recent top (clock_after deed s.part.clock) (log_after deed rules s.log)) + kept_places (register_after deed register) ≤ bound

  fits : (deed : Deed) → Meets s deed → Placed bound s deed → Fits deed
  unfolding Meets Few Placed rules_in clock_after log_after register_after register_by
  fits nothing m p has = use-later s.part.clock (le_refl s.part.clock) has
  fits (passing time) m p has = use-later time m.after has
  fits (filling granted o n) m p has = go (ltb 0 n) refl
    where
      go : (b : Bool) → ltb 0 n ≡ b → length (recent top o.time (joined_log rules s.log o n)) + kept_places register ≤ bound
      go true e = omega (arith, rw e at (joined-one rules s.log o n has), p has (ltb-true 0 n e), use-is has o.time)
      go false e = omega (arith, rw e at (joined-one rules s.log o n has), use-later o.time m.time.after has)
  fits (filling (reported identity) o n) m p has =
      omega (arith, joined-one rules s.log o n has, at_most (ltb 0 n), report-frees identity n register m.few.0 m.few.1, use-later o.time m.time.after has)
    where
      at_most : (b : Bool) → cond b 1 0 ≤ 1
      at_most true = omega arith
      at_most false = omega arith
  fits (resetting time root effect) m p has =
      omega (arith, reset-fewer top s.part.clock time m.after (zeroing effect root) s.log, use-is has s.part.clock)
  fits (locking_out time level) m p has = use-later time m.0.after has
  fits (sending time sent) m p has = omega (arith, sent-adds register sent, use-is has time, p has)
  fits (closing time identity) m p has =
      omega (arith, closed-le (λ (sent : Sent). not (has_identity identity sent)) register, use-later time m.after has)

  pub use-after : (deed : Deed) → Meets s deed → Placed bound s deed → used (after deed s) (clock_after deed s.part.clock) ≤ bound
  unfolding used after part_after rules_in
  use-after deed m p = go (has_rate rules) refl
    where
      go : (b : Bool) → has_rate rules ≡ b
          → cond b (length (recent top (clock_after deed s.part.clock) (log_after deed rules s.log)) + kept_places (register_after deed register)) 0 ≤ bound
      go true e = fits deed m p e
      go false e = zero-le

-- what a call does that is not refused finds its places
module _ (room bound : ℕ) (few : room ≤ bound) (s : State) where
  offered-placed : (o : Offer) (verdict : ℕ) → verdict_of s.part.locks o.root ≡ verdict → log_full room s o ≡ false
      → Placed bound s (offered s o verdict).deed
  unfolding Placed offered filled log_full
  offered-placed o zero v full =
      λ has pos. omega (arith, leb-false room (used s o.time) (rw (v, lt-ltb 0 _ pos, has) at full))
  offered-placed o (suc verdict) v full = tt

  sent-placed : (o : Offer) (identity reports verdict : ℕ) → verdict_of s.part.locks o.root ≡ verdict → no_places room s o reports ≡ false
      → Placed bound s (sent_away o identity reports verdict).deed
  unfolding Placed sent_away sent_of no_places
  sent-placed o identity reports zero v full =
      λ has. omega (arith, ltb-false room (used s o.time + reports) (rw (v, has) at full))
  sent-placed o identity reports (suc verdict) v full = tt

  judged-placed : (call : Call) → refusal_of room s call ≡ 0 → Placed bound s (judged s call).deed
  unfolding Placed judged ordered filled
  judged-placed (order time root reset) e = tt
  judged-placed (lockout time level root) e = tt
  judged-placed (offer o) e = offered-placed o (verdict_of s.part.locks o.root) refl (accepted room s o e).place
  judged-placed (remaining time rule unit) e = tt
  judged-placed status e = tt
  judged-placed (send o identity reports) e =
      sent-placed o identity reports (verdict_of s.part.locks o.root) refl (sendable room s o identity reports e).places
  judged-placed (report time identity n) e = tt
  judged-placed (close time identity) e = tt

  pub judge-placed : (call : Call) → Placed bound s (judge room s call).deed
  unfolding Placed judge unless
  judge-placed call = go (refusal_of room s call) refl
    where
      go : (n : ℕ) → refusal_of room s call ≡ n → Placed bound s (unless n (judged s call)).deed
      go zero e = judged-placed call e
      go (suc n) e = tt

  -- THE USE STAYS WITHIN ITS BOUND, whatever is called
  pub use_kept : every (is_sent (roots_in s)) s.part.register ≡ true → used s s.part.clock ≤ bound → (call : Call)
      → used (step_in room s call).after (step_in room s call).after.part.clock ≤ bound
  unfolding step_in after part_after
  use_kept registered below call = use-after bound s below (judge room s call).deed (judge-meets room s registered call) (judge-placed call)
