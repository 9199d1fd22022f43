-- What the calls that keep an account answer and leave, by what is lent and by the plain call. Assumes nothing.
use Prim.Native.Nat.{ℕ, zero, suc, ◌+◌, ◌≤◌, ◌<◌}
use mathlib.Core.Path.{◌≡◌, refl, sym, ap, ap₂, ◌∙◌, subst}
use mathlib.Core.Bool.{Bool, true, false, not, cond, ◌&&◌, ◌||◌}
use mathlib.Core.List.{List, [], ◌∷◌, ◌++◌, append-nil}
use native.Mathlib.Omega.{arith}
use lib.ListN.{length, take, drop, length-append, length-drop}
use lib.Seq.{length-take-le}
use lib.Dec.{eqb, ltb}
use borrow.Author.Tests.{eq-eqb, ne_eqb, lt-ltb, le-ltb, le-leb, lt-leb}
use Rattle.laws.proofs.Lists.{ended}
use Rattle.machine.specs.Answer.{Answer, Refused}
use Rattle.machine.specs.Calls.{Call}
use Rattle.machine.specs.Refusals.{first_of}
use Rattle.machine.specs.Judge.{step, is_refusal}
use Rattle.state.specs.State.{size, encode, decode, stored}
use Rattle.state.specs.Inner.Laid.{Laid}
use Rattle.state.proofs.Stored.{encode-long}
use Rattle.state.proofs.Exactly.{sound-state-fits, sound-is-laid}
use Rattle.state.specs.Sound.{is_sound}
use Rattle.calls.specs.Calls.{is_short, mark_of, memory_refusal, call_answer, call_memory}
use Rattle.calls.proofs.Steps.{done, after-sound, kept-sound}
use Rattle.figures.specs.declared.Happening.{Happening}
use Rattle.figures.specs.declared.Happening.TheVariants.{Uncounted}
use Rattle.figures.specs.Happenings.{happening_of}
use Rattle.figures.specs.Account.{account_size, most, account_after, is_account}
use Rattle.figures.specs.Inner.Rows.{Counting, greatest_of, bound_of}
use Rattle.figures.proofs.Greatests.{greatest-most, greatest-bound, bound-above}
use Rattle.figures.proofs.Counts.{room_fits, nothing-fits}
use Rattle.accounted.specs.Accounted.{is_short_account, lent_refusal, open_root, happening_in, account_counted, accounted_answer, accounted_memory, account_after_call}
use Rattle.accounted.specs.Inner.Lent.{KeptAccount, RoomyAccount, without_account}
use Rattle.accounted.proofs.Taken.{Taken, taken, call-fit, happening-after, refused-nowhere}
use Rattle.accounted.proofs.Copied.{answer-same, memory-same, happening-same}

-- the answer, and what the memory and the account are after it
abbrev pub Applied : List ℕ → List ℕ → Call → Answer → List ℕ → List ℕ → Type 0
Applied xs account call r ys zs =
    (r ≡ accounted_answer xs account call) × ((ys ≡ accounted_memory xs account call) × (zs ≡ account_after_call xs account call))

module _ (xs account : List ℕ) (call : Call) where
  -- a refusal changes nothing
  refuses : (n : ℕ) → accounted_answer xs account call ≡ Refused n → Applied xs account call (Refused n) xs account
  unfolding accounted_memory account_after_call is_refusal
  refuses n e = (sym e, (rw e, rw e))

  lent-refused : (n : ℕ) → lent_refusal xs account ≡ n → (n ≡ 0 → ⊥) → Applied xs account call (Refused n) xs account
  unfolding accounted_answer
  lent-refused n e h = refuses n (rw (e, ne_eqb n 0 h))

  -- an account that is short
  pub short-account : length account < account_size → Applied xs account call (Refused 1) xs account
  unfolding lent_refusal first_of is_short_account
  short-account h = lent-refused 1 (rw (lt-ltb (length account) account_size h) (go (is_short xs))) (λ z. omega arith)
    where
      go : (b : Bool) → ◌≡◌ {A = ℕ} (cond (b || true) 1 (cond (eqb (mark_of xs) 0) 4 (cond (not (is_sound xs && is_account account)) 2 0))) 1
      go true = refl
      go false = refl

  -- memory that is short
  pub short-memory : length xs < size → Applied xs account call (Refused 1) xs account
  unfolding lent_refusal first_of is_short
  short-memory h = lent-refused 1 (rw (lt-ltb (length xs) size h)) (λ z. omega arith)

  -- an account with a figure above 10^18
  pub not-account : account_size ≤ length account → is_account account ≡ false → {n : ℕ} → n ≡ without_account xs → Applied xs account call (Refused n) xs account
  unfolding lent_refusal first_of is_short_account without_account
  not-account long e {n} is =
      lent-refused n (rw (le-ltb (length account) account_size long, e) (same (is_short xs) (eqb (mark_of xs) 0) (is_sound xs)) ∙ sym is)
      (λ z. some (is_short xs) (eqb (mark_of xs) 0) (sym is ∙ z))
    where
      same : (a b c : Bool) → ◌≡◌ {A = ℕ} (cond (a || false) 1 (cond b 4 (cond (not (c && false)) 2 0))) (cond a 1 (cond b 4 2))
      same true b c = refl
      same false true c = refl
      same false false true = refl
      same false false false = refl

      some : (a b : Bool) → ◌≡◌ {A = ℕ} (cond a 1 (cond b 4 2)) 0 → ⊥
      some true b e = omega arith
      some false true e = omega arith
      some false false e = omega arith

-- beside an account that is one
module _ (xs account : List ℕ) (call : Call) (kept : KeptAccount account) where
  lent_same : lent_refusal xs account ≡ memory_refusal xs
  unfolding lent_refusal memory_refusal first_of is_short_account
  lent_same = rw (le-ltb (length account) account_size kept.long, kept.is) (same (is_short xs) (is_sound xs))
    where
      same : (a c : Bool) → ◌≡◌ {A = ℕ} (cond (a || false) 1 (cond (eqb (mark_of xs) 0) 4 (cond (not (c && true)) 2 0))) (cond a 1 (cond (eqb (mark_of xs) 0) 4 (cond (not c) 2 0)))
      same true c = refl
      same false true = refl
      same false false = refl

  -- where the figures fit, the answer is the plain call's
  answered : is_account (account_counted xs account call) ≡ true → accounted_answer xs account call ≡ call_answer xs call
  unfolding accounted_answer call_answer
  answered fits = rw (lent_same, fits) (twice (eqb (memory_refusal xs) 0) (step (decode xs) call).answer (Refused (memory_refusal xs)))
    where
      twice : (b : Bool) (r q : Answer) → cond b (cond b r q) q ≡ cond b r q
      twice true r q = refl
      twice false r q = refl

  -- a call that the plain call refuses counts nowhere, and is refused by the same number
  pub plain-refused : {r : Answer} → r ≡ call_answer xs call → is_refusal r ≡ true → Applied xs account call r xs account
  unfolding accounted_memory account_after_call account_counted
  plain-refused {r} is h =
      let refused = ap is_refusal (sym is) ∙ h in
      let e = answered (subst (λ (e : Happening). is_account (account_after e account) ≡ true) (sym (refused-nowhere xs call refused)) (nothing-fits account kept.long kept.is)) in
      (is ∙ sym e, (rw (e, refused), rw (e, refused)))

  -- one that it takes is counted, if the figures fit
  module _ (no : is_refusal (call_answer xs call) ≡ false) where
    pub counting : Counting account (happening_in xs call)
    counting =
        let f = call-fit xs call (taken xs call no) in
        record { long = kept.long; account = kept.is; root = f.0; priced = f.1 }

    pub plain_done : is_account (account_counted xs account call) ≡ true → Applied xs account call (call_answer xs call) (call_memory xs call) (account_counted xs account call)
    unfolding accounted_memory account_after_call
    plain_done fits = let e = answered fits in (sym e, (rw (e, no), rw (e, no)))

    -- and refused with 21 if they do not
    pub too_much : is_account (account_counted xs account call) ≡ false → Applied xs account call (Refused 21) xs account
    unfolding accounted_answer
    too_much over = refuses xs account call 21 (rw (lent_same, (taken xs call no).ready, over))

-- the refusal beside an account that is not one, as the code finds it
module _ (xs : List ℕ) where
  pub without-short : length xs < size → 1 ≡ without_account xs
  unfolding without_account is_short first_of
  without-short h = rw (lt-ltb _ _ h)

  pub without-mark : size ≤ length xs → mark_of xs ≡ 0 → 4 ≡ without_account xs
  unfolding without_account is_short first_of
  without-mark h m = rw (le-ltb _ _ h, eq-eqb _ _ m)

  pub without-else : size ≤ length xs → (mark_of xs ≡ 0 → ⊥) → 2 ≡ without_account xs
  unfolding without_account is_short first_of
  without-else h m = rw (le-ltb _ _ h, ne_eqb _ _ m)

-- a plain call, as the code makes it
module _ (xs : List ℕ) (call : Call) {r : Answer} {ys : List ℕ} (is : r ≡ call_answer xs call) (left : ys ≡ call_memory xs call) where
  pub left-refused : is_refusal r ≡ true → ys ≡ xs
  unfolding call_memory
  left-refused h = left ∙ rw (sym (ap is_refusal is) ∙ h)

  module _ (h : is_refusal r ≡ false) where
    free : is_refusal (call_answer xs call) ≡ false
    free = ap is_refusal (sym is) ∙ h

    pub left_laid : Laid ys
    left_laid = subst Laid (sym left) (sound-is-laid (call_memory xs call) (kept-sound xs (taken xs call free).ready call))

    pub told : {event : Happening} → event ≡ happening_of (open_root ys) call r → event ≡ happening_in xs call
    told e =
        e ∙ ap₂ (λ (l : List ℕ) (a : Answer). happening_of (open_root l) call a) left is ∙ happening-after xs call (taken xs call free)

    module _ (account : List ℕ) (kept : KeptAccount account) {event : Happening} (was : event ≡ happening_in xs call) where
      pub countable : Counting account event
      countable = subst (Counting account) (sym was) (counting xs account call kept free)

      pub done-by : is_account (account_after event account) ≡ true → {zs : List ℕ} → zs ≡ account_after event account → Applied xs account call r ys zs
      unfolding account_counted
      done-by fits counted =
          let d = plain_done xs account call kept free (subst (λ (e : Happening). is_account (account_after e account) ≡ true) was fits) in
          (is ∙ d.0, (left ∙ d.1.0, counted ∙ ap (λ (e : Happening). account_after e account) was ∙ d.1.1))

      pub passed-by : is_account (account_after event account) ≡ false → Applied xs account call (Refused 21) xs account
      unfolding account_counted
      passed-by over = too_much xs account call kept free (subst (λ (e : Happening). is_account (account_after e account) ≡ false) was over)

-- an account by a number that none of its figures passes
module _ (account : List ℕ) {g : ℕ} (long : account_size ≤ length account) (is : g ≡ bound_of (take account_size account)) where
  under : greatest_of (take account_size account) ≤ g
  under = let h = greatest-bound (take account_size account) in omega (arith, is)

  pub kept_by : g ≤ most → KeptAccount account
  unfolding is_account
  kept_by h = record {
    long = long;
    is = sym (greatest-most most (take account_size account)) ∙ le-leb (greatest_of (take account_size account)) most (omega (arith, h, under));
  }

  pub over_by : most < g → is_account account ≡ false
  unfolding is_account
  over_by h =
      let same = bound-above (take account_size account) (omega (arith, h, is)) in
      sym (greatest-most most (take account_size account)) ∙ lt-leb (greatest_of (take account_size account)) most (omega (arith, h, is, same))

  pub roomy-by : g + 100_000_000_000_000 ≤ most → RoomyAccount account
  roomy-by h = record { kept = kept_by (omega arith); room = omega (arith, h, under) }

-- an account with room counts whatever a call was
pub room_for : {account : List ℕ} {event : Happening} → RoomyAccount account → Counting account event → is_account (account_after event account) ≡ true
room_for {account} roomy c = room_fits c (greatest_of (take account_size account)) roomy.room (omega arith)

-- numbers written over as many others or fewer
pub front-only : (front rest : List ℕ) → length rest ≤ length front → front ++ drop (length front) rest ≡ front
front-only front rest h = ap (λ (l : List ℕ). front ++ l) (ended rest (length front) h) ∙ append-nil front

-- the plain call on a copy of the state's numbers
module _ (xs account : List ℕ) (call : Call) (long : size ≤ length xs) {r : Answer} {copy ys : List ℕ} (copied : copy ≡ take size xs)
    (is : r ≡ call_answer copy call) (left : ys ≡ call_memory copy call) where
  pub copy-answer : r ≡ call_answer xs call
  copy-answer = is ∙ ap (λ (l : List ℕ). call_answer l call) copied ∙ answer-same xs long call

  module _ (h : is_refusal r ≡ false) where
    open-answer : is_refusal (call_answer xs call) ≡ false
    open-answer = ap is_refusal (sym copy-answer) ∙ h

    pub copy-memory : ys ++ drop size xs ≡ call_memory xs call
    copy-memory =
        ap (λ (l : List ℕ). l ++ drop size xs) (left ∙ ap (λ (l : List ℕ). call_memory l call) copied) ∙ memory-same xs long call open-answer

    pub copy-long : length ys ≡ size
    unfolding stored
    copy-long =
        let t = taken copy call (ap is_refusal (sym is) ∙ h) in
        let fits = sound-state-fits (done copy call) (after-sound copy t.ready call t.free) in
        ap length (left ∙ sym t.memory)
        ∙ omega (
          arith,
          length-append (encode (done copy call)) (drop size copy),
          encode-long (done copy call) fits [],
          length-drop size copy,
          ap length copied,
          length-take-le size xs long,
        )

    pub copy_told : {event : Happening} → event ≡ happening_of (open_root ys) call r → event ≡ happening_in xs call
    copy_told e = told copy call is left h e ∙ ap (λ (l : List ℕ). happening_in l call) copied ∙ happening-same xs long call open-answer
