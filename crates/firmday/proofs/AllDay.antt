-- The memory follows the state's meaning all day, whatever is asked for either firm. Assumes nothing.
use Prim.Native.Nat.{ℕ}
use native.Mathlib.Omega.{arith}
use mathlib.Core.Path.{◌≡◌, refl, sym, ap, ap₂, ◌∙◌, subst⁻¹}
use mathlib.Core.Logic.{inr}
use mathlib.Core.Bool.{Bool, true, false, cond}
use mathlib.Core.List.{List, [], ◌∷◌, ◌++◌}
use lib.ListN.{get_or}
use lib.Dec.{eqb}
use borrow.Author.Tests.{eq-eqb, eqb-true, le-ltb}
use Rattle.rules.specs.Allowance.{All}
use Rattle.machine.specs.State.{Profile}
use Rattle.machine.specs.Calls.{Call}
use Rattle.profile.specs.Profile.{outcome_of}
use Rattle.state.specs.Sound.{Given}
use Rattle.firms.specs.Seats.{Seats, vacant}
use Rattle.firms.specs.Doings.{Doing, arm as arming, call as calling, clear as clearing, Reply, reply_to, after_doing}
use Rattle.firms.specs.Runs.{Asked, of, after_asked, seats_after, is_same, Day, day_by, day_after as meant_day, day_of}
use Rattle.firms.proofs.Sound.{vacant-sound}
use Rattle.firms.proofs.Days.{OfDoing}
use Rattle.seats.specs.Memory.{seat_part, decode_seat, decode_seats, clear_all_memory}
use Rattle.seats.proofs.Armable.{part-mark}
use Rattle.firmday.specs.Day.{Asking, arm, call, clear, clear_all, number_of, memory_after, memory_at, day_after, day_at, asked, asked_all}
use Rattle.firmday.specs.Promised.{Unarmed}
use Rattle.firmday.proofs.Follows.{Lent, Goes, stored-lent, call-goes, clear-goes}
use Rattle.firmday.proofs.Arming.{arm_goes}

same_cond : (b : Bool) (day : Day) → cond b day day ≡ day
same_cond true day = refl
same_cond false day = refl

abbrev Follows : List ℕ → Asking → Type 0
Follows xs a =
    Goes (memory_after xs a) (seats_after (decode_seats xs) (asked a))
    × ((firm : Bool) (day : Day) → day_after firm xs a day ≡ day_of firm (decode_seats xs) (asked a) day)

-- ---- one thing that is asked

call-follows : (xs : List ℕ) → Lent xs → (g : Bool) (c : Call) → Follows xs (call g c)
unfolding memory_after asked seats_after after_asked day_after day_of meant_day day_by number_of
call-follows xs l true c =
    let g = call-goes xs l 1 (omega arith) c in
    (g.0, λ firm day. ap (λ (r : Reply). cond (is_same firm true) (day_by (calling c) r day) day) g.1)
call-follows xs l false c =
    let g = call-goes xs l 0 (omega arith) c in
    (g.0, λ firm day. ap (λ (r : Reply). cond (is_same firm false) (day_by (calling c) r day) day) g.1)

clear-follows : (xs : List ℕ) → Lent xs → (g : Bool) → Follows xs (clear g)
unfolding memory_after asked seats_after after_asked day_after day_of meant_day day_by number_of
clear-follows xs l true = (clear-goes xs l 1 (omega arith), λ firm day. sym (same_cond (is_same firm true) day))
clear-follows xs l false = (clear-goes xs l 0 (omega arith), λ firm day. sym (same_cond (is_same firm false) day))

all-follows : (xs : List ℕ) → Lent xs → Follows xs clear_all
unfolding memory_after asked seats_after after_asked day_after day_of meant_day clear_all_memory
all-follows xs l = (subst⁻¹ (λ (ys : List ℕ). Goes ys vacant) (rw (le-ltb _ _ l.long)) (stored-lent vacant (vacant-sound Given) xs), λ firm day. refl)

-- by whether the text is accepted by itself
told : (b : Bool) (u : Seats) (g : Bool) (p : Profile) {ys : List ℕ} → Goes ys (cond b (after_doing g u (arming p)) u)
    → Goes ys (seats_after u (cond b (of g (arming p) ∷ []) []))
unfolding seats_after after_asked
told true u g p h = h
told false u g p h = h

meant : (b : Bool) (u : Seats) (g : Bool) (p : Profile) (firm : Bool) (day now : Day) → now ≡ cond b (day_by (arming p) (reply_to g u (arming p)) day) day
    → cond (is_same firm g) now day ≡ day_of firm u (cond b (of g (arming p) ∷ []) []) day
unfolding day_of meant_day
meant true u g p firm day now e = ap (λ (d : Day). cond (is_same firm g) d day) e
meant false u g p firm day now e = ap (λ (d : Day). cond (is_same firm g) d day) e ∙ same_cond (is_same firm g) day

arm-follows : (xs : List ℕ) → Lent xs → (g : Bool) (text : List ℕ) → Follows xs (arm g text)
unfolding memory_after asked day_after number_of
arm-follows xs l true text =
    let h = arm_goes xs l 1 (omega arith) text in
    (told (eqb (outcome_of text).refusal 0) (decode_seats xs) true (outcome_of text).profile h.0, λ firm day. meant (eqb (outcome_of text).refusal 0) (decode_seats xs) true (outcome_of text).profile firm day _ (h.1 day))
arm-follows xs l false text =
    let h = arm_goes xs l 0 (omega arith) text in
    (told (eqb (outcome_of text).refusal 0) (decode_seats xs) false (outcome_of text).profile h.0, λ firm day. meant (eqb (outcome_of text).refusal 0) (decode_seats xs) false (outcome_of text).profile firm day _ (h.1 day))

pub step_follows : (xs : List ℕ) → Lent xs → (a : Asking) → Follows xs a
step_follows xs l (arm g text) = arm-follows xs l g text
step_follows xs l (call g c) = call-follows xs l g c
step_follows xs l (clear g) = clear-follows xs l g
step_follows xs l clear_all = all-follows xs l

-- ---- a whole day

after_both : (qs bs : List Asked) (u : Seats) → seats_after u (qs ++ bs) ≡ seats_after (seats_after u qs) bs
unfolding seats_after
after_both [] bs u = refl
after_both (a ∷ qs) bs u = after_both qs bs (after_asked u a)

day-both : (firm : Bool) (qs bs : List Asked) (u : Seats) (day : Day) → day_of firm u (qs ++ bs) day ≡ day_of firm (seats_after u qs) bs (day_of firm u qs day)
unfolding seats_after day_of
day-both firm [] bs u day = refl
day-both firm (a ∷ qs) bs u day = day-both firm qs bs (after_asked u a) (meant_day firm u a day)

-- THE MEMORY FOLLOWS THE STATE'S MEANING ALL DAY, whatever is asked for either firm, and each firm's day is the one that the meaning has
pub day-follows : (qs : List Asking) (xs : List ℕ) → Lent xs
    → Goes (memory_at xs qs) (seats_after (decode_seats xs) (asked_all qs)) × ((firm : Bool) (day : Day) → day_at firm xs qs day ≡ day_of firm (decode_seats xs) (asked_all qs) day)
unfolding memory_at asked_all day_at seats_after day_of
day-follows [] xs l = ((l, refl), λ firm day. refl)
day-follows (a ∷ qs) xs l =
    let s = step_follows xs l a in
    let r = day-follows qs (memory_after xs a) s.0.0 in (
      (r.0.0, r.0.1 ∙ (ap (λ (u : Seats). seats_after u (asked_all qs)) s.0.1 ∙ sym (after_both (asked a) (asked_all qs) (decode_seats xs)))),
      λ firm day. r.1 firm (day_after firm xs a day)
          ∙ (ap₂ (λ (u : Seats) (d : Day). day_of firm u (asked_all qs) d) s.0.1 (s.1 firm day) ∙ sym (day-both firm (asked a) (asked_all qs) (decode_seats xs) day)),
    )

-- what holds of every arming with a text that is accepted, of every call and of every clearing holds of all that is asked
pub asked-all : (Done : Doing → Type 0) → ((text : List ℕ) → (outcome_of text).refusal ≡ 0 → Done (arming (outcome_of text).profile))
    → ((c : Call) → Done (calling c)) → Done clearing → (qs : List Asking) → All (OfDoing Done) (asked_all qs)
unfolding asked_all asked OfDoing
asked-all Done armed called cleared [] = tt
asked-all Done armed called cleared (arm g text ∷ qs) = go (eqb (outcome_of text).refusal 0) refl (asked-all Done armed called cleared qs)
  where
    go : (b : Bool) → eqb (outcome_of text).refusal 0 ≡ b → All (OfDoing Done) (asked_all qs)
        → All (OfDoing Done) (cond b (of g (arming (outcome_of text).profile) ∷ []) [] ++ asked_all qs)
    go true e more = (armed text (eqb-true _ _ e), more)
    go false e more = more
asked-all Done armed called cleared (call g c ∷ qs) = (called c, asked-all Done armed called cleared qs)
asked-all Done armed called cleared (clear g ∷ qs) = (cleared, asked-all Done armed called cleared qs)
asked-all Done armed called cleared (clear_all ∷ qs) = (tt, asked-all Done armed called cleared qs)

-- memory in which no firm is armed
pub unarmed-lent : (xs : List ℕ) → Unarmed xs → Lent xs × (decode_seats xs ≡ vacant)
unfolding decode_seats decode_seat vacant
unarmed-lent xs un = (record { long = un.long; held = inr none }, none)
  where
    none : decode_seats xs ≡ vacant
    none = rw (eq-eqb (get_or (seat_part 0 xs) 0 0) 0 (part-mark xs 0 ∙ un.first), eq-eqb (get_or (seat_part 1 xs) 0 0) 0 (part-mark xs 1 ∙ un.second))
