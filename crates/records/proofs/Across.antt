-- An event's values in the other form: they are an event's there, and come back as they were. Assumes nothing.
use Prim.Native.Nat.{ℕ, ◌*◌, ◌/◌, ◌%◌, ◌≤◌, zero-le}
use mathlib.Core.Path.{◌≡◌, refl, ◌∙◌}
use mathlib.Core.Bool.{true, false≢true}
use native.Mathlib.Nat.{mul-mod_left, mul-div_cancel, div-add-mod'}
use native.Mathlib.Omega.{arith}
use lib.ListN.{get_or}
use lib.Dec.{leb, eqb, lit<}
use borrow.Author.Tests.{le-leb, eqb-true}
use Rattle.measures.specs.Ranges.{is_in, times}
use Rattle.laws.proofs.Tests.{tests, and_l, and_r, and_i}
use Rattle.records.specs.Form.{stands}
use Rattle.records.specs.declared.Event.{Event}
use Rattle.records.specs.declared.Event.TheVariants.{Order, Offer, Lockout}
use Rattle.records.specs.declared.Event16.{Event16}
use Rattle.records.specs.declared.Event16.TheVariants.{Order as Order16, Offer as Offer16, Lockout as Lockout16, Sending, Report, Closing}
use Rattle.records.specs.Event.{values_of, is_valid, form}
use Rattle.records.specs.Event16.{values16_of, is_valid16, form16, stamps}
use Rattle.records.specs.Moves.{widened, moves_back, narrowed}
use Rattle.records.proofs.Round.{stands_of}
use Rattle.records.proofs.Forms.{lawful, lawful16}

-- a time is at most the last millisecond of the day

pub time-most : (e : Event) → is_valid e ≡ true → get_or (values_of e) 1 0 ≤ 86_399_999
unfolding is_valid values_of
time-most (Order time root reset) h = search tests depth 14
time-most (Offer time root unit premium contracts) h = search tests depth 14
time-most (Lockout time level root) h = search tests depth 14

stamped : (t : ℕ) → is_in times t ≡ true → is_in stamps (t * 1000) ≡ true
stamped t h = let m : t ≤ 86_399_999 = search tests depth 14 in and_i (le-leb 0 (t * 1000) zero-le) (le-leb (t * 1000) 86_399_999_999 (omega arith))

-- an old event's values are a new event's after times 1000
pub widened-stands : (e : Event) → is_valid e ≡ true → stands form16 (widened (values_of e)) ≡ true
unfolding widened values_of is_valid values16_of is_valid16
widened-stands (Order time root reset) h =
    let r : reset ≤ 3 = search tests depth 14 in
    stands_of form16 lawful16 (Order16 (time * 1000) root reset)
    ∙ and_i (and_i (stamped time (search tests depth 14)) (search tests depth 14)) (and_i (le-leb 0 reset zero-le) (le-leb reset 6 (omega arith)))
widened-stands (Offer time root unit premium contracts) h =
    stands_of form16 lawful16 (Offer16 (time * 1000) root unit premium contracts)
    ∙ and_i (and_i (and_i (and_i (stamped time (search tests depth 14)) (search tests depth 14)) (search tests depth 14)) (search tests depth 14)) (search tests depth 14)
widened-stands (Lockout time level root) h =
    stands_of form16 lawful16 (Lockout16 (time * 1000) level root)
    ∙ and_i (and_i (and_i (stamped time (search tests depth 14)) (search tests depth 14)) (search tests depth 14)) (search tests depth 14)

-- it moves back, and comes back as it was
whole : (t : ℕ) → t * 1000 / 1000 ≡ t
whole t = mul-div_cancel t {n = 1000} (lit< tt)

pub widened-back : (e : Event) → is_valid e ≡ true → (moves_back (widened (values_of e)) ≡ true) × (narrowed (widened (values_of e)) ≡ values_of e)
unfolding widened narrowed moves_back values_of is_valid
widened-back (Order time root reset) h =
    let r : reset ≤ 3 = search tests depth 14 in
    rw (mul-mod_left time 1000, whole time, le-leb reset 3 r) (refl, refl)
widened-back (Offer time root unit premium contracts) h = rw (mul-mod_left time 1000, whole time) (refl, refl)
widened-back (Lockout time level root) h = rw (mul-mod_left time 1000, whole time) (refl, refl)

-- what a new event that moves back has: whole milliseconds
milliseconds : (t : ℕ) → is_in stamps t ≡ true → is_in times (t / 1000) ≡ true
milliseconds t h = let m : t ≤ 86_399_999_999 = search tests depth 14 in and_i (le-leb 0 (t / 1000) zero-le) (le-leb (t / 1000) 86_399_999 (omega arith))

multiple : (t : ℕ) → t % 1000 ≡ 0 → t / 1000 * 1000 ≡ t
multiple t h = omega (arith, div-add-mod' t 1000)

-- a new event that moves back has the values of an old event, and comes back as it was
pub narrowed-stands : (e : Event16) → is_valid16 e ≡ true → moves_back (values16_of e) ≡ true → stands form (narrowed (values16_of e)) ≡ true
unfolding narrowed moves_back values16_of is_valid16 values_of is_valid
narrowed-stands (Order16 time root reset) h b =
    stands_of form lawful (Order (time / 1000) root reset)
    ∙ and_i (and_i (milliseconds time (search tests depth 14)) (search tests depth 14)) (and_i (le-leb 0 reset zero-le) (and_r (eqb (time % 1000) 0) (leb reset 3) b))
narrowed-stands (Offer16 time root unit premium contracts) h b =
    stands_of form lawful (Offer (time / 1000) root unit premium contracts)
    ∙ and_i (and_i (and_i (and_i (milliseconds time (search tests depth 14)) (search tests depth 14)) (search tests depth 14)) (search tests depth 14)) (search tests depth 14)
narrowed-stands (Lockout16 time level root) h b =
    stands_of form lawful (Lockout (time / 1000) level root)
    ∙ and_i (and_i (and_i (milliseconds time (search tests depth 14)) (search tests depth 14)) (search tests depth 14)) (search tests depth 14)
narrowed-stands (Sending time root unit premium contracts identity reports) h b = absurd (false≢true b)
narrowed-stands (Report time identity contracts) h b = absurd (false≢true b)
narrowed-stands (Closing time identity) h b = absurd (false≢true b)

pub narrowed-back : (e : Event16) → moves_back (values16_of e) ≡ true → widened (narrowed (values16_of e)) ≡ values16_of e
unfolding narrowed widened moves_back values16_of
narrowed-back (Order16 time root reset) b = rw (multiple time (eqb-true (time % 1000) 0 (and_l (eqb (time % 1000) 0) (leb reset 3) b)))
narrowed-back (Offer16 time root unit premium contracts) b = rw (multiple time (eqb-true (time % 1000) 0 (and_l (eqb (time % 1000) 0) true b)))
narrowed-back (Lockout16 time level root) b = rw (multiple time (eqb-true (time % 1000) 0 (and_l (eqb (time % 1000) 0) true b)))
narrowed-back (Sending time root unit premium contracts identity reports) b = absurd (false≢true b)
narrowed-back (Report time identity contracts) b = absurd (false≢true b)
narrowed-back (Closing time identity) b = absurd (false≢true b)
