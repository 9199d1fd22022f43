-- `bits::read_fields` meets its contract: each field is cut out of the number that the bytes are. Assumes nothing.
use mathlib.Core.Path.{◌≡◌, refl, sym, ap, ◌∙◌, subst}
use Prim.Native.Nat.{ℕ, ◌-◌, ◌*◌, ◌/◌, ◌%◌, ◌^◌, ◌<◌}
use native.Mathlib.Omega.{arith}
use native.Mathlib.Numerals.{add-one}
use native.Mathlib.Nat.{one-mul, mod-eq_of_lt}
use lib.ListN.{length, get_or}
use lib.Pow.{pow-lt}
use Rattle.bits.specs.Fields.{packed, unpacked, eights, fields_of}
use Rattle.bits.proofs.Packing.{packed_lt, bytes_fit, total-eights}
use Rattle.bits.proofs.Giving.{total-drop-le, given-none, given-width, given-on, given-all}
use Rattle.bits.proofs.read_fields.Goals as goal

pub loop-j-init : goal.loop-j-init
loop-j-init c =
    let s = c.args.s.now in
    let small = subst (λ (b : ℕ). packed (eights (length s)) s < 2 ^ b) (total-eights (length s)) (packed_lt _ _ (bytes_fit s (λ i. omega (arith, c.type_inv.s i)))) in
    given-none _ _ _ _ (sym c.requires.widths_len) (sym c.requires.widths_value) (rw c.number-number.ensures small)

pub overflow_sub-below : goal.overflow_sub-below
overflow_sub-below c = given-width c.loop-j.invariant c.loop-j-test.true

pub overflow_shr-out : goal.overflow_shr-out
overflow_shr-out c = omega (arith, c.loop-j.invariant.rest, total-drop-le c.args.widths.now c.loop-j.j, c.requires.by_index c.loop-j.j c.loop-j-test.true)

pub loop-j-preserved : goal.loop-j-preserved
loop-j-preserved c =
    let w = get_or c.args.widths.now c.loop-j.j 0 in
    let narrow : w < 128 = omega (arith, c.requires.by_index c.loop-j.j c.loop-j-test.true) in
    let mask : 1 * 2 ^ w % 2 ^ 128 ≡ 2 ^ w = rw (one-mul (2 ^ w)) (mod-eq_of_lt (pow-lt narrow)) in
    rw add-one (given-on c.loop-j.invariant c.loop-j-test.true w _ refl (ap (λ (m : ℕ). c.number-number.result / 2 ^ (c.loop-j.below - w) % m) mask))

pub returns : goal.returns
unfolding fields_of
returns c = given-all c.loop-j.invariant c.loop-j-test.false ∙ ap (unpacked c.args.widths.now) c.number-number.ensures
