-- `bits::write_fields` meets its contract: each value goes in below the earlier ones, and the number's bytes are the room's first. Assumes nothing.
use mathlib.Core.Path.{◌≡◌, sym, ap, ap₂, ◌∙◌, subst}
use mathlib.Core.Logic.{inl, inr}
use mathlib.Core.List.{List, ◌∷◌, ◌++◌}
use Prim.Native.Nat.{ℕ, ◌*◌, ◌^◌, ◌≤◌, ◌<◌}
use native.Mathlib.Nat.{lt_of_lt_of_le}
use native.Mathlib.Omega.{arith}
use lib.ListN.{length, take, drop}
use lib.Seq.{length-take-le}
use lib.Pow.{pow_mono}
use Rattle.std.proofs.Common.{rules}
use Rattle.bits.specs.Fields.{total, packed, unpacked, eights, bytes_of}
use Rattle.bits.proofs.Packing.{packed_lt}
use Rattle.bits.proofs.Placing.{Placed, placed-none, placed_lt, placed-on, placed-all}
use Rattle.bits.proofs.write_fields.Goals.{In-Some, In-None}
use Rattle.bits.proofs.write_fields.Goals as goal

-- the number that all values make
whole : (c : In-None) → c.loop-value.number ≡ packed c.args.widths.now c.args.vals.now
whole c = placed-all _ _ c.loop-value.invariant (elim c.in-None.ensures.steps [ inl s ↦ inl s.1.0 | inr s ↦ inr s.1.0 ])

-- in the loop: the next value and width come first, and the number fits
module _ (c : In-Some) where
  here : Placed (packed c.args.widths.now c.args.vals.now) c.loop-value.number (c.in-Some.width.now ∷ c.next.new.self.b.rest.now) (c.in-Some.value.now ∷ c.next.new.self.a.rest.now)
  here = let s = c.in-Some.ensures.steps in rw (← s.0, ← s.1) c.loop-value.invariant

  small : packed c.args.widths.now c.args.vals.now < 2 ^ 128
  small =
      let bits : total c.args.widths.now ≤ 128 = omega (arith, c.requires.widths_value) in
      lt_of_lt_of_le (packed_lt _ _ c.requires.fit) (pow_mono bits)

pub loop-value-init : goal.loop-value-init
loop-value-init c =
    let a : c.into_iter-value-iterator.result.a.rest.now ≡ c.args.vals.now = search rules in
    let b : c.into_iter-value-iterator.result.b.rest.now ≡ c.args.widths.now = search rules in
    rw (a, b) (placed-none _ _ c.requires.fit)

pub overflow_add-number : goal.overflow_add-number
overflow_add-number c = let i = (goal.at.overflow_add-number c).In-Some in record { fits = rw c.from.ensures (placed_lt (here i) (small i)) }

pub loop-value-preserved : goal.loop-value-preserved
loop-value-preserved c = let i = (goal.at.loop-value-preserved c).In-Some in rw c.from.ensures (placed-on (here i) (small i))

pub put_number-requires-clause-fits : goal.put_number-requires-clause-fits
put_number-requires-clause-fits c =
    let long : length (take c.args.bytes c.args.room.now) ≡ c.args.bytes = length-take-le c.args.bytes c.args.room.now c.requires.le_bytes.2 in
    let bits = c.requires.widths_value ∙ ap (λ (m : ℕ). m * 8) (sym long) in
    rw (whole (goal.at.put_number-requires-clause-fits c).In-None) (subst (λ (b : ℕ). packed c.args.widths.now c.args.vals.now < 2 ^ b) bits (packed_lt _ _ c.requires.fit))

pub returns : goal.returns
unfolding bytes_of
returns c =
    let long : length (take c.args.bytes c.args.room.now) ≡ c.args.bytes = length-take-le c.args.bytes c.args.room.now c.requires.le_bytes.2 in
    let all = whole (goal.at.returns c).In-None in
    ap (λ (xs : List ℕ). xs ++ drop c.args.bytes c.args.room.now) (c.put_number.ensures ∙ ap₂ (λ (m x : ℕ). unpacked (eights m) x) long all)
