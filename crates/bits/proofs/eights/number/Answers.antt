-- `bits::eights::number` meets its contract: the first bytes stand above the word of the last eight. Assumes nothing.
use mathlib.Core.Path.{◌≡◌, ap, ap₂, ◌∙◌}
use mathlib.Core.List.{List}
use Prim.Native.Nat.{ℕ, ◌+◌, ◌-◌, ◌*◌, ◌/◌, ◌^◌}
use native.Mathlib.Omega.{arith}
use lib.ListN.{length, take, drop, length-drop}
use lib.Seq.{take_all}
use Rattle.bits.specs.Fields.{packed, eights}
use Rattle.bits.proofs.Packing.{bytes_fit}
use Rattle.bits.proofs.Joining.{halves, first-bytes}
use Rattle.bits.proofs.eights.number.Goals as goal

pub returns : goal.returns
returns c =
    let s = c.args.s.now in
    let k = length s - 8 in
    let e : k + 8 ≡ length s = omega arith in
    let first = c.from.ensures ∙ ap (λ (x : ℕ). x / 2 ^ (64 - k * 8)) c.word.ensures ∙ first-bytes s k e (omega arith) (bytes_fit s (λ i. omega (arith, c.type_inv.s i))) in
    let whole : take (length s - k) (drop k s) ≡ drop k s = take_all (length s - k) (drop k s) (omega (arith, length-drop k s)) in
    let eight : 8 ≡ length (drop k s) = omega (arith, length-drop k s) in
    let second = c.from-2.ensures ∙ c.word-2.ensures ∙ ap₂ (λ (n : ℕ) (xs : List ℕ). packed (eights n) xs) eight whole in
    ap₂ (λ (a b : ℕ). a * 2 ^ 64 + b) first second ∙ halves s k e
