-- `bits::eights::put_number` meets its contract: the first bytes are written with all of their word, the last eight over them. Assumes nothing.
use mathlib.Core.Path.{◌≡◌, sym, ap, ap₂, ◌∙◌, subst}
use mathlib.Core.List.{List, ◌++◌}
use Prim.Native.Nat.{ℕ, ◌+◌, ◌-◌, ◌*◌, ◌/◌, ◌^◌, ◌<◌}
use native.Mathlib.Omega.{arith}
use lib.ListN.{length, take}
use Rattle.bits.specs.Fields.{unpacked, eights}
use Rattle.bits.proofs.Packing.{length-unpacked, length-eights}
use Rattle.bits.proofs.Joining.{both_bytes, front_lt, front_bytes, over}
use Rattle.bits.proofs.eights.put_number.Goals as goal

pub overflow_cast-n : goal.overflow_cast-n
overflow_cast-n c =
    let k = length c.args.out.now - 8 in
    let e : length c.args.out.now ≡ k + 8 = omega arith in
    record { fits = front_lt c.args.n k (subst (λ (m : ℕ). c.args.n < 2 ^ (m * 8)) e c.requires.fits) }

pub returns : goal.returns
returns c =
    let n = c.args.n in
    let out = c.args.out.now in
    let k = length out - 8 in
    let e : length out ≡ k + 8 = omega arith in
    let small : n < 2 ^ ((k + 8) * 8) = subst (λ (m : ℕ). n < 2 ^ (m * 8)) e c.requires.fits in
    let first : take k c.put_word.new.out ≡ unpacked (eights k) (n / 2 ^ 64) = ap (take k) c.put_word.ensures ∙ front_bytes n k small (omega arith) in
    over out c.put_word.new.out c.put_word-2.new.out (omega arith) (omega arith) (ap length c.put_word.ensures ∙ length-unpacked (eights 8) _ ∙ length-eights 8)
    ∙ ap₂ (λ (x y : List ℕ). x ++ y) first c.put_word-2.ensures ∙ sym (both_bytes n k small) ∙ ap (λ (m : ℕ). unpacked (eights m) n) (sym e)
