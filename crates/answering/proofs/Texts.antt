-- Numbers written into a room one after the other, and the length of an answer's row. Assumes nothing.
use Prim.Native.Nat.{ℕ, ◌+◌, ◌*◌, ◌≤◌, ◌<◌}
use mathlib.Core.Path.{◌≡◌, refl, sym, ap, ap₂, ◌∙◌}
use mathlib.Core.List.{List, [], ◌∷◌, ◌++◌}
use native.Mathlib.Numerals.{add-one}
use native.Mathlib.Omega.{arith}
use lib.ListN.{length, get_or, drop, set, length-append, length-set}
use lib.Seq.{sets, length-sets}
use Rattle.laws.proofs.Lists.{from, ended}
use Rattle.text.specs.Digits.{decimal}
use Rattle.text.proofs.Decimal.{decimal-few}
use Rattle.text.proofs.Written.{sets-append}
use Rattle.machine.specs.Judge.{numbers}
use Rattle.machine.specs.Answer.{Answer, Refused, Judged, Left, Standing as Stand}
use Rattle.answering.specs.Lines.{spaced}

-- numbers from place i on are still to be written, each after a space, and LF after the last
pub record Spacing (numbers was room : List ℕ) (at to i : ℕ) : Type 0 where
  pub within : i ≤ length numbers
  pub long : length room ≡ length was
  pub near : to ≤ at + i * 21
  pub ends : at + length (spaced numbers) ≡ to + length (spaced (drop i numbers))
  pub whole : sets was at (spaced numbers) ≡ sets room to (spaced (drop i numbers))

pub spacing-none : (numbers room : List ℕ) (at : ℕ) → Spacing numbers room room at at 0
spacing-none numbers room at = record { within = omega arith; long = refl; near = omega arith; ends = refl; whole = refl }

pub spacing-on : {numbers was room : List ℕ} {at to i : ℕ} → Spacing numbers was room at to i → i < length numbers
    → (next : ℕ) (now : List ℕ) → next ≡ to + 1 + length (decimal (get_or numbers i 0))
    → now ≡ sets (set room to 32) (to + 1) (decimal (get_or numbers i 0)) → Spacing numbers was now at next (i + 1)
unfolding spaced
spacing-on {numbers} {was} {room} {at} {to} {i} w h next now e p =
    let n = get_or numbers i 0 in
    let rest = spaced (drop (i + 1) numbers) in
    let here : spaced (drop i numbers) ≡ 32 ∷ (decimal n ++ rest) = ap spaced (from numbers i h) in
    let few = decimal-few n in
    record {
      within = omega arith;
      long = ap length p ∙ length-sets (set room to 32) (to + 1) (decimal n) ∙ length-set room to 32 ∙ w.long;
      near = omega (arith, w.near);
      ends = omega (arith, w.ends, ap length here, length-append (decimal n) rest);
      whole =
          w.whole ∙ ap (sets room to) here ∙ ap (λ (k : ℕ). sets (set room to 32) k (decimal n ++ rest)) (sym (add-one to))
          ∙ sets-append (set room to 32) (to + 1) (decimal n) rest ∙ ap₂ (λ (r : List ℕ) (k : ℕ). sets r k rest) (sym p) (sym e);
    }

pub spacing-end : {numbers was room : List ℕ} {at to i : ℕ} → Spacing numbers was room at to i → length numbers ≤ i
    → (to + 1 ≡ at + length (spaced numbers)) × ((set room to 10 ≡ sets was at (spaced numbers)) × (to + 1 ≤ at + length numbers * 21 + 1))
unfolding spaced
spacing-end {numbers} {was} {room} {at} {to} {i} w h =
    let here : spaced (drop i numbers) ≡ 10 ∷ [] = ap spaced (ended numbers i h) in
    (omega (arith, w.ends, ap length here), (sym (w.whole ∙ ap (sets room to) here), omega (arith, w.near, w.within)))

-- an answer's row has five numbers
numbers-five : (a : Answer) → 5 ≡ length (numbers a)
unfolding numbers
numbers-five (Refused n) = refl
numbers-five (Judged verdict grant roottrip firmtrip) = refl
numbers-five (Left n) = refl
numbers-five (Stand roots) = refl

pub five : {row : List ℕ} (a : Answer) → row ≡ numbers a → 5 ≡ length row
five {row} a e = numbers-five a ∙ ap length (sym e)
