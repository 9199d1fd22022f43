-- Laws of the bytes in front that have a property: how a loop reads them as a number. Assumes nothing.
use Prim.Native.Nat.{ℕ, suc, ◌+◌, ◌-◌, ◌*◌, ◌/◌, ◌%◌, ◌^◌, ◌≤◌, ◌<◌}
use mathlib.Core.Path.{◌≡◌, refl, sym, ap, ◌∙◌}
use mathlib.Core.Bool.{Bool, true, false, cond}
use mathlib.Core.List.{List, [], ◌∷◌, ◌++◌}
use lib.ListN.{length, get_or, take, drop, set, length-set}
use Rattle.std.proofs.lemmas.List.{append-nil, append_assoc, drop-set}
use lib.Arith.{digits_lt}
use native.Mathlib.Nat.{add-zero, pow-zero, pow-suc, pow-le-pow_right, add-mul, mul_assoc, mul_comm, mul-one, zero-mul}
use native.Mathlib.Numerals.{add-one}
use native.Mathlib.Omega.{arith}
use Rattle.text.specs.Text.{all, numeral}
use Rattle.text.specs.Inner.Taking.{front, run_read, last_digits}
use Rattle.laws.proofs.Lists.{from, ended}

module _ (p : ℕ → Bool) where
  pub front-all : (s : List ℕ) → all p (front p s) ≡ true
  unfolding all front
  front-all [] = refl
  front-all (x ∷ xs) = go (p x) refl (front-all xs)
    where
      go : (t : Bool) → p x ≡ t → all p (front p xs) ≡ true → all p (cond t (x ∷ front p xs) []) ≡ true
      go true e h = rw e h
      go false e h = refl

  pub front-le : (s : List ℕ) → length (front p s) ≤ length s
  unfolding front
  front-le [] = omega arith
  front-le (x ∷ xs) = go (p x) (front-le xs)
    where
      go : (t : Bool) → length (front p xs) ≤ length xs → length (cond t (x ∷ front p xs) []) ≤ suc (length xs)
      go true h = omega arith
      go false h = omega arith

more : (base d q n v : ℕ) {r : ℕ} → r ≡ q * base → v * r + (d * q + n) ≡ (v * base + d) * q + n
more base d q n v e = rw e (omega (arith, add-mul (v * base) d q, mul_assoc v base q, mul_comm q base))

-- a reading from the left: v is read of the bytes before i, which all have the property
pub record Running (p : ℕ → Bool) (base naught : ℕ) (s : List ℕ) (v i : ℕ) : Type 0 where
  pub place : length (front p s) ≡ i + length (front p (drop i s))
  pub whole : numeral base naught (front p s) ≡ v * base ^ length (front p (drop i s)) + numeral base naught (front p (drop i s))
  pub below : v < base ^ i

pub running_none : (p : ℕ → Bool) (base naught : ℕ) (s : List ℕ) → Running p base naught s 0 0
running_none p base naught s = record {
  place = omega arith;
  whole = rw zero-mul (omega arith);
  below = rw (pow-zero base) (omega arith);
}

module _ {p : ℕ → Bool} {base naught : ℕ} {s : List ℕ} {v i : ℕ} (r : Running p base naught s v i) where
  pub running_more : i < length s → p (get_or s i 0) ≡ true → {d : ℕ} → d ≡ get_or s i 0 - naught → d < base → Running p base naught s (v * base + d) (i + 1)
  unfolding front numeral
  running_more h t {d} e few =
      let next : front p (drop i s) ≡ get_or s i 0 ∷ front p (drop (i + 1) s) = rw (from s i h, t) in
      record {
        place = r.place ∙ rw next (omega arith);
        whole =
            r.whole
            ∙ rw (next, ← e) (more base d (base ^ length (front p (drop (i + 1) s))) (numeral base naught (front p (drop (i + 1) s))) v (pow-suc base (length (front p (drop (i + 1) s)))));
        below = rw (add-one i, pow-suc base i) (digits_lt r.below few);
      }

  -- a number with one digit more still has at most n places
  pub running-fits : (n d : ℕ) → i < n → d < base → v * base + d < base ^ n
  running-fits n d few m =
      let one : base ^ suc i ≤ base ^ n = pow-le-pow_right (omega arith) (omega arith) in
      omega (arith, digits_lt {q = v} {m = base ^ i} {r = d} {c = base} r.below m, pow-suc base i)

  -- where no byte is left in front, all is read
  stops : front p (drop i s) ≡ [] → (v, i) ≡ run_read p base naught s
  unfolding run_read numeral
  stops none = rw (r.place, r.whole, none, pow-zero, mul-one, add-zero v, add-zero i)

  pub running-off : i < length s → p (get_or s i 0) ≡ false → (v, i) ≡ run_read p base naught s
  unfolding front
  running-off h t = stops (rw (from s i h, t))

  pub running-end : length s ≤ i → (v, i) ≡ run_read p base naught s
  unfolding front
  running-end h = stops (rw (ended s i h))

-- the last digits from place i on are written over a room, and those of the rest are still to be
pub record Filling (base naught n : ℕ) (room : List ℕ) (rest i : ℕ) : Type 0 where
  pub within : i ≤ length room
  pub whole : last_digits base naught (length room) n ≡ last_digits base naught i rest ++ drop i room

pub filling-start : (base naught n : ℕ) (room : List ℕ) → Filling base naught n room n (length room)
filling-start base naught n room = record { within = omega arith; whole = rw (ended room (length room) (omega arith), append-nil) }

module _ {base naught n : ℕ} {room : List ℕ} {rest i : ℕ} (w : Filling base naught n room rest i) where
  pub filling-more : 0 < i → {v : ℕ} → v ≡ rest % base + naught → Filling base naught n (set room (i - 1) v) (rest / base) (i - 1)
  unfolding last_digits
  filling-more h {v} e =
      let here : i - 1 < length room = omega (arith, w.within) in
      let next : i ≡ suc (i - 1) = omega arith in
      let more : last_digits base naught i rest ++ drop i room ≡ last_digits base naught (i - 1) (rest / base) ++ (v ∷ drop (i - 1 + 1) room) =
      rw (e, add-one (i - 1)) (ap (λ (k : ℕ). last_digits base naught k rest ++ drop k room) next ∙ append_assoc (last_digits base naught (i - 1) (rest / base)) ((rest % base + naught) ∷ []) (drop (suc (i - 1)) room)) in
      record {
        within = omega (arith, length-set room (i - 1) v);
        whole = rw (length-set room (i - 1) v, drop-set room (i - 1) v here) (w.whole ∙ more);
      }

  pub filling-end : i ≤ 0 → room ≡ last_digits base naught (length room) n
  unfolding last_digits
  filling-end h = let none : i ≡ 0 = omega arith in sym (w.whole ∙ rw none)
