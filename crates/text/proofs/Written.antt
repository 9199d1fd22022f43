-- Texts written into a room one after the other, and digits written from the last one on. Assumes nothing.
use Prim.Native.Nat.{ℕ, zero, suc, ◌+◌, ◌-◌, ◌/◌, ◌%◌, ◌≤◌, ◌<◌}
use mathlib.Core.Path.{◌≡◌, refl, sym, ap, ap₂, ◌∙◌}
use mathlib.Core.Bool.{Bool, true, false, cond}
use mathlib.Core.List.{List, [], ◌∷◌, ◌++◌, map, map-append}
use native.Mathlib.Nat.{add-zero, zero-add}
use native.Mathlib.Numerals.{add-one}
use native.Mathlib.Omega.{arith}
use lib.Dec.{eqb}
use lib.ListN.{length, take, drop, set, length-append, length-map, length-take, length-drop}
use lib.Seq.{sets, sets-eq, take-length}
use borrow.Rule.Slice.PartMut.{put_mid}
use Rattle.std.proofs.lemmas.Slice.{put_mid-paste}
use Rattle.text.specs.Digits.{digits_up_to, name_bytes, decimal}
use Rattle.text.specs.Inner.Taking.{last_digits}

-- two texts written one after the other are one text
pub sets-append : (room : List ℕ) (at : ℕ) (a b : List ℕ) → sets room at (a ++ b) ≡ sets (sets room at a) (at + length a) b
sets-append room at [] b = ap (λ (i : ℕ). sets room i b) (sym (add-zero at))
sets-append room at (x ∷ a) b =
    let n : suc at + length a ≡ at + suc (length a) = omega arith in
    sets-append (set room at x) (suc at) a b ∙ ap (λ (i : ℕ). sets (sets (set room at x) (suc at) a) i b) n

pub then-written : (was a b : List ℕ) (at : ℕ) {mid now : List ℕ} {to r : ℕ} → to ≡ at + length a → mid ≡ sets was at a → r ≡ to + length b → now ≡ sets mid to b
    → (r ≡ at + length (a ++ b)) × (now ≡ sets was at (a ++ b))
then-written was a b at {mid} {now} {to} {r} e p f q =
    (omega (arith, length-append a b), q ∙ ap₂ (λ (l : List ℕ) (k : ℕ). sets l k b) p e ∙ sym (sets-append was at a b))

-- a text at the front of a room: the room after it is untouched
pub sets-front : (text room : List ℕ) → length text ≤ length room → sets room 0 text ≡ text ++ drop (length text) room
sets-front text room h = sets-eq text room 0 (omega arith) ∙ ap (λ (n : ℕ). text ++ drop n room) (zero-add (length text))

-- a text that is written over a part of a room is written there
pub over-place : (room text part : List ℕ) (at k : ℕ) → part ≡ text → length text ≡ k → at + length text ≤ length room → put_mid at k room part ≡ sets room at text
over-place room text part at k same long h =
    put_mid-paste at k room part text (length text) same long refl
    ∙ ap (λ (l : List ℕ). take at room ++ l ++ drop (at + length text) room) (take-length text) ∙ sym (sets-eq text room at h)

-- how long that part is
pub part-long : (room : List ℕ) (at k n : ℕ) → k ≡ n → at + n ≤ length room → length (take k (drop at room)) ≡ n
part-long room at k n e h = omega (arith, length-take k (drop at room), length-drop at room)

-- the digits of a number are the last ones, as many as they are
digits_are : (base naught most n : ℕ) → map (λ d. d + naught) (digits_up_to base most n) ≡ last_digits base naught (length (digits_up_to base most n)) n
unfolding digits_up_to last_digits
digits_are base naught zero n = refl
digits_are base naught (suc most) n = go (eqb n 0) (digits_are base naught most (n / base))
  where
    above : List ℕ
    above = digits_up_to base most (n / base)

    go : (t : Bool) → map (λ d. d + naught) above ≡ last_digits base naught (length above) (n / base)
        → map (λ d. d + naught) (cond t [] (above ++ ((n % base) ∷ []))) ≡ last_digits base naught (length (cond t [] (above ++ ((n % base) ∷ [])))) n
    go true h = refl
    go false h =
        let long : length (above ++ ((n % base) ∷ [])) ≡ suc (length above) = length-append above ((n % base) ∷ []) ∙ add-one _ in
        map-append (λ d. d + naught) above ((n % base) ∷ []) ∙ ap (λ (l : List ℕ). l ++ ((n % base + naught) ∷ [])) h
        ∙ ap (λ (k : ℕ). last_digits base naught k n) (sym long)

-- a name's bytes, and a number's decimal digits, so
map_same : (s : List ℕ) → map (λ d. d + 0) s ≡ s
map_same [] = refl
map_same (x ∷ s) = rw (add-zero x, map_same s)

pub name-last : (n : ℕ) → name_bytes n ≡ last_digits 256 0 (length (name_bytes n)) n
unfolding name_bytes
name-last n = sym (map_same (digits_up_to 256 8 n)) ∙ digits_are 256 0 8 n

pub decimal-last : (n : ℕ) → decimal n ≡ last_digits 10 48 (length (decimal n)) n
unfolding decimal last_digits
decimal-last n =
    let above = digits_up_to 10 19 (n / 10) in
    let long : length (map (λ d. d + 48) (above ++ ((n % 10) ∷ []))) ≡ suc (length above) =
    length-map (above ++ ((n % 10) ∷ [])) (λ d. d + 48) ∙ length-append above ((n % 10) ∷ []) ∙ add-one _ in
    map-append (λ d. d + 48) above ((n % 10) ∷ []) ∙ ap (λ (l : List ℕ). l ++ ((n % 10 + 48) ∷ [])) (digits_are 10 48 19 (n / 10))
    ∙ ap (λ (k : ℕ). last_digits 10 48 k n) (sym long)
