-- A list of fields given out one by one, the first on top. Assumes nothing.
use mathlib.Core.Path.{◌≡◌, sym, ap, ap₂, ◌∙◌}
use mathlib.Core.List.{List, [], ◌∷◌, ◌++◌, append_assoc, append-nil}
use Prim.Native.Nat.{ℕ, zero, suc, ◌+◌, ◌-◌, ◌/◌, ◌%◌, ◌^◌, ◌≤◌, ◌<◌, zero-le}
use native.Mathlib.Nat.{mod-eq_of_lt, le_refl, le_trans}
use native.Mathlib.Omega.{arith}
use lib.ListN.{length, get_or, take, drop, set, length-set, drop_of_length-le}
use lib.Seq.{take_all, drop-cons, take-suc-set}
use lib.Pow.{mod-mod-pow, field}
use Rattle.bits.specs.Fields.{total, unpacked}

-- fields from place j on are still to be given out, of a number n of which the bits below are left

pub record Given (widths out : List ℕ) (n below j : ℕ) : Type 0 where
  pub long : length out ≡ length widths
  pub j-le : j ≤ length widths
  pub rest : below ≡ total (drop j widths)
  pub value : take j out ++ unpacked (drop j widths) (n % 2 ^ below) ≡ unpacked widths n

pub total-drop : (ws : List ℕ) (i : ℕ) → i < length ws → total (drop i ws) ≡ get_or ws i 0 + total (drop (suc i) ws)
unfolding total
total-drop ws i h = ap total (drop-cons ws i 0 h)

pub total-drop-le : (ws : List ℕ) (i : ℕ) → total (drop i ws) ≤ total ws
unfolding total
total-drop-le [] zero = zero-le
total-drop-le [] (suc i) = zero-le
total-drop-le (w ∷ ws) zero = le_refl _
total-drop-le (w ∷ ws) (suc i) = le_trans (total-drop-le ws i) (omega arith)

pub given-none : (widths out : List ℕ) (n below : ℕ) → length out ≡ length widths → below ≡ total widths → n < 2 ^ below → Given widths out n below 0
given-none widths out n below l e h = record { long = l; j-le = zero-le; rest = e; value = ap (unpacked widths) (mod-eq_of_lt h) }

module _ {widths out : List ℕ} {n below j : ℕ} (g : Given widths out n below j) (h : j < length widths) where
  -- the next width is among the bits that are left
  pub given-width : get_or widths j 0 ≤ below
  given-width = omega (arith, total-drop widths j h, g.rest)

  pub given-on : (w x : ℕ) → get_or widths j 0 ≡ w → x ≡ n / 2 ^ (below - w) % 2 ^ w → Given widths (set out j x) n (below - w) (suc j)
  unfolding unpacked
  given-on w x ew ex =
      let t = total (drop (suc j) widths) in
      let b : below - w ≡ t = omega (arith, total-drop widths j h, g.rest) in
      let all : below ≡ w + t = omega (arith, total-drop widths j h, g.rest) in
      let at : drop j widths ≡ w ∷ drop (suc j) widths = drop-cons widths j 0 h ∙ ap (λ (k : ℕ). k ∷ drop (suc j) widths) ew in
      let here : unpacked (drop j widths) (n % 2 ^ below) ≡ x ∷ unpacked (drop (suc j) widths) (n % 2 ^ t) =
      ap₂ (λ (ws : List ℕ) (k : ℕ). unpacked ws (n % 2 ^ k)) at all
      ∙ ap₂ (λ (y z : ℕ). y ∷ unpacked (drop (suc j) widths) z)
      (field n w t ∙ ap (λ (k : ℕ). n / 2 ^ k % 2 ^ w) (sym b) ∙ sym ex) (mod-mod-pow n w t) in
      record {
        long = length-set out j x ∙ g.long;
        j-le = h;
        rest = b;
        value =
            ap₂ (λ (a b : List ℕ). a ++ b) (take-suc-set out j x (omega (arith, g.long))) (ap (λ (k : ℕ). unpacked (drop (suc j) widths) (n % 2 ^ k)) b)
            ∙ append_assoc (take j out) (x ∷ []) (unpacked (drop (suc j) widths) (n % 2 ^ t))
            ∙ ap (λ (xs : List ℕ). take j out ++ xs) (sym here) ∙ g.value;
      }

pub given-all : {widths out : List ℕ} {n below j : ℕ} → Given widths out n below j → length widths ≤ j → out ≡ unpacked widths n
unfolding unpacked
given-all {widths} {out} {n} {below} {j} g h =
    sym (append-nil (take j out) ∙ take_all j out (omega (arith, g.long)))
    ∙ ap (λ (ws : List ℕ). take j out ++ unpacked ws (n % 2 ^ below)) (sym (drop_of_length-le widths {i = j} h)) ∙ g.value
