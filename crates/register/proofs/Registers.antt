-- Numbers that hold a register: the orders in their places, and the tests of them. Assumes nothing.
use Prim.Native.Nat.{ℕ, zero, suc, ◌+◌, ◌*◌, ◌-◌, ◌≤◌, ◌<◌}
use mathlib.Core.Path.{◌≡◌, sym, ap, ap₂, ◌∙◌}
use mathlib.Core.Bool.{Bool, true, false, ◌&&◌, and-true, and_assoc}
use mathlib.Core.List.{List, [], ◌∷◌}
use native.Mathlib.Nat.{not-suc-le-zero, le_of_suc-le-suc, suc-mul, zero-mul, sub-zero}
use native.Mathlib.Numerals.{add-one}
use native.Mathlib.Omega.{arith}
use lib.ListN.{length, get_or, drop, length-drop}
use lib.Seq.{drop-drop, drop-cons, take_all}
use borrow.Author.Tests.{lt-leb, le-leb}
use Rattle.laws.proofs.Tests.{and_l, and_r}
use Rattle.laws.specs.Folds.{every}
use Rattle.laws.proofs.Every.{every-imp}
use Rattle.machine.specs.declared.Sent.{Sent}
use Rattle.machine.specs.Register.{no_sent, is_sent, are_different}
use Rattle.shapes.specs.Shape.{coded}
use Rattle.shapes.proofs.Valid.{table-few, table-all}
use Rattle.tables.specs.Inner.Tables.{all_zero, places, places_pass}
use Rattle.tables.proofs.Passing.{pass_on}
use Rattle.tables.proofs.Tables.{Codec, length-places, length-table, places-table}
use Rattle.register.specs.SentPlace.{sent_numbers, sent_from, is_sent_place, sent_shape}
use Rattle.register.specs.Register.{register_shape, register_numbers, register_of, register_in, register_holds, RegisterHeld}
use Rattle.register.proofs.SentPlace.{sent-codec, sent-wider, identity-here, reports-here, sent-here}
use Rattle.register.proofs.Shapes.{register-exact, register-written, register-read, register-tested}

-- an order of at most 64 roots in its place
pub codec : Codec 2 (is_sent 64) sent_from sent_numbers
codec = sent-codec 64 (omega arith)

-- as many orders as the table says
pub register-long : (k : ℕ) (xs : List ℕ) → length (register_of k xs) ≡ k
register-long k xs = length-places codec k (drop 1 xs)

pub register-many : (xs : List ℕ) → length (register_in xs) ≡ get_or xs 0 0
register-many xs = register-long (get_or xs 0 0) xs

-- the record at a place
places-at : {A : Type 0} (w : ℕ) (dec : List ℕ → A) (k : ℕ) (xs : List ℕ) (i : ℕ) (d : A) → i < k → get_or (places w dec k xs) i d ≡ dec (drop (i * w) xs)
unfolding places
places-at w dec zero xs i d l = absurd (not-suc-le-zero l)
places-at w dec (suc k) xs zero d l = ap (λ (n : ℕ). dec (drop n xs)) (sym (zero-mul w))
places-at w dec (suc k) xs (suc i) d l =
    let p : w + i * w ≡ suc i * w = omega (arith, suc-mul i w) in
    places-at w dec k (drop w xs) i d (le_of_suc-le-suc l) ∙ ap dec (drop-drop (i * w) w xs ∙ ap (λ (n : ℕ). drop n xs) p)

module _ (k : ℕ) (xs : List ℕ) (i : ℕ) (l : i < k) where
  pub order-at : get_or (register_of k xs) i no_sent ≡ sent_from (drop (1 + i * 2) xs)
  order-at = places-at 2 sent_from k (drop 1 xs) i no_sent l ∙ ap sent_from (drop-drop (i * 2) 1 xs)

  -- by the place's first number, and by both
  pub identity-at : (get_or (register_of k xs) i no_sent).identity ≡ (sent_from (get_or xs (1 + i * 2) 0 ∷ [])).identity
  identity-at = ap (λ (sent : Sent). sent.identity) order-at ∙ identity-here xs (1 + i * 2)

  pub reports-at : (get_or (register_of k xs) i no_sent).reports ≡ (sent_from (get_or xs (1 + i * 2) 0 ∷ [])).reports
  reports-at = ap (λ (sent : Sent). sent.reports) order-at ∙ reports-here xs (1 + i * 2)

  pub numbers-at : 1 + i * 2 + 1 < length xs → sent_from (get_or xs (1 + i * 2) 0 ∷ get_or xs (1 + i * 2 + 1) 0 ∷ []) ≡ get_or (register_of k xs) i no_sent
  numbers-at h = sent-here xs (1 + i * 2) h ∙ sym order-at

  -- the orders from a place on
  pub orders-from : drop i (register_of k xs) ≡ get_or (register_of k xs) i no_sent ∷ drop (i + 1) (register_of k xs)
  orders-from =
      let long : i < length (register_of k xs) = rw (register-long k xs) l in
      rw (add-one i) (drop-cons (register_of k xs) i no_sent long)

-- the places from one on, tested one after the other
module _ (roots k : ℕ) (xs : List ℕ) where
  pub passing-start : places_pass 2 (is_sent_place roots) k (drop 1 xs) ≡ places_pass 2 (is_sent_place roots) (k - 0) (drop (0 * 2) (drop 1 xs))
  passing-start = rw (sub-zero k)

  module _ (i : ℕ) where
    pub passing-on : i < k → (good : Bool) {b : Bool} → b ≡ is_sent_place roots (drop (1 + i * 2) xs)
        → (good && places_pass 2 (is_sent_place roots) (k - i) (drop (i * 2) (drop 1 xs)))
        ≡ ((good && b) && places_pass 2 (is_sent_place roots) (k - (i + 1)) (drop ((i + 1) * 2) (drop 1 xs)))
    passing-on more good {b} is =
        let rest = places_pass 2 (is_sent_place roots) (k - (i + 1)) (drop ((i + 1) * 2) (drop 1 xs)) in
        let here : is_sent_place roots (drop (i * 2) (drop 1 xs)) ≡ b = ap (is_sent_place roots) (drop-drop (i * 2) 1 xs) ∙ sym is in
        ap (λ (c : Bool). good && c) (pass_on 2 k i (drop 1 xs) more (is_sent_place roots) ∙ ap (λ (c : Bool). c && rest) here)
        ∙ sym (and_assoc good b rest)

    pub passing-end : k ≤ i → (good : Bool) → (good && places_pass 2 (is_sent_place roots) (k - i) (drop (i * 2) (drop 1 xs))) ≡ good
    unfolding places_pass
    passing-end done good = let z : k - i ≡ 0 = omega arith in rw z (and-true good)

-- the test of a table, by its count
module _ (roots : ℕ) (xs : List ℕ) where
  pub register-over : 64 < get_or xs 0 0 → false ≡ register_holds roots xs
  unfolding register_holds
  register-over h = rw (register-tested roots xs, lt-leb _ _ h)

  pub register-within : length xs ≡ 129 → get_or xs 0 0 ≤ 64 → (a b : Bool)
      → a ≡ (places_pass 2 (is_sent_place roots) (get_or xs 0 0) (drop 1 xs) && all_zero (drop (get_or xs 0 0 * 2) (drop 1 xs)))
      → b ≡ are_different (register_in xs) → (a && b) ≡ register_holds roots xs
  unfolding register_holds
  register-within long few a b p q =
      ap₂ (λ (x y : Bool). x && y) p q
      ∙ sym (rw (register-tested roots xs, le-leb (get_or xs 0 0) 64 few, take_all 128 (drop 1 xs) (omega (arith, length-drop 1 xs))))

-- a table that passes the test holds a register, and so do the numbers of orders in range
pub register-held : (roots : ℕ) (xs : List ℕ) → roots ≤ 64 → length xs ≡ 129 → register_holds roots xs ≡ true → RegisterHeld xs
unfolding register_holds register_shape sent_shape coded
register-held roots xs fit long h =
    let e = register-exact roots fit in
    let t = and_l ((register_shape roots).test xs) (are_different (register_in xs)) h in
    let enough : 129 ≤ length xs = omega arith in
    let v = rw (register-read roots xs) at (e.valid xs enough t) in
    record {
      long = long;
      few = omega (arith, register-many xs, table-few 64 (sent_shape roots) (register_in xs) v);
      valid = every-imp (is_sent roots) (is_sent 64) (λ sent ok. sent-wider roots 64 sent fit ok) (register_in xs) (table-all 64 (sent_shape roots) (register_in xs) v);
      is = sym (sym (register-written roots (register_in xs)) ∙ ap (register_shape roots).write (sym (register-read roots xs)) ∙ e.same xs enough t ∙ take_all 129 xs (omega arith));
    }

pub register-different : (roots : ℕ) (xs : List ℕ) → register_holds roots xs ≡ true → are_different (register_in xs) ≡ true
unfolding register_holds
register-different roots xs h = and_r ((register_shape roots).test xs) (are_different (register_in xs)) h

-- the orders are read again from their numbers
pub numbers-register : (register : List Sent) → every (is_sent 64) register ≡ true → register_in (register_numbers register) ≡ register
numbers-register register v = places-table codec 64 register v

pub numbers-held : (register : List Sent) → length register ≤ 64 → every (is_sent 64) register ≡ true → RegisterHeld (register_numbers register)
numbers-held register few v =
    let back = numbers-register register v in
    record {
      long = omega (arith, length-table codec 64 register few);
      few = few;
      valid = ap (every (is_sent 64)) back ∙ v;
      is = ap register_numbers (sym back);
    }
