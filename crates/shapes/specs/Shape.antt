-- Shapes: how the values of a type stand in a fixed number of numbers, and the test that numbers are those of a valid value.
-- A map of memory is a shape put together of shapes. Assumes nothing.
use Rattle.std.specs.Prelude.{ℕ, ◌+◌, ◌*◌, ◌-◌, ◌^◌, ◌≤◌, ◌<◌, ◌≡◌, Bool, true, cond, ◌&&◌, List, [], ◌∷◌, ◌++◌, length, get_or, take, drop, eqb, leb}
use Rattle.laws.specs.Lists.{same as same_numbers}
use Rattle.shapes.specs.Tables.{zeros, all_zero, flat, places, places_pass}
use Rattle.laws.specs.Folds.{every}

-- values of A in `size` numbers: the numbers of a value, the value that numbers stand for, which values are valid, and the test that code runs
pub record Shape (size : ℕ) (A : Type 0) : Type 0 where
  pub write : A → List ℕ
  pub read : List ℕ → A
  pub ok : A → Bool
  pub test : List ℕ → Bool

-- a valid value takes `size` numbers
abbrev pub Long : {size : ℕ} {A : Type 0} → Shape size A → Type 0
Long {size} {A} s = (a : A) → s.ok a ≡ true → length (s.write a) ≡ size

-- a shape is exact: a valid value takes `size` numbers, is read from them again and passes the test, and numbers that pass are just those of
-- the valid value that is read from them
pub record Exact {size : ℕ} {A : Type 0} (s : Shape size A) : Type 0 where
  pub long : Long s
  pub back : (a : A) (rest : List ℕ) → s.ok a ≡ true → s.read (s.write a ++ rest) ≡ a
  pub pass : (a : A) (rest : List ℕ) → s.ok a ≡ true → s.test (s.write a ++ rest) ≡ true
  pub valid : (xs : List ℕ) → size ≤ length xs → s.test xs ≡ true → s.ok (s.read xs) ≡ true
  pub same : (xs : List ℕ) → size ≤ length xs → s.test xs ≡ true → s.write (s.read xs) ≡ take size xs

-- one number that passes a test
unfoldable pub cell : (ℕ → Bool) → Shape 1 ℕ
cell p = record {
  write = λ x. x ∷ [];
  read = λ xs. get_or xs 0 0;
  ok = p;
  test = λ xs. p (get_or xs 0 0);
}

-- any numbers and any reading of them, tested by writing again what was read: a shape before its test is made fast
unfoldable pub coded : {A : Type 0} → (w : ℕ) → (A → Bool) → (List ℕ → A) → (A → List ℕ) → Shape w A
coded w ok dec enc = record { write = enc; read = dec; ok = ok; test = λ xs. same_numbers (take w xs) (enc (dec xs)) && ok (dec xs) }

-- two parts one after the other. What the second may be can depend on the first's value; how long it is cannot
unfoldable pub both : {n m : ℕ} {A B : Type 0} → Shape n A → (A → Shape m B) → Shape (n + m) (A × B)
both {n} s t = record {
  write = λ p. s.write p.0 ++ (t p.0).write p.1;
  read = λ xs. (s.read xs, (t (s.read xs)).read (drop n xs));
  ok = λ p. s.ok p.0 && (t p.0).ok p.1;
  test = λ xs. s.test xs && (t (s.read xs)).test (drop n xs);
}

-- the same numbers for values of another type, as a record for pairs
unfoldable pub named : {n : ℕ} {A B : Type 0} → (A → B) → (B → A) → Shape n A → Shape n B
named f g s = record {
  write = λ b. s.write (g b);
  read = λ xs. f (s.read xs);
  ok = λ b. s.ok (g b);
  test = s.test;
}

-- n places that hold k values, where k is known; places not used hold 0
unfoldable pub rows : {w : ℕ} {A : Type 0} → (n : ℕ) → Shape w A → ℕ → Shape (n * w) (List A)
rows {w} n s k = record {
  write = λ rs. flat s.write rs ++ zeros (n * w - length rs * w);
  read = λ xs. places w s.read k xs;
  ok = λ rs. eqb (length rs) k && leb k n && every s.ok rs;
  test = λ xs. leb k n && places_pass w s.test k xs && all_zero (drop (k * w) (take (n * w) xs));
}

-- a table: how many values there are, and n places for them
unfoldable pub table : {w : ℕ} {A : Type 0} → (n : ℕ) → Shape w A → Shape (1 + n * w) (List A)
table n s = named (λ p. p.1) (λ rs. (length rs, rs)) (both (cell (λ k. leb k n)) (rows n s))

-- values of A in `width` bits of a number
pub record Field (width : ℕ) (A : Type 0) : Type 0 where
  pub put : A → ℕ
  pub get : ℕ → A
  pub ok : A → Bool
  pub test : ℕ → Bool

pub record ExactField {width : ℕ} {A : Type 0} (f : Field width A) : Type 0 where
  pub small : (a : A) → f.ok a ≡ true → f.put a < 2 ^ width
  pub back : (a : A) → f.ok a ≡ true → f.get (f.put a) ≡ a
  pub pass : (a : A) → f.ok a ≡ true → f.test (f.put a) ≡ true
  pub valid : (x : ℕ) → f.test x ≡ true → f.ok (f.get x) ≡ true
  pub same : (x : ℕ) → f.test x ≡ true → f.put (f.get x) ≡ x

-- a flag
unfoldable pub flag : Field 1 Bool
flag = record { put = λ b. cond b 1 0; get = λ x. eqb x 1; ok = λ b. true; test = λ x. leb x 1 }

-- one number that holds fields, with 0 above them
unfoldable pub word : {b : ℕ} {A : Type 0} → Field b A → Shape 1 A
word f = record {
  write = λ a. f.put a ∷ [];
  read = λ xs. f.get (get_or xs 0 0);
  ok = f.ok;
  test = λ xs. f.test (get_or xs 0 0);
}
