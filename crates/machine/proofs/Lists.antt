-- Laws of lists: what every element passes, entries in order of time, what is kept of a list and what joins it. Assumes nothing.
use Prim.Native.Nat.{ℕ, zero, suc, ◌+◌, ◌*◌, ◌≤◌, ◌<◌}
use mathlib.Core.Path.{◌≡◌, refl, ap, ◌∙◌}
use mathlib.Core.Bool.{Bool, true, false, cond, ◌&&◌}
use mathlib.Core.List.{List, [], ◌∷◌, ◌++◌, map}
use lib.ListN.{length, get_or}
use lib.Dec.{leb}
use borrow.Author.Tests.{leb-true, le-leb}
use native.Mathlib.Omega.{arith}
use Rattle.laws.proofs.Tests.{and_l, and_r}
use Rattle.laws.specs.Folds.{every, keep, sum_of}
use Rattle.rules.specs.Allowance.{All}
pub use Rattle.laws.proofs.Every.{every-imp, every_map, every-keep, every-join}
use Rattle.machine.specs.declared.Entry.{Entry}
use Rattle.machine.specs.Entries.{are_ordered}

module _ {A : Type 0} where
  -- what every kept element passes
  pub keep-every : (test : A → Bool) (xs : List A) → every test (keep test xs) ≡ true
  unfolding every keep
  keep-every test [] = refl
  keep-every test (x ∷ xs) = go (test x) refl (keep-every test xs)
    where
      go : (b : Bool) → test x ≡ b → every test (keep test xs) ≡ true → every test (cond b (x ∷ keep test xs) (keep test xs)) ≡ true
      go true e h = rw e h
      go false e h = h

  -- a list whose elements all pass is kept whole
  pub keep_all : (test : A → Bool) (xs : List A) → every test xs ≡ true → keep test xs ≡ xs
  unfolding every keep
  keep_all test [] h = refl
  keep_all test (x ∷ xs) h = rw (and_l (test x) (every test xs) h) (ap (λ (l : List A). x ∷ l) (keep_all test xs (and_r (test x) (every test xs) h)))

  pub keep-le : (test : A → Bool) (xs : List A) → length (keep test xs) ≤ length xs
  unfolding keep
  keep-le test [] = omega arith
  keep-le test (x ∷ xs) = go (test x) (keep-le test xs)
    where
      go : (b : Bool) → length (keep test xs) ≤ length xs → length (cond b (x ∷ keep test xs) (keep test xs)) ≤ length (x ∷ xs)
      go true h = omega arith
      go false h = omega arith

  -- the test of every element, and the property of each
  pub every-all : (ok : A → Bool) (xs : List A) → every ok xs ≡ true → All (λ x. ok x ≡ true) xs
  unfolding every
  every-all ok [] h = tt
  every-all ok (x ∷ xs) h = (and_l (ok x) (every ok xs) h, every-all ok xs (and_r (ok x) (every ok xs) h))

  pub all-every : (ok : A → Bool) (xs : List A) → All (λ x. ok x ≡ true) xs → every ok xs ≡ true
  unfolding every
  all-every ok [] h = refl
  all-every ok (x ∷ xs) h = rw h.0 (all-every ok xs h.1)

  -- an element of a list that each element was put through a function of, whatever stands for none
  pub map_at : {B : Type 0} (f : A → B) (xs : List A) (i : ℕ) (none : B) (d : A) → i < length xs → get_or (map f xs) i none ≡ f (get_or xs i d)
  map_at f [] i none d h = absurd (omega arith)
  map_at f (x ∷ xs) zero none d h = refl
  map_at f (x ∷ xs) (suc i) none d h = map_at f xs i none d (omega arith)

  -- a function that leaves each element leaves the list
  pub map_same : (f : A → A) → ((x : A) → f x ≡ x) → (xs : List A) → map f xs ≡ xs
  map_same f same [] = refl
  map_same f same (x ∷ xs) = λ i. same x i ∷ map_same f same xs i

  pub keep_append : (test : A → Bool) (xs ys : List A) → keep test (xs ++ ys) ≡ keep test xs ++ keep test ys
  unfolding keep
  keep_append test [] ys = refl
  keep_append test (x ∷ xs) ys = rw (keep_append test xs ys) (go (test x))
    where
      go : (b : Bool) → cond b (x ∷ (keep test xs ++ keep test ys)) (keep test xs ++ keep test ys) ≡ cond b (x ∷ keep test xs) (keep test xs) ++ keep test ys
      go true = refl
      go false = refl

  -- two tests in either order
  pub keep-swap : (test other : A → Bool) (xs : List A) → keep test (keep other xs) ≡ keep other (keep test xs)
  unfolding keep
  keep-swap test other [] = refl
  keep-swap test other (x ∷ xs) = go (test x) refl (other x) refl (keep-swap test other xs)
    where
      go : (b : Bool) → test x ≡ b → (c : Bool) → other x ≡ c → keep test (keep other xs) ≡ keep other (keep test xs)
          → keep test (cond c (x ∷ keep other xs) (keep other xs)) ≡ keep other (cond b (x ∷ keep test xs) (keep test xs))
      go true eb true ec h = rw (eb, ec) (ap (λ (l : List A). x ∷ l) h)
      go true eb false ec h = rw ec h
      go false eb true ec h = rw eb h
      go false eb false ec h = h

  -- what leaves would leave later too
  pub keep-map : (test : A → Bool) (f : A → A) → ((x : A) → test x ≡ false → test (f x) ≡ false) → (xs : List A)
      → keep test (map f (keep test xs)) ≡ keep test (map f xs)
  unfolding keep
  keep-map test f gone [] = refl
  keep-map test f gone (x ∷ xs) = go (test x) refl (keep-map test f gone xs)
    where
      go : (b : Bool) → test x ≡ b → keep test (map f (keep test xs)) ≡ keep test (map f xs)
          → keep test (map f (cond b (x ∷ keep test xs) (keep test xs))) ≡ keep test (map f (x ∷ xs))
      go true e h = rw h
      go false e h = rw (gone x e) h

  -- a sum of numbers that are each at most k
  pub sum-most : (ok : A → Bool) (f : A → ℕ) (k : ℕ) → ((x : A) → ok x ≡ true → f x ≤ k) → (xs : List A) → every ok xs ≡ true
      → sum_of f xs ≤ length xs * k
  unfolding every sum_of
  sum-most ok f k most [] h = omega arith
  sum-most ok f k most (x ∷ xs) h =
      omega (arith, most x (and_l (ok x) (every ok xs) h), sum-most ok f k most xs (and_r (ok x) (every ok xs) h))

  -- what adds nothing may go
  pub sum-keep : (p : A → Bool) (f : A → ℕ) → ((a : A) → p a ≡ false → f a ≡ 0) → (xs : List A) → sum_of f (keep p xs) ≡ sum_of f xs
  unfolding sum_of keep
  sum-keep p f h [] = refl
  sum-keep p f h (x ∷ xs) = go (p x) refl (sum-keep p f h xs)
    where
      go : (b : Bool) → p x ≡ b → sum_of f (keep p xs) ≡ sum_of f xs → sum_of f (keep p (x ∷ xs)) ≡ sum_of f (x ∷ xs)
      go true e ih = rw e (ap (λ n. f x + n) ih)
      go false e ih = rw (e, h x e) (ih ∙ omega arith)

-- what order means for the first of several entries and for the rest
record First (from clock : ℕ) (e : Entry) (es : List Entry) : Type 0 where
  after : from ≤ e.time
  before : e.time ≤ clock
  rest : are_ordered e.time clock es ≡ true

first_of : (from clock : ℕ) (e : Entry) (es : List Entry) → are_ordered from clock (e ∷ es) ≡ true → First from clock e es
unfolding are_ordered
first_of from clock e es h =
    let t = and_l (leb from e.time && leb e.time clock) (are_ordered e.time clock es) h in
    record {
      after = leb-true _ _ (and_l (leb from e.time) (leb e.time clock) t);
      before = leb-true _ _ (and_r (leb from e.time) (leb e.time clock) t);
      rest = and_r (leb from e.time && leb e.time clock) (are_ordered e.time clock es) h;
    }

-- the two ends may lie further apart
pub ordered-wider : (from to clock time : ℕ) → to ≤ from → clock ≤ time → (es : List Entry) → are_ordered from clock es ≡ true
    → are_ordered to time es ≡ true
unfolding are_ordered
ordered-wider from to clock time h k [] o = refl
ordered-wider from to clock time h k (e ∷ es) o =
    let f = first_of from clock e es o in
    rw (le-leb to e.time (omega arith), le-leb e.time time (omega arith))
    (ordered-wider e.time e.time clock time (omega arith) k es f.rest)

pub ordered-map : (f : Entry → Entry) → ((e : Entry) → (f e).time ≡ e.time) → (from clock : ℕ) (es : List Entry)
    → are_ordered from clock (map f es) ≡ are_ordered from clock es
unfolding are_ordered
ordered-map f same from clock [] = refl
ordered-map f same from clock (e ∷ es) = rw (same e, ordered-map f same e.time clock es)

pub ordered-keep : (test : Entry → Bool) (from clock : ℕ) (es : List Entry) → are_ordered from clock es ≡ true
    → are_ordered from clock (keep test es) ≡ true
unfolding are_ordered keep
ordered-keep test from clock [] o = refl
ordered-keep test from clock (e ∷ es) o =
    let f = first_of from clock e es o in go f (test e) (ordered-keep test e.time clock es f.rest)
  where
    go : First from clock e es → (b : Bool) → are_ordered e.time clock (keep test es) ≡ true
        → are_ordered from clock (cond b (e ∷ keep test es) (keep test es)) ≡ true
    go f true k = rw (le-leb from e.time f.after, le-leb e.time clock f.before) k
    go f false k = ordered-wider e.time from clock clock f.after (omega arith) (keep test es) k

-- an entry that is not earlier than any joins at the end
pub ordered-join : (from clock : ℕ) (es : List Entry) (e : Entry) → from ≤ e.time → clock ≤ e.time → are_ordered from clock es ≡ true
    → are_ordered from e.time (es ++ (e ∷ [])) ≡ true
unfolding are_ordered
ordered-join from clock [] e h k o = rw (le-leb from e.time h, le-leb e.time e.time (omega arith))
ordered-join from clock (x ∷ es) e h k o =
    let f = first_of from clock x es o in
    rw (le-leb from x.time f.after, le-leb x.time e.time (omega arith)) (ordered-join x.time clock es e (omega arith) k f.rest)
