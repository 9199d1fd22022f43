-- Numbers written over the front of others, part after part. Assumes nothing.
use Prim.Native.Nat.{ℕ, ◌+◌, ◌-◌, ◌≤◌}
use native.Mathlib.Omega.{arith}
use mathlib.Core.Path.{◌≡◌, refl, sym, ap, ap₂, ◌∙◌}
use mathlib.Core.List.{List, [], ◌++◌, append_assoc, append-nil}
use lib.ListN.{length, take, drop, length-append, length-drop, drop_of_length-le}
use lib.Seq.{take_all, drop-drop, take_at, drop_at}
use Rattle.state.specs.State.{rest_size, size, totals_at}

-- numbers written over the front of what follows p
pub over-tail : (xs p rest new y : List ℕ) (a : ℕ) → xs ≡ p ++ rest → length p ≡ a → y ≡ new ++ drop (length new) (take (length xs - a) (drop a xs))
    → take a xs ++ (y ++ drop (length xs - a) (drop a xs)) ≡ p ++ (new ++ drop (length new) rest)
over-tail xs p rest new y a e l w =
    let d : drop a xs ≡ rest = ap (drop a) e ∙ drop_at p rest a l in
    let n : length xs - a ≡ length rest = omega (arith, ap length e, length-append p rest) in
    let whole : take (length xs - a) (drop a xs) ≡ rest = ap₂ (λ (k : ℕ) (t : List ℕ). take k t) n d ∙ take_all (length rest) rest (omega arith) in
    let none : drop (length xs - a) (drop a xs) ≡ [] = ap₂ (λ (k : ℕ) (t : List ℕ). drop k t) n d ∙ drop_of_length-le rest {i = length rest} (omega arith) in
    ap₂ (λ (u v : List ℕ). u ++ v) (ap (take a) e ∙ take_at p rest a l)
    (ap₂ (λ (u v : List ℕ). u ++ v) (w ∙ ap (λ (t : List ℕ). new ++ drop (length new) t) whole) none ∙ append-nil (new ++ drop (length new) rest))

-- numbers written after those that were written before
pub write-on : (m before m1 new p m2 : List ℕ) (a k b : ℕ) → length before ≡ a → length new ≡ k → a + k ≡ b → m1 ≡ before ++ drop a m
    → p ≡ new ++ drop (length new) (take (length m1 - a) (drop a m1)) → m2 ≡ take a m1 ++ (p ++ drop (length m1 - a) (drop a m1))
    → m2 ≡ (before ++ new) ++ drop b m
write-on m before m1 new p m2 a k b l n s e f g =
    g ∙ over-tail m1 before (drop a m) new p a e l f
    ∙ ap (λ (t : List ℕ). before ++ (new ++ t)) (ap (λ (j : ℕ). drop j (drop a m)) n ∙ drop-drop k a m ∙ ap (λ (j : ℕ). drop j m) s)
    ∙ sym (append_assoc before new (drop b m))

-- the writes of a freshly armed state: the front, the names, how many rules, and their places; then zeros up to the end
module _ (m head names count table zs : List ℕ) (long : size ≤ length m) (four : length head ≡ 4) (roots : length names ≡ 64) (one : length count ≡ 1)
    (rules : length table ≡ 512) where
  pub writes : (m1 p2 m2 p3 m3 p4 m4 : List ℕ) → m1 ≡ head ++ drop (length head) m
      → p2 ≡ names ++ drop (length names) (take (length m1 - 4) (drop 4 m1)) → m2 ≡ take 4 m1 ++ (p2 ++ drop (length m1 - 4) (drop 4 m1))
      → p3 ≡ count ++ drop (length count) (take (length m2 - 68) (drop 68 m2)) → m3 ≡ take 68 m2 ++ (p3 ++ drop (length m2 - 68) (drop 68 m2))
      → p4 ≡ table ++ drop (length table) (take (length m3 - 69) (drop 69 m3)) → m4 ≡ take 69 m3 ++ (p4 ++ drop (length m3 - 69) (drop 69 m3))
      → (rest_size ≤ length (drop totals_at m4)) × (take totals_at m4 ++ (zs ++ drop rest_size (drop totals_at m4)) ≡ head ++ (names ++ (count ++ (table ++ (zs ++ drop size m)))))
  writes m1 p2 m2 p3 m3 p4 m4 e1 f2 e2 f3 e3 f4 e4 =
      let n2 : length (head ++ names) ≡ 68 = omega (arith, length-append head names) in
      let n3 : length ((head ++ names) ++ count) ≡ 69 = omega (arith, length-append (head ++ names) count, n2) in
      let n4 : length (((head ++ names) ++ count) ++ table) ≡ totals_at = omega (arith, length-append ((head ++ names) ++ count) table, n3) in
      let a1 : m1 ≡ head ++ drop 4 m = e1 ∙ ap (λ (k : ℕ). head ++ drop k m) four in
      let a2 : m2 ≡ (head ++ names) ++ drop 68 m = write-on m head m1 names p2 m2 4 64 68 four roots refl a1 f2 e2 in
      let a3 : m3 ≡ ((head ++ names) ++ count) ++ drop 69 m = write-on m (head ++ names) m2 count p3 m3 68 1 69 n2 one refl a2 f3 e3 in
      let a4 : m4 ≡ (((head ++ names) ++ count) ++ table) ++ drop totals_at m = write-on m ((head ++ names) ++ count) m3 table p4 m4 69 512 totals_at n3 rules refl a3 f4 e4 in
      let rest : drop totals_at m4 ≡ drop totals_at m = ap (drop totals_at) a4 ∙ drop_at (((head ++ names) ++ count) ++ table) (drop totals_at m) totals_at n4 in (
        omega (arith, ap length rest, length-drop totals_at m),
        ap₂ (λ (u v : List ℕ). u ++ (zs ++ v)) (ap (take totals_at) a4 ∙ take_at (((head ++ names) ++ count) ++ table) (drop totals_at m) totals_at n4) (ap (drop rest_size) rest ∙ drop-drop rest_size totals_at m)
            ∙ simp append_assoc,
      )
