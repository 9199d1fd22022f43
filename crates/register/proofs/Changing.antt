-- The numbers of a register after an order entered it, one of its orders was used up, or one left. Assumes nothing.
use Prim.Native.Nat.{ℕ, suc, ◌+◌, ◌*◌, ◌-◌, ◌≤◌, ◌<◌}
use mathlib.Core.Path.{◌≡◌, refl, sym, ap, ap₂, ◌∙◌}
use mathlib.Core.Bool.{true, not}
use mathlib.Core.List.{List, [], ◌∷◌, ◌++◌, map, append_assoc}
use native.Mathlib.Omega.{arith}
use lib.ListN.{length, get_or, take, drop, set, length-append, length-drop, length-set}
use lib.Seq.{sets, take_at, drop_at, split_at, length-take-le}
use borrow.Author.Tests.{eq-eqb}
use Rattle.laws.proofs.Tests.{and_l}
use Rattle.laws.specs.Lists.{same}
use Rattle.laws.proofs.Lists.{same-eq}
use Rattle.laws.specs.Folds.{keep}
use Rattle.laws.proofs.Every.{every-at}
use Rattle.bits.specs.Fields.{total, packed}
use Rattle.machine.specs.declared.Sent.{Sent}
use Rattle.machine.specs.Register.{has_identity, no_sent, used_up, is_sent, are_different}
use Rattle.tables.specs.Inner.Tables.{zeros, flat, table_numbers, is_place}
use Rattle.tables.proofs.AllZero.{zeros-add}
use Rattle.packing.proofs.Parts.{two}
use Rattle.tables.proofs.Tables.{length-flat, length-table, place-table, read_table, put-at, put_next}
use Rattle.register.specs.SentPlace.{sent_values, open_values, sent_numbers, sent_from}
use Rattle.register.specs.Register.{register_numbers, register_in, RegisterHeld, sent_at_place}
use Rattle.register.proofs.Registers.{codec, register-many}
use Rattle.register.proofs.Finding.{used-one, closed-one}

-- two numbers put in a place, after the count
placed : (x : ℕ) (xs : List ℕ) (j f s : ℕ) → set (set (x ∷ xs) (1 + j) f) (1 + j + 1) s ≡ x ∷ sets xs j (f ∷ s ∷ [])
placed x xs j f s =
    let a : 1 + j ≡ suc j = omega arith in
    let b : 1 + j + 1 ≡ suc (suc j) = omega arith in
    rw (b, a)

-- an order at the first free place
pub entered : (xs : List ℕ) (sent : Sent) (f s : ℕ) → RegisterHeld xs → length (register_in xs) < 64 → f ∷ s ∷ [] ≡ sent_numbers sent
    → set (set (set xs (1 + get_or xs 0 0 * 2) f) (1 + get_or xs 0 0 * 2 + 1) s) 0 (get_or xs 0 0 + 1) ≡ register_numbers (register_in xs ++ (sent ∷ []))
entered xs sent f s h free is =
    (λ i. set (set (set (h.is i) (1 + many i * 2) f) (1 + many i * 2 + 1) s) 0 (many i + 1))
    ∙ ap (λ (l : List ℕ). set l 0 (length rs + 1)) (placed (length rs) (table_numbers 2 64 sent_numbers rs) (length rs * 2) f s)
    ∙ ap₂ (λ (n : ℕ) (l : List ℕ). n ∷ l) (sym (length-append rs (sent ∷ [])))
    (ap (sets (table_numbers 2 64 sent_numbers rs) (length rs * 2)) is ∙ put_next codec 64 rs sent free)
  where
    rs : List Sent
    rs = register_in xs

    many : get_or xs 0 0 ≡ length rs
    many = sym (register-many xs)

-- the two numbers of the order at a place
module _ (xs : List ℕ) (i : ℕ) (h : RegisterHeld xs) (l : i < length (register_in xs)) where
  abbrev rs : List Sent
  rs = register_in xs

  abbrev orders : List ℕ
  orders = table_numbers 2 64 sent_numbers rs

  few : length rs ≤ 64
  few = omega (arith, register-many xs, h.few)

  pub order-valid : is_sent 64 (sent_at_place rs i) ≡ true
  order-valid = every-at (is_sent 64) rs i no_sent h.valid l

  there : i * 2 + 1 < length orders
  there = omega (arith, length-table codec 64 rs few, few)

  in_place : get_or orders (i * 2) 0 ∷ get_or orders (i * 2 + 1) 0 ∷ [] ≡ sent_numbers (sent_at_place rs i)
  unfolding is_place
  in_place =
      let numbers = sent_numbers (sent_from (drop (i * 2) orders)) in
      let pass = place-table codec 64 rs i no_sent h.valid l in
      sym (ap (take 2) (two orders (i * 2) there))
      ∙ same-eq (take 2 (drop (i * 2) orders)) numbers (and_l (same (take 2 (drop (i * 2) orders)) numbers) (is_sent 64 (sent_from (drop (i * 2) orders))) pass)
      ∙ ap sent_numbers (read_table codec 64 rs i no_sent h.valid l)

  pub order-numbers : get_or xs (1 + i * 2) 0 ∷ get_or xs (1 + i * 2 + 1) 0 ∷ [] ≡ sent_numbers (sent_at_place rs i)
  order-numbers =
      let a : 1 + i * 2 ≡ suc (i * 2) = omega arith in
      let b : 1 + i * 2 + 1 ≡ suc (i * 2 + 1) = omega arith in
      (λ j. get_or (h.is j) (a j) 0 ∷ get_or (h.is j) (b j) 0 ∷ []) ∙ in_place

  pub first-number : get_or xs (1 + i * 2) 0 ≡ packed (35 ∷ 16 ∷ 6 ∷ 2 ∷ 5 ∷ []) (sent_values (sent_at_place rs i))
  unfolding sent_numbers
  first-number = ap (λ (ns : List ℕ). get_or ns 0 0) order-numbers

  pub second-number : get_or xs (1 + i * 2 + 1) 0 ≡ packed (17 ∷ 27 ∷ 20 ∷ []) (open_values (sent_at_place rs i))
  unfolding sent_numbers
  second-number = ap (λ (ns : List ℕ). get_or ns 1 0) order-numbers

  -- both numbers are no less than what a report takes from them
  pub first_some : 0 < (sent_at_place rs i).reports → 1 ≤ get_or xs (1 + i * 2) 0
  unfolding packed total sent_values
  first_some some = omega (arith, first-number)

  pub second-enough : (n : ℕ) → n ≤ (sent_at_place rs i).contracts.0 → n ≤ get_or xs (1 + i * 2 + 1) 0
  unfolding packed total open_values
  second-enough n enough = omega (arith, second-number)

  -- one report fewer, and so many contracts fewer
  less-numbers : (n : ℕ) → n ≤ (sent_at_place rs i).contracts.0 → 0 < (sent_at_place rs i).reports
      → (get_or xs (1 + i * 2) 0 - 1) ∷ (get_or xs (1 + i * 2 + 1) 0 - n) ∷ [] ≡ sent_numbers (used_up (sent_at_place rs i).identity n (sent_at_place rs i))
  unfolding sent_numbers packed total sent_values open_values used_up has_identity
  less-numbers n enough some =
      rw (eq-eqb (sent_at_place rs i).identity (sent_at_place rs i).identity refl)
      (ap₂ (λ (a b : ℕ). a ∷ b ∷ []) (omega (arith, first-number)) (omega (arith, second-number)))

  pub used-numbers : (n f s : ℕ) → are_different rs ≡ true → n ≤ (sent_at_place rs i).contracts.0 → 0 < (sent_at_place rs i).reports
      → f ≡ get_or xs (1 + i * 2) 0 - 1 → s ≡ get_or xs (1 + i * 2 + 1) 0 - n
      → set (set xs (1 + i * 2) f) (1 + i * 2 + 1) s ≡ register_numbers (map (used_up (sent_at_place rs i).identity n) rs)
  used-numbers n f s apart enough some a b =
      let sent = used_up (sent_at_place rs i).identity n (sent_at_place rs i) in
      ap (λ (l : List ℕ). set (set l (1 + i * 2) f) (1 + i * 2 + 1) s) h.is
      ∙ placed (length rs) orders (i * 2) f s
      ∙ ap (λ (l : List ℕ). length rs ∷ sets orders (i * 2) l) ((λ j. a j ∷ b j ∷ []) ∙ less-numbers n enough some)
      ∙ ap₂ (λ (m : ℕ) (l : List ℕ). m ∷ l) (sym (length-set rs i sent)) (put-at codec 64 rs i sent l)
      ∙ ap register_numbers (sym (used-one n rs i l apart))

-- an order between others taken out of their table
flat_append : (p q : List Sent) → flat sent_numbers (p ++ q) ≡ flat sent_numbers p ++ flat sent_numbers q
unfolding flat
flat_append [] q = refl
flat_append (sent ∷ p) q =
    ap (λ (l : List ℕ). sent_numbers sent ++ l) (flat_append p q) ∙ sym (append_assoc (sent_numbers sent) (flat sent_numbers p) (flat sent_numbers q))

module _ (p q : List Sent) (sent : Sent) (few : length (p ++ (sent ∷ q)) ≤ 64) (j n : ℕ) (a : length p * 2 ≡ j) (b : 2 + length q * 2 ≡ n) where
  abbrev all : List ℕ
  all = table_numbers 2 64 sent_numbers (p ++ (sent ∷ q))

  abbrev rest : ℕ
  rest = 64 * 2 - length (p ++ (sent ∷ q)) * 2

  split : all ≡ flat sent_numbers p ++ ((sent_numbers sent ++ flat sent_numbers q) ++ zeros rest)
  unfolding table_numbers flat
  split = ap (λ (l : List ℕ). l ++ zeros rest) (flat_append p (sent ∷ q)) ∙ append_assoc (flat sent_numbers p) (sent_numbers sent ++ flat sent_numbers q) (zeros rest)

  out : take j all ++ ((drop 2 (take n (drop j all)) ++ zeros 2) ++ drop n (drop j all)) ≡ table_numbers 2 64 sent_numbers (p ++ q)
  unfolding table_numbers
  out =
      let fp = flat sent_numbers p in
      let fq = flat sent_numbers q in
      let mid = sent_numbers sent ++ fq in
      let la : length fp ≡ j = length-flat codec p ∙ a in
      let lm : length mid ≡ n = length-append (sent_numbers sent) fq ∙ ap₂ (λ (x y : ℕ). x + y) (codec.long sent) (length-flat codec q) ∙ b in
      let left : 2 + rest ≡ 64 * 2 - length (p ++ q) * 2 = omega (arith, length-append p q, length-append p (sent ∷ q)) in
      rw (split, take_at fp (mid ++ zeros rest) j la, drop_at fp (mid ++ zeros rest) j la, take_at mid (zeros rest) n lm, drop_at mid (zeros rest) n lm, drop_at (sent_numbers sent) fq 2 (codec.long sent), append_assoc fq (zeros 2) (zeros rest), zeros-add 2 rest, left)
      (sym (append_assoc fp fq (zeros (64 * 2 - length (p ++ q) * 2))) ∙ ap (λ (l : List ℕ). l ++ zeros (64 * 2 - length (p ++ q) * 2)) (sym (flat_append p q)))

-- the order at a place is taken out, and there is one fewer
pub closed-numbers : (xs : List ℕ) (i : ℕ) (ys : List ℕ) → RegisterHeld xs → are_different (register_in xs) ≡ true → i < length (register_in xs)
    → let n = 1 + get_or xs 0 0 * 2 - (1 + i * 2) in
    ys ≡ drop 2 (take n (drop (1 + i * 2) xs)) ++ zeros 2
    → set (take (1 + i * 2) xs ++ (ys ++ drop n (drop (1 + i * 2) xs))) 0 (get_or xs 0 0 - 1)
    ≡ register_numbers (keep (λ sent. not (has_identity (sent_at_place (register_in xs) i).identity sent)) (register_in xs))
closed-numbers xs i ys h apart l e =
    ap (λ (q : List ℕ). set (take (1 + i * 2) xs ++ (q ++ drop n (drop (1 + i * 2) xs))) 0 (get_or xs 0 0 - 1)) e
    ∙ (λ k. set (take (at k) (h.is k) ++ ((drop 2 (take n (drop (at k) (h.is k))) ++ zeros 2) ++ drop n (drop (at k) (h.is k)))) 0 (many k))
    ∙ ap (λ (q : List ℕ). length (before ++ after) ∷ q) parted
    ∙ ap register_numbers (sym (closed-one rs i l apart))
  where
    rs : List Sent
    rs = register_in xs

    n : ℕ
    n = 1 + get_or xs 0 0 * 2 - (1 + i * 2)

    before : List Sent
    before = take i rs

    after : List Sent
    after = drop (suc i) rs

    at : 1 + i * 2 ≡ suc (i * 2)
    at = omega arith

    many : get_or xs 0 0 - 1 ≡ length (before ++ after)
    many = omega (arith, register-many xs, length-append before after, length-take-le i rs (omega arith), length-drop (suc i) rs)

    halves : rs ≡ before ++ (sent_at_place rs i ∷ after)
    halves = split_at rs i no_sent l

    parted : take (i * 2) (table_numbers 2 64 sent_numbers rs)
        ++ ((drop 2 (take n (drop (i * 2) (table_numbers 2 64 sent_numbers rs))) ++ zeros 2) ++ drop n (drop (i * 2) (table_numbers 2 64 sent_numbers rs)))
        ≡ table_numbers 2 64 sent_numbers (before ++ after)
    parted =
        ap (λ (q : List Sent). take (i * 2) (table_numbers 2 64 sent_numbers q)
        ++ ((drop 2 (take n (drop (i * 2) (table_numbers 2 64 sent_numbers q))) ++ zeros 2) ++ drop n (drop (i * 2) (table_numbers 2 64 sent_numbers q)))) halves
        ∙ out before after (sent_at_place rs i) (omega (arith, ap length (sym halves), register-many xs, h.few)) (i * 2) n
        (ap (λ (m : ℕ). m * 2) (length-take-le i rs (omega arith))) (omega (arith, length-drop (suc i) rs, register-many xs))
