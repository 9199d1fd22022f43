-- Every accepted text gives a profile that passes the test. Assumes nothing.
use Prim.Native.Nat.{ℕ, suc, ◌≤◌, ◌<◌}
use mathlib.Core.Path.{◌≡◌, refl, sym, ap}
use mathlib.Core.Bool.{Bool, true, false, cond, not, ◌&&◌, ◌||◌}
use mathlib.Core.List.{List, [], ◌∷◌}
use lib.ListN.{length, get_or}
use lib.Dec.{eqb, leb, lit<}
use borrow.Author.Tests.{eqb-false, ne_eqb, le-leb, leb-true}
use native.Mathlib.Omega.{arith}
use Rattle.laws.proofs.Tests.{and_l, and_r, and_i}
use Rattle.text.specs.Text.{index_of, is_digit, is_name_byte}
use Rattle.machine.specs.State.{Profile}
use Rattle.profile.specs.Profile.{Outcome, outcome_of}
use Rattle.profile.specs.Inner.Lawful.{IsNameNumber, Lawful}
use Rattle.profile.proofs.Laws.{lawful, accepted-some, accepted-named}
use Rattle.text.specs.Digits.{name_bytes}
use Rattle.given.specs.Names.{is_name_number}
use Rattle.given.specs.Given.{is_fresh, are_roots, is_made}
use Rattle.text.proofs.Bytes.{all_in, made-most, made_all}
use Rattle.text.proofs.InBase.{digits-back}

-- a name's number holds that name
name-byte : (x : ℕ) → is_name_byte x ≡ true → (0 < x) × (x < 256)
name-byte x h = go (is_digit x) refl h
  where
    go : (t : Bool) → is_digit x ≡ t → (t || leb 65 x && leb x 90) ≡ true → (0 < x) × (x < 256)
    go true e k = (omega (arith, leb-true 48 x (and_l (leb 48 x) (leb x 57) e)), omega (arith, leb-true x 57 (and_r (leb 48 x) (leb x 57) e)))
    go false e k = (omega (arith, leb-true 65 x (and_l (leb 65 x) (leb x 90) k)), omega (arith, leb-true x 90 (and_r (leb 65 x) (leb x 90) k)))

name-holds : (least most n : ℕ) → most ≤ 8 → IsNameNumber least most n → is_name_number least most n ≡ true
unfolding is_name_number name_bytes
name-holds least most n k named =
    let name = named.name in
    let bytes = made_all is_name_byte least most name named.made in
    let each : (i : ℕ) → i < length name → (0 < get_or name i 0) × (get_or name i 0 < 256) =
    λ i h. name-byte (get_or name i 0) (all_in is_name_byte name bytes i 0 h) in
    let few : length name ≤ 8 = omega (arith, made-most is_name_byte least most name named.made) in
    rw (← named.number, digits-back 256 (lit< tt) name (λ i h. (each i h).0) (λ i h. (each i h).1) 8 few) named.made

-- names of which each stands at its own place are no two the same
fresh-of : (name : ℕ) (names : List ℕ) → ((i : ℕ) → i < length names → eqb name (get_or names i 0) ≡ false) → is_fresh name names ≡ true
unfolding is_fresh
fresh-of name [] h = refl
fresh-of name (x ∷ xs) h =
    let first = ne_eqb x name (λ e. eqb-false name x (h 0 (omega arith)) (sym e)) in
    and_i (ap not first) (fresh-of name xs (λ i l. h (suc i) (omega arith)))

later : (t : Bool) (i j : ℕ) → cond t 0 (suc i) ≡ suc j → (t ≡ false) × (i ≡ j)
later true i j e = absurd (omega arith)
later false i j e = (refl, omega arith)

roots-of : (roots : List ℕ) → ((root : ℕ) → root < length roots → IsNameNumber 1 6 (get_or roots root 0))
    → ((root : ℕ) → root < length roots → index_of (get_or roots root 0) roots ≡ root) → are_roots roots ≡ true
unfolding are_roots index_of
roots-of [] named placed = refl
roots-of (name ∷ names) named placed =
    let after : (i : ℕ) → i < length names → (eqb name (get_or names i 0) ≡ false) × (index_of (get_or names i 0) names ≡ i) =
    λ i l. later (eqb name (get_or names i 0)) (index_of (get_or names i 0) names) i (placed (suc i) (omega arith)) in
    and_i (and_i (name-holds 1 6 name (omega arith) (named 0 (omega arith))) (fresh-of name names (λ i l. (after i l).0)))
    (roots-of names (λ i l. named (suc i) (omega arith)) (λ i l. (after i l).1))

-- a lawful profile of a firm that is named, with a rule
lawful-made : (p : Profile) → Lawful p → IsNameNumber 1 4 p.firm → 0 < length p.rules → is_made p ≡ true
unfolding is_made
lawful-made p law named some =
    let roots = length p.roots in
    let rules = length p.rules in
    and_i (and_i (and_i (and_i (and_i (name-holds 1 4 p.firm (omega arith) named)
    (and_i (le-leb 0 roots (omega arith)) (le-leb roots 64 law.roots-most))) (roots-of p.roots law.each-name law.each-place))
    (and_i (le-leb 1 rules some) (le-leb rules 256 law.rules-most))) law.each-rule)
    law.in_order

pub given_made : (text : List ℕ) (p : Profile) → outcome_of text ≡ record { profile = p; refusal = 0; line = 0 } → is_made p ≡ true
given_made text p e =
    let ok = ap (λ (o : Outcome). o.refusal) e in
    let is = ap (λ (o : Outcome). o.profile) e in
    rw is at (lawful-made (outcome_of text).profile (lawful text) (accepted-named text ok) (accepted-some text ok))
