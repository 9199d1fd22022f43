-- The lent tables: those of a made profile are such as the functions ask for, and they hold what the shapes read from them. Assumes nothing.
use Prim.Native.Nat.{ℕ, zero, suc, ◌≤◌}
use mathlib.Core.Path.{◌≡◌, refl, ap, ◌∙◌}
use mathlib.Core.Bool.{true}
use mathlib.Core.List.{List, [], ◌∷◌}
use lib.ListN.{length, get_or, take, drop, length-drop}
use lib.Seq.{take_all}
use native.Mathlib.Omega.{arith}
use Rattle.shapes.specs.Shape.{cell, both, named, rows, table}
use Rattle.shapes.proofs.Tables.{length-places}
use Rattle.tables.specs.Inner.Tables.{places}
use Rattle.packing.specs.RulePlace.{rule_at, rules_shape}
use Rattle.packing.proofs.Shapes.{rules-read}
use Rattle.given.specs.Given.{is_made}
use Rattle.given.specs.Parts.{rules_of}
use Rattle.writing.specs.Inner.Parts.{names_of, Lent, profile_in}
use Rattle.writing.proofs.ReadBack.{made-facts}

-- a made profile's tables
pub made-lent : (firm : ℕ) (roots rules : List ℕ) → length roots ≡ 65 → length rules ≡ 513 → is_made (profile_in firm roots rules) ≡ true → Lent roots rules
unfolding profile_in
made-lent firm roots rules r l h =
    let m = made-facts (profile_in firm roots rules) h in
    record {
      roots-long = r;
      rules-long = l;
      few = omega (arith, m.rules-few, length-places 2 rule_at (get_or rules 0 0) (take 512 (drop 1 rules)));
      valid = m.rules-ok;
    }

-- what the shapes read
ones : (k : ℕ) (xs : List ℕ) → k ≤ length xs → places 1 (λ ys. get_or ys 0 0) k xs ≡ take k xs
unfolding places
ones zero xs h = refl
ones (suc k) [] h = absurd (omega arith)
ones (suc k) (x ∷ xs) h = ap (λ (l : List ℕ). x ∷ l) (ones k xs (omega arith))

pub names-lent : (roots : List ℕ) → length roots ≡ 65 → get_or roots 0 0 ≤ 64 → (table 64 (cell (λ x. true))).read roots ≡ names_of roots
unfolding table named both rows cell
names-lent roots l h =
    let all : take 64 (drop 1 roots) ≡ drop 1 roots = take_all 64 (drop 1 roots) (omega (arith, length-drop 1 roots)) in
    rw all (ones (get_or roots 0 0) (drop 1 roots) (omega (arith, length-drop 1 roots)))

pub rules-lent : (n : ℕ) (rules : List ℕ) → length rules ≡ 513 → (rules_shape n).read rules ≡ rules_of rules
rules-lent n rules l =
    let all : take 512 (drop 1 rules) ≡ drop 1 rules = take_all 512 (drop 1 rules) (omega (arith, length-drop 1 rules)) in
    rules-read n rules ∙ rw all
