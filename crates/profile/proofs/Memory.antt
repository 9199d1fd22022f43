-- One rule more in the reader's arrays: what the tables hold after its stores. Assumes nothing.
use Prim.Native.Nat.{ℕ, ◌*◌, ◌≤◌, ◌<◌}
use mathlib.Core.Path.{◌≡◌, refl, ap}
use mathlib.Core.Bool.{true}
use mathlib.Core.List.{List, [], ◌∷◌, ◌++◌}
use lib.ListN.{length, get_or, take, set}
use lib.Seq.{sets, take_at}
use native.Mathlib.Nat.{mul-one}
use native.Mathlib.Omega.{arith}
use Rattle.rules.specs.declared.Scope.{Scope}
use Rattle.rules.specs.declared.Scope.TheVariants.{EveryFill, WholeRoot, OneUnit}
use Rattle.rules.specs.declared.Rule.{Rule}
use Rattle.tables.specs.Inner.Tables.{flat, table_numbers}
use Rattle.packing.specs.RulePlace.{root_number, rule_numbers, rules_table}
use Rattle.tables.proofs.Tables.{Codec, length-table, put_next}
use Rattle.packing.proofs.RulePlace.{rule-codec}
use Rattle.profile.specs.Profile.{roots_with, roots_table}
use Rattle.profile.proofs.Roots.{with-kept, with-grown}

-- the roots' table has a name to a place
root-codec : Codec {A = ℕ} 1 (λ name. true) (λ xs. get_or xs 0 0) (λ name. name ∷ [])
root-codec = record { long = λ name. refl; back = λ name rest ok. refl }

flat-names : (roots : List ℕ) → flat (λ (name : ℕ). name ∷ []) roots ≡ roots
unfolding flat
flat-names [] = refl
flat-names (name ∷ roots) = ap (λ (l : List ℕ). name ∷ l) (flat-names roots)

module _ (roots : List ℕ) where
  pub length-roots : length roots ≤ 64 → length (roots_table roots) ≡ 64
  unfolding roots_table
  length-roots h = length-table root-codec 64 roots h

  pub names-known : take (length roots) (roots_table roots) ≡ roots
  unfolding roots_table table_numbers
  names-known = rw flat-names (take_at roots _ (length roots) refl)

  roots-next : (name : ℕ) → length roots < 64 → set (roots_table roots) (length roots) name ≡ roots_table (roots ++ (name ∷ []))
  unfolding roots_table
  roots-next name h = rw mul-one at (put_next root-codec 64 roots name h)

  -- the name of a new root is put in the next place, and nothing else
  pub roots_kept : (s : Scope) → length (roots_with s roots) ≡ length roots → roots_table roots ≡ roots_table (roots_with s roots)
  unfolding roots_with
  roots_kept EveryFill e = refl
  roots_kept (WholeRoot name) e = rw (with-kept name roots e)
  roots_kept (OneUnit name unit) e = rw (with-kept name roots e)

  pub roots-put : (s : Scope) → (length (roots_with s roots) ≡ length roots → ⊥) → length roots < 64
      → set (roots_table roots) (length roots) (root_number s) ≡ roots_table (roots_with s roots)
  unfolding roots_with
  roots-put EveryFill d h = absurd (d refl)
  roots-put (WholeRoot name) d h = rw (with-grown name roots d) (roots-next name h)
  roots-put (OneUnit name unit) d h = rw (with-grown name roots d) (roots-next name h)

pub length-rules : (rules : List Rule) → length rules ≤ 256 → length (rules_table rules) ≡ 512
length-rules rules h = length-table (rule-codec 64 (omega arith)) 256 rules h

pub rules-put : (rules : List Rule) (rule : Rule) → length rules < 256 → sets (rules_table rules) (length rules * 2) (rule_numbers rule) ≡ rules_table (rules ++ (rule ∷ []))
rules-put rules rule h = put_next (rule-codec 64 (omega arith)) 256 rules rule h
