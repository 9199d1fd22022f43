-- The tables of rules and entries are exact, and their numbers are a count and the places. Assumes nothing.
use Rattle.std.proofs.Common.{◌≡◌, ℕ, ◌*◌, ◌≤◌, ◌&&◌, leb, List, ◌∷◌, length, get_or, take, drop, refl}
use Rattle.shapes.specs.Shape.{Exact, cell, coded, both, named, rows, table as counted}
use Rattle.shapes.proofs.Exact.{coded-exact, table-exact}
use Rattle.rules.specs.declared.Rule.{Rule}
use Rattle.machine.specs.declared.Entry.{Entry}
use Rattle.tables.specs.Inner.Tables.{all_zero, table_numbers, places, is_place, places_pass}
use Rattle.packing.specs.RulePlace.{rule_at, is_rule_place, rules_table, rule_shape, rules_shape}
use Rattle.packing.specs.EntryPlace.{entry_at, is_entry_place, log_table, entry_shape, log_shape}
use Rattle.packing.proofs.RulePlace.{rule-codec}
use Rattle.packing.proofs.EntryPlace.{entry-codec}

pub rules_exact : (roots : ℕ) → roots ≤ 64 → Exact (rules_shape roots)
unfolding rules_shape rule_shape
rules_exact roots l = table-exact 256 _ (coded-exact 2 _ _ _ (rule-codec roots l).long (rule-codec roots l).back)

pub log-exact : (roots : ℕ) → roots ≤ 64 → Exact (log_shape roots)
unfolding log_shape entry_shape
log-exact roots l = table-exact 512 _ (coded-exact 2 _ _ _ (entry-codec roots l).long (entry-codec roots l).back)

-- written: the count, then the places
pub rules-written : (roots : ℕ) (rules : List Rule) → (rules_shape roots).write rules ≡ length rules ∷ rules_table rules
unfolding rules_shape rule_shape counted named both cell rows coded table_numbers
rules-written roots rules = refl

pub log-written : (roots : ℕ) (log : List Entry) → (log_shape roots).write log ≡ length log ∷ log_table log
unfolding log_shape entry_shape counted named both cell rows coded table_numbers
log-written roots log = refl

-- read: as many as the count says
pub rules-read : (roots : ℕ) (xs : List ℕ) → (rules_shape roots).read xs ≡ places 2 rule_at (get_or xs 0 0) (drop 1 xs)
unfolding rules_shape rule_shape counted named both cell rows coded
rules-read roots xs = refl

pub log-read : (roots : ℕ) (xs : List ℕ) → (log_shape roots).read xs ≡ places 2 entry_at (get_or xs 0 0) (drop 1 xs)
unfolding log_shape entry_shape counted named both cell rows coded
log-read roots xs = refl

-- tested: the count, the places up to it, and zeros after them
pub rules-tested : (roots : ℕ) (xs : List ℕ) → let k = get_or xs 0 0 in (rules_shape roots).test xs
    ≡ (leb k 256 && (leb k 256 && places_pass 2 (is_rule_place roots) k (drop 1 xs) && all_zero (drop (k * 2) (take 512 (drop 1 xs)))))
unfolding rules_shape rule_shape counted named both cell rows coded is_place
rules-tested roots xs = refl

pub log-tested : (roots : ℕ) (xs : List ℕ) → let k = get_or xs 0 0 in (log_shape roots).test xs
    ≡ (leb k 512 && (leb k 512 && places_pass 2 (is_entry_place roots) k (drop 1 xs) && all_zero (drop (k * 2) (take 1024 (drop 1 xs)))))
unfolding log_shape entry_shape counted named both cell rows coded is_place
log-tested roots xs = refl
