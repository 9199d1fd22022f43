-- The totals of rules' accounts, tested by gaps that are joined over all rules. Assumes nothing.
use Prim.Native.Nat.{ℕ, ◌+◌, ◌*◌, ◌≤◌, ◌<◌, zero-le}
use mathlib.Core.Path.{◌≡◌, refl, sym, ap, ◌∙◌}
use mathlib.Core.Bool.{Bool, true, false, cond, ◌&&◌, and_assoc, and-true, and-false}
use mathlib.Core.List.{List}
use native.Mathlib.Omega.{arith}
use lib.Bits.{bit_or}
use lib.ListN.{length, drop}
use lib.Dec.{eqb, leb, ltb}
use borrow.Author.Tests.{le-leb, lt-leb, ltb-true, ltb-false}
use Rattle.measures.specs.Ranges.{is_in, totals}
use Rattle.rules.specs.Rules.{is_rate}
use Rattle.rules.specs.Units.{units_of}
use Rattle.rules.specs.Valid.{is_total_number}
use Rattle.rules.specs.declared.Rule.{Rule}
use Rattle.rules.proofs.Units.{units-few}
use Rattle.machine.specs.State.{cells_by, cells_of}
use Rattle.tables.specs.Inner.Tables.{all_zero, places}
use Rattle.packing.specs.RulePlace.{rule_at}
use Rattle.packing.specs.Gaps.{gap_of, is_clear}
use Rattle.packing.proofs.Gaps.{or-clear, gap-clear}
use Rattle.packing.proofs.RuleTests.{zero_test}
use Rattle.given.specs.Parts.{own_hold, totals_hold}
use Rattle.given.proofs.Places.{rules_from, rules-start, totals-next, totals-end}

-- the most that a rule's kind allows of a total
abbrev most_of : Bool → ℕ
most_of rate = cond rate 0 1_000_000_000_000_000_000

-- a total at most so much, whatever number it is
at_most : (most total : ℕ) → most < 9_223_372_036_854_775_808 → is_clear (bit_or (gap_of most total) total) ≡ leb total most
at_most most total high = or-clear (gap_of most total) total ∙ go (ltb total 9_223_372_036_854_775_808) refl
  where
    go : (b : Bool) → is_clear total ≡ b → (is_clear (gap_of most total) && b) ≡ leb total most
    go true e = and-true (is_clear (gap_of most total)) ∙ gap-clear most total high (ltb-true total _ e)
    go false e = and-false (is_clear (gap_of most total)) ∙ sym (lt-leb total most (omega (arith, ltb-false total _ e)))

of-kind : (rate : Bool) (total : ℕ) → is_clear (bit_or (gap_of (most_of rate) total) total) ≡ cond rate (eqb total 0) (is_in totals total)
of-kind true total = at_most 0 total (omega arith) ∙ zero_test total
of-kind false total = at_most 1_000_000_000_000_000_000 total (omega arith) ∙ rw (le-leb 0 total zero-le)

pub total-clear : (rule : Rule) (total : ℕ) (most : ℕ) → most ≡ most_of (is_rate rule.kind) → {gap : ℕ} → gap ≡ gap_of most total
    → is_clear (bit_or gap total) ≡ is_total_number rule total
unfolding is_total_number
total-clear rule total most e f = rw (f, e) (of-kind (is_rate rule.kind) total)

-- four of them joined
pub four-clear : (a b c d : ℕ) → is_clear (bit_or (bit_or (bit_or a b) c) d) ≡ (((is_clear a && is_clear b) && is_clear c) && is_clear d)
four-clear a b c d =
    or-clear (bit_or (bit_or a b) c) d ∙ ap (λ (t : Bool). t && is_clear d) (or-clear (bit_or a b) c ∙ ap (λ (t : Bool). t && is_clear c) (or-clear a b))

-- the totals of the rules before place i are joined, those from it on begin at a place, and both decide as all of them do
pub record Paid (k : ℕ) (xs amounts : List ℕ) (i place gaps : ℕ) : Type 0 where
  pub far : place ≤ i * 4
  pub rest : totals_hold (cells_of (places 2 rule_at k xs)) amounts ≡ (is_clear gaps && totals_hold (cells_of (rules_from k xs i)) (drop place amounts))

pub paid-start : (k : ℕ) (xs amounts : List ℕ) → Paid k xs amounts 0 0 0
paid-start k xs amounts = record { far = omega arith; rest = ap (λ (rules : List Rule). totals_hold (cells_of rules) amounts) (rules-start k xs) }

module _ {k : ℕ} {xs amounts : List ℕ} {i place gaps : ℕ} (paid : Paid k xs amounts i place gaps) where
  pub paid-next : i < k → {rule : Rule} → rule ≡ rule_at (drop (i * 2) xs) → (own : ℕ) → is_clear own ≡ own_hold (cells_by rule) (drop place amounts)
      → (n : ℕ) → n ≡ length (units_of rule.scope) → Paid k xs amounts (i + 1) (place + n) (bit_or gaps own)
  paid-next more {rule} is own told n many =
      let after = totals_hold (cells_of (rules_from k xs (i + 1))) (drop (place + n) amounts) in
      record {
        far = omega (arith, paid.far, many, units-few rule.scope);
        rest = paid.rest
            ∙ ap (λ (b : Bool). is_clear gaps && b) (totals-next k xs i more rule is amounts place n many ∙ ap (λ (b : Bool). b && after) (sym told))
            ∙ sym (and_assoc (is_clear gaps) (is_clear own) after)
            ∙ ap (λ (b : Bool). b && after) (sym (or-clear gaps own));
      }

  pub paid-end : k ≤ i → {zero : Bool} → zero ≡ all_zero (drop place amounts) → (is_clear gaps && zero) ≡ totals_hold (cells_of (places 2 rule_at k xs)) amounts
  paid-end h e = sym (paid.rest ∙ ap (λ (b : Bool). is_clear gaps && b) (totals-end k xs i _ h ∙ sym e))
