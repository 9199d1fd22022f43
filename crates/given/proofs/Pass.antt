-- One pass over rules and totals: what is known before place i, and what the pass answers on its way and at its end. Assumes nothing.
use Prim.Native.Nat.{ℕ, ◌+◌, ◌*◌, ◌%◌, ◌≤◌, ◌<◌, max}
use mathlib.Core.Path.{◌≡◌, refl, sym, ap, ap₂, ◌∙◌}
use mathlib.Core.Bool.{Bool, true, false, ◌&&◌, and_assoc}
use mathlib.Core.List.{List, [], ◌∷◌}
use native.Mathlib.Omega.{arith}
use lib.Bits.{bit_or}
use lib.ListN.{length, drop, replicate}
use lib.Dec.{eqb}
use Rattle.rules.specs.Units.{units_of}
use Rattle.rules.specs.declared.Kind.{Kind}
use Rattle.rules.specs.declared.Kind.TheVariants.{Rate, Absolute}
use Rattle.rules.specs.declared.Rule.{Rule}
use Rattle.machine.specs.State.{cells_by, cells_of}
use Rattle.machine.specs.Offers.{window_of, longest}
use Rattle.tables.specs.Inner.Tables.{all_zero, places}
use Rattle.packing.specs.RulePlace.{rule_at, window_number, is_rule_place}
use Rattle.packing.specs.Gaps.{is_clear}
use Rattle.packing.proofs.RuleTests.{window-told}
use Rattle.admission.specs.Inner.Counting.{no_rules, Follows}
use Rattle.std.specs.declared.option.Option.TheVariants.{None, Some}
use Rattle.admission.specs.declared.Tally.{Tally}
use Rattle.std.specs.Prelude.{Option}
use Rattle.given.specs.Parts.{places_hold, own_hold, totals_hold}
use Rattle.given.specs.Inner.Tested.{tested_of}
use Rattle.given.proofs.Places.{rules_from, span-start, span-on, span-end}
use Rattle.given.proofs.Order.{Gone, gone-start, gone-bad, gone-stop, gone-next, gone-end}
use Rattle.given.proofs.Paid.{Paid, paid-start, paid-next, paid-end}

-- the window's field of a rule's first number is the window that the profile's longest is of
window_same : (kind : Kind) → window_number kind ≡ window_of kind
unfolding window_of
window_same (Rate w) = refl
window_same Absolute = refl

pub window-here : (first second : ℕ) → is_rule_place 64 (first ∷ second ∷ []) ≡ true → (rule : Rule) → rule ≡ rule_at (first ∷ second ∷ [])
    → {w : ℕ} → w ≡ first % 134_217_728 → w ≡ window_of rule.kind
window-here first second ok rule is e =
    e ∙ window-told 64 first second [] ok ∙ ap (λ (r : Rule). window_number r.kind) (sym is) ∙ window_same rule.kind

-- the rules before place i are counted, their totals joined, and the longest of their windows found
pub record Passed (n k : ℕ) (xs amounts : List ℕ) (i : ℕ) (tally : Tally) (counts : List ℕ) (place gaps most : ℕ) : Type 0 where
  pub gone : Gone n k xs i tally counts
  pub paid : Paid k xs amounts i place gaps
  pub span : longest (places 2 rule_at k xs) ≡ max most (longest (rules_from k xs i))

pub passed_start : (n k : ℕ) (xs amounts : List ℕ) → n ≤ 64 → k ≤ 256 → Passed n k xs amounts 0 no_rules (replicate 64 0) 0 0 0
passed_start n k xs amounts h l = record { gone = gone-start n k xs h l; paid = paid-start k xs amounts; span = span-start k xs }

-- what is to be answered
abbrev pub Answers : ℕ → ℕ → List ℕ → List ℕ → Option ℕ → Type 0
Answers n k xs amounts t =
    t ≡ tested_of (places_hold n k xs && totals_hold (cells_of (places 2 rule_at k xs)) amounts) (longest (places 2 rule_at k xs))

fails : (n k : ℕ) (xs amounts : List ℕ) → false ≡ places_hold n k xs → Answers n k xs amounts None
fails n k xs amounts e =
    ap (λ (b : Bool). tested_of (b && totals_hold (cells_of (places 2 rule_at k xs)) amounts) (longest (places 2 rule_at k xs))) e

module _ {n k : ℕ} {xs amounts : List ℕ} {i : ℕ} {tally : Tally} {counts : List ℕ} {place gaps most : ℕ}
    (passed : Passed n k xs amounts i tally counts place gaps most) where
  module _ (more : i < k) where
    pub passed-bad : is_rule_place 64 (drop (i * 2) xs) ≡ false → Answers n k xs amounts None
    passed-bad e = fails n k xs amounts (gone-bad passed.gone more e)

    module _ (ok : is_rule_place 64 (drop (i * 2) xs) ≡ true) {rule : Rule} (is : rule ≡ rule_at (drop (i * 2) xs)) where
      pub passed-stop : (after : List ℕ) → Follows (places 2 rule_at i xs) tally rule None counts after → Answers n k xs amounts None
      passed-stop after f = fails n k xs amounts (gone-stop passed.gone more ok is after f)

      pub passed-next : {next : Tally} (after : List ℕ) → Follows (places 2 rule_at i xs) tally rule (Some next) counts after
          → (own : ℕ) → is_clear own ≡ own_hold (cells_by rule) (drop place amounts) → (many : ℕ) → many ≡ length (units_of rule.scope)
          → (w : ℕ) → w ≡ window_of rule.kind → (m : ℕ) → m ≡ max w most
          → Passed n k xs amounts (i + 1) next after (place + many) (bit_or gaps own) m
      passed-next after f own told many e w g m h = record {
        gone = gone-next passed.gone more ok is after f;
        paid = paid-next passed.paid more is own told many e;
        span = passed.span ∙ span-on k xs i more rule is w most g m h;
      }

  -- at the end
  module _ (end : k ≤ i) {rest left : Bool} (zero : rest ≡ all_zero (drop (k * 2) xs)) (spare : left ≡ all_zero (drop place amounts)) where
    decides : (eqb tally.seen n && rest && is_clear gaps && left) ≡ (places_hold n k xs && totals_hold (cells_of (places 2 rule_at k xs)) amounts)
    decides =
        and_assoc (eqb tally.seen n && rest) (is_clear gaps) left
        ∙ ap₂ (λ (a b : Bool). a && b) (gone-end passed.gone end zero) (paid-end passed.paid end spare)

    pub passed-end : (t : Bool) → (eqb tally.seen n && rest && is_clear gaps && left) ≡ t → Answers n k xs amounts (tested_of t most)
    passed-end t e = ap₂ tested_of (sym e ∙ decides) (sym (passed.span ∙ span-end k xs i most end))

-- what an answer tells
pub told-hold : (b : Bool) (l : ℕ) {w : ℕ} → Some w ≡ tested_of b l → (b ≡ true) × (w ≡ l)
told-hold true l e = (refl, cc)
told-hold false l e = let z : ◌≡◌ {A = ℕ} 0 1 = cc in absurd (omega arith)

pub told-fail : (b : Bool) (l : ℕ) → None ≡ tested_of b l → b ≡ false
told-fail true l e = let z : ◌≡◌ {A = ℕ} 0 1 = cc in absurd (omega arith)
told-fail false l e = refl
