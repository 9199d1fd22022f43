-- The profile of a unit is written as the rows have it, whichever memory was armed. Assumes nothing.
use Prim.Native.Nat.{ℕ}
use mathlib.Core.Path.{◌≡◌, refl, ◌∙◌}
use mathlib.Core.List.{List, [], ◌∷◌, map}
use Rattle.laws.specs.Folds.{every}
use Rattle.text.specs.Text.{bytes, all, onto, pieces, index_of, made, numeral, field_number, name_of}
use Rattle.text.specs.Digits.{digits_up_to, name_bytes, decimal}
use Rattle.line.specs.Line.{type_of, is_absolute, limits_of, limit_of, kind_of, time_of, letter_of, malformed, other_firm, out_of_range, level_clash, unit_clash, fault_of, scope_of, rule_of, line_of}
use Rattle.admission.specs.Admission.{how_many, is_firm_rule, on_unit, crowded}
use Rattle.profile.specs.Profile.{with_root, roots_with, numbered, joined, too_many, after_line, read_on, outcome_of}
use Rattle.rules.specs.Rules.{covers}
use Rattle.rules.specs.Allowance.{All}
use Rattle.laws.specs.Lists.{same}
use Rattle.writing.specs.Writing.{type_name, limit_text, window_text, root_text, level_text, call_put_text, month_text, field_texts, before_fields, trimmed, with_commas, line_text, lines_text, text_of}
use Rattle.calls.specs.Calls.{arm_memory}
use Rattle.promises.specs.Written.{text_in, MayBeArmed}
use Rattle.promises.proofs.Written.{taken-text}
use Rattle.bench.specs.Rewritten.{Rewrite, rewrites}

computed : (map (λ (r : Rewrite). (outcome_of (bytes r.text)).refusal) rewrites ≡ map (λ (r : Rewrite). 0) rewrites)
    × (map (λ (r : Rewrite). text_of (outcome_of (bytes r.text)).profile) rewrites ≡ map (λ (r : Rewrite). bytes r.written) rewrites)
unfolding every rewrites same all onto pieces index_of made numeral field_number name_of type_of is_absolute limits_of limit_of kind_of time_of letter_of malformed other_firm out_of_range level_clash unit_clash fault_of scope_of rule_of line_of with_root roots_with numbered joined how_many is_firm_rule on_unit crowded too_many after_line read_on outcome_of covers digits_up_to name_bytes decimal type_name limit_text window_text root_text level_text call_put_text month_text field_texts before_fields trimmed with_commas line_text lines_text text_of
computed = (refl, refl)

-- every row, on any memory that may be armed
pub rewritten : (memory : List ℕ) → MayBeArmed memory → All (λ (r : Rewrite). text_in (arm_memory memory (bytes r.text)) ≡ bytes r.written) rewrites
rewritten memory may = go rewrites computed.0 computed.1
  where
    go : (rows : List Rewrite) → map (λ (r : Rewrite). (outcome_of (bytes r.text)).refusal) rows ≡ map (λ (r : Rewrite). 0) rows
        → map (λ (r : Rewrite). text_of (outcome_of (bytes r.text)).profile) rows ≡ map (λ (r : Rewrite). bytes r.written) rows
        → All (λ (r : Rewrite). text_in (arm_memory memory (bytes r.text)) ≡ bytes r.written) rows
    go [] a b = tt
    go (row ∷ rows) a b =
        let ok : (outcome_of (bytes row.text)).refusal ≡ 0 = cc in
        let oks : map (λ (r : Rewrite). (outcome_of (bytes r.text)).refusal) rows ≡ map (λ (r : Rewrite). 0) rows = cc in
        let is : text_of (outcome_of (bytes row.text)).profile ≡ bytes row.written = cc in
        let are : map (λ (r : Rewrite). text_of (outcome_of (bytes r.text)).profile) rows ≡ map (λ (r : Rewrite). bytes r.written) rows = cc in
        (taken-text memory (bytes row.text) may ok ∙ is, go rows oks are)
