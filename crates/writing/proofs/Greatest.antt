-- A profile whose text is the longest there is: 256 rules, each with a line of 48 bytes and LF. Assumes nothing.
use Prim.Native.Nat.{ℕ}
use Prim.Native.String.{String}
use mathlib.Core.Path.{◌≡◌, refl}
use mathlib.Core.Bool.{true}
use mathlib.Core.List.{List, [], ◌∷◌, ◌++◌, map}
use lib.ListN.{length}
use Rattle.laws.specs.Folds.{every}
use Rattle.rules.specs.Rules.{covers}
use Rattle.rules.specs.declared.Scope.TheVariants.{OneUnit}
use Rattle.rules.specs.declared.Kind.TheVariants.{Rate}
use Rattle.rules.specs.declared.Limit.TheVariants.{Notional}
use Rattle.rules.specs.declared.Rule.{Rule}
use Rattle.rules.specs.Valid.{is_limit, is_kind, is_scope, is_rule}
use Rattle.text.specs.Text.{bytes, all, made, numeral, name_number}
use Rattle.text.specs.Digits.{digits_up_to, name_bytes, decimal}
use Rattle.machine.specs.State.{Profile}
use Rattle.admission.specs.Admission.{how_many, is_firm_rule, on_unit, crowded, seen_after, is_next, are_in_order}
use Rattle.given.specs.Names.{is_name_number}
use Rattle.given.specs.Given.{is_fresh, are_roots, is_made}
use Rattle.writing.specs.Writing.{type_name, limit_text, window_text, root_text, level_text, call_put_text, month_text, field_texts, before_fields, trimmed, with_commas, line_text, lines_text, text_of, text_most}

-- the rule with the longest line, for a unit of a root
abbrev longest : ℕ → ℕ → Rule
longest root unit = record { scope = OneUnit root unit; kind = Rate 86_400_000; limit = Notional (record { 0 = 100_000_000_000 }) }

-- four and six of them for a unit, and the 24 of a root
abbrev four : ℕ → ℕ → List Rule
four root unit = longest root unit ∷ longest root unit ∷ longest root unit ∷ longest root unit ∷ []

abbrev six : ℕ → ℕ → List Rule
six root unit = longest root unit ∷ longest root unit ∷ four root unit

abbrev of_root : ℕ → List Rule
of_root root = six root 0 ++ (six root 1 ++ (six root 2 ++ six root 3))

abbrev names : List String
names = "AAAAAA" ∷ "BBBBBB" ∷ "CCCCCC" ∷ "DDDDDD" ∷ "EEEEEE" ∷ "FFFFFF" ∷ "GGGGGG" ∷ "HHHHHH" ∷ "IIIIII" ∷ "JJJJJJ" ∷ "KKKKKK" ∷ []

abbrev pub greatest : Profile
unfolding numeral
greatest = record {
  firm = name_number (bytes "ABCD");
  roots = map (λ name. name_number (bytes name)) names;
  rules =
      of_root 0 ++ (of_root 1 ++ (of_root 2 ++ (of_root 3 ++ (of_root 4 ++ (of_root 5 ++ (of_root 6 ++ (of_root 7 ++ (of_root 8 ++ (of_root 9 ++ (six 10 0 ++ (six 10 1 ++ four 10 2)))))))))));
}

pub greatest-long : length (text_of greatest) ≡ text_most
unfolding numeral digits_up_to name_bytes decimal type_name limit_text window_text root_text level_text call_put_text month_text field_texts before_fields trimmed with_commas line_text lines_text text_of
greatest-long = refl

pub greatest-made : is_made greatest ≡ true
unfolding numeral digits_up_to name_bytes is_name_number made all is_made are_roots is_fresh are_in_order is_next seen_after every is_rule is_limit is_kind is_scope crowded how_many is_firm_rule on_unit covers
greatest-made = refl
