-- A profile with its text, and that the test takes it: one rule of each scope, kind and measure. Assumes nothing.
use mathlib.Core.Path.{◌≡◌, refl}
use mathlib.Core.Bool.{true}
use mathlib.Core.List.{[], ◌∷◌}
use Rattle.rules.specs.Rules.{covers}
use Rattle.rules.specs.declared.Scope.TheVariants.{EveryFill, WholeRoot, OneUnit}
use Rattle.rules.specs.declared.Kind.TheVariants.{Rate, Absolute}
use Rattle.rules.specs.declared.Limit.TheVariants.{Notional, Volume, Count}
use Rattle.text.specs.Text.{bytes, all, made, numeral, name_number}
use Rattle.laws.specs.Folds.{every}
use Rattle.rules.specs.Valid.{is_limit, is_kind, is_scope, is_rule}
use Rattle.machine.specs.State.{Profile}
use Rattle.admission.specs.Admission.{how_many, is_firm_rule, on_unit, crowded, seen_after, is_next, are_in_order}
use Rattle.text.specs.Digits.{digits_up_to, name_bytes, decimal}
use Rattle.given.specs.Names.{is_name_number}
use Rattle.given.specs.Given.{is_fresh, are_roots, is_made}
use Rattle.writing.specs.Writing.{type_name, limit_text, window_text, root_text, level_text, call_put_text, month_text, field_texts, before_fields, trimmed, with_commas, line_text, lines_text, text_of}

abbrev example : Profile
unfolding numeral
example = record {
  firm = name_number (bytes "ABCD");
  roots = name_number (bytes "XYZ") ∷ name_number (bytes "Q1") ∷ [];
  rules =
      record { scope = WholeRoot 0; kind = Absolute; limit = Volume (record { 0 = 1000 }) }
      ∷ record { scope = OneUnit 1 3; kind = Rate 60_000; limit = Notional (record { 0 = 1000 }) }
      ∷ record { scope = OneUnit 0 0; kind = Absolute; limit = Count (record { 0 = 10 }) }
      ∷ record { scope = EveryFill; kind = Rate 100; limit = Count (record { 0 = 10 }) }
      ∷ [];
}

written : text_of example ≡ bytes "ABCD,abs_vol,XYZ,1000\nABCD,rate_ntnl,Q1,1000,60000,,P,T\nABCD,abs_count,XYZ,10,,,C,F\nABCD,rate_count,,10,100,T\n"
unfolding numeral digits_up_to name_bytes decimal type_name limit_text window_text root_text level_text call_put_text month_text field_texts before_fields trimmed with_commas line_text lines_text text_of
written = refl

taken : is_made example ≡ true
unfolding numeral digits_up_to name_bytes is_name_number made all is_made are_roots is_fresh are_in_order is_next seen_after every is_rule is_limit is_kind is_scope crowded how_many is_firm_rule on_unit covers
taken = refl
