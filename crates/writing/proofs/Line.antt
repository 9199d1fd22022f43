-- The line that is written for a rule is read as that rule, with its root's name for the root's number. Assumes nothing.
use Prim.Native.Nat.{ℕ, ◌≤◌}
use mathlib.Core.Path.{◌≡◌, refl, ap, ◌∙◌}
use mathlib.Core.Bool.{Bool, true, false}
use mathlib.Core.List.{List, []}
use lib.ListN.{length, get_or}
use lib.Dec.{leb, lit<}
use borrow.Author.Tests.{le-leb, eq-eqb}
use native.Mathlib.Omega.{arith}
use Rattle.rules.specs.declared.Rule.{Rule}
use Rattle.text.specs.Text.{all, fields, field}
use Rattle.std.specs.Prelude.{Some, Ok}
use Rattle.line.specs.Line.{is_absolute, limit_of, kind_of, time_of, firm_field, type_field, root_field, limit_field, is_firm_level, call_put, month, malformed, other_firm, out_of_range, level_clash, unit_clash, fault_of, scope_of, rule_of, line_of}
use Rattle.line.specs.declared.LimitType.{LimitType}
use Rattle.laws.specs.Folds.{every}
use Rattle.rules.specs.Valid.{is_rule}
use Rattle.packing.specs.RulePlace.{limit_number, window_number}
use Rattle.given.specs.Names.{is_name_number}
use Rattle.given.specs.Given.{are_roots}
use Rattle.writing.specs.Writing.{limit_text, root_text, field_texts, trimmed, line_text}
use Rattle.given.proofs.Names.{name-read}
use Rattle.given.proofs.Order.{rule-scope}
use Rattle.writing.proofs.Pieces.{in_line, is_field, fields_back, commas-bytes, trimmed-at, trimmed-reach, trimmed-few, trimmed-every}
use Rattle.writing.proofs.Fields.{TypeFacts, RootFacts, NumberFacts, WindowFacts, LetterFacts, type_is, name_in, is_every, call_in, month_in, with_name, name-field, rule-limit, rule-kind, type-facts, limit-facts, window-facts, letter-facts, root-facts}

-- how each field of a line is read
pub record Says (line : List ℕ) (firm : ℕ) (type : LimitType) (root limit time : ℕ) (level : Bool) (call months : ℕ) : Type 0 where
  pub enough : 4 ≤ length (fields line)
  pub few : length (fields line) ≤ 8
  pub firm-is : firm_field line ≡ Some firm
  pub type-is : type_field line ≡ Some type
  pub root_is : root_field line ≡ Some root
  pub limit_is : limit_field line ≡ Some limit
  pub time-is : time_of (is_absolute type) (field line 4) ≡ Some time
  pub level-is : is_firm_level line ≡ level
  pub call-is : call_put line ≡ call
  pub month-is : month line ≡ months

-- a line that is read so has no fault if the numbers that it says have none
module _ {line : List ℕ} {firm : ℕ} {type : LimitType} {root limit time : ℕ} {level : Bool} {call months : ℕ}
    (s : Says line firm type root limit time level call months) where
  well-formed : leb call 2 ≡ true → leb months 2 ≡ true → malformed line ≡ false
  unfolding malformed
  well-formed c m =
      rw (le-leb 4 (length (fields line)) s.enough, le-leb (length (fields line)) 8 s.few, s.firm-is, s.type-is, s.root_is, s.limit_is, s.time-is, s.call-is, s.month-is, c, m)

  same-firm : other_firm firm line ≡ false
  unfolding other_firm
  same-firm = rw (s.firm-is, eq-eqb firm firm refl)

  pub line-of : leb call 2 ≡ true → leb months 2 ≡ true → out_of_range type limit time ≡ false → level_clash root level ≡ false → unit_clash level call months ≡ false
      → line_of firm line ≡ Ok (record { scope = scope_of root level call months; kind = kind_of type time; limit = limit_of type limit })
  unfolding line_of fault_of rule_of
  line-of c m o l u = rw (well-formed c m, same-firm, s.type-is, s.limit_is, s.time-is, s.root_is, s.level-is, s.call-is, s.month-is, o, l, u)

-- the line of a rule that a profile with these roots may hold
module _ (firm : ℕ) (roots : List ℕ) (rule : Rule) (f : is_name_number 1 4 firm ≡ true) (r : are_roots roots ≡ true) (h : is_rule (length roots) rule ≡ true) where
  type : TypeFacts rule.kind rule.limit
  type = type-facts rule.kind rule.limit

  root : RootFacts (root_text roots rule.scope) (name_in roots rule.scope) (is_every rule.scope)
  root = root-facts roots rule.scope r (rule-scope (length roots) rule h)

  limits : NumberFacts (limit_text rule.limit) (limit_number rule.limit)
  limits = limit-facts rule.limit (rule-limit (length roots) rule h)

  window : WindowFacts rule.kind
  window = window-facts rule.kind (rule-kind (length roots) rule h)

  letters : LetterFacts roots rule.scope
  letters = letter-facts roots rule.scope (rule-scope (length roots) rule h)

  -- its fields are those that were written, but for the empty ones at its end
  texts-fields : every is_field (field_texts firm roots rule) ≡ true
  unfolding field_texts every
  texts-fields =
      rw (name-field 1 4 firm f, type.plain, root.plain, limits.plain, window.plain, letters.level-plain, letters.call-plain, letters.month-plain)

  trimmed-fields : every is_field (trimmed (field_texts firm roots rule)) ≡ true
  trimmed-fields = trimmed-every is_field (field_texts firm roots rule) texts-fields

  enough-texts : 4 ≤ length (trimmed (field_texts firm roots rule))
  unfolding field_texts
  enough-texts = trimmed-reach (field_texts firm roots rule) 3 limits.some

  few-texts : length (trimmed (field_texts firm roots rule)) ≤ 8
  unfolding field_texts
  few-texts = trimmed-few (field_texts firm roots rule)

  line-fields : fields (line_text firm roots rule) ≡ trimmed (field_texts firm roots rule)
  unfolding line_text
  line-fields = fields_back (trimmed (field_texts firm roots rule)) (omega (arith, enough-texts)) trimmed-fields

  line-field : (k : ℕ) → field (line_text firm roots rule) k ≡ get_or (field_texts firm roots rule) k []
  line-field k = ap (λ fs. get_or fs k []) line-fields ∙ trimmed-at (field_texts firm roots rule) k

  pub line-bytes : all in_line (line_text firm roots rule) ≡ true
  unfolding line_text
  line-bytes = commas-bytes (trimmed (field_texts firm roots rule)) trimmed-fields

  -- it says what it was written for
  line-says : Says (line_text firm roots rule) firm (type_is rule.kind rule.limit) (name_in roots rule.scope) (limit_number rule.limit)
      (window_number rule.kind) (is_every rule.scope) (call_in rule.scope) (month_in rule.scope)
  unfolding field_texts
  line-says = record {
    enough = rw line-fields enough-texts;
    few = rw line-fields few-texts;
    firm-is = rw (line-field 0) (name-read 1 4 firm f (lit< tt));
    type-is = rw (line-field 1) type.read;
    root_is = rw (line-field 2) root.read;
    limit_is = rw (line-field 3) limits.read;
    time-is = rw (line-field 4, type.absolute) window.read;
    level-is = rw (line-field 5) letters.level-read;
    call-is = rw (line-field 6) letters.call-read;
    month-is = rw (line-field 7) letters.month-read;
  }

  pub line-firm : firm_field (line_text firm roots rule) ≡ Some firm
  line-firm = line-says.firm-is

  in-range : out_of_range (type_is rule.kind rule.limit) (limit_number rule.limit) (window_number rule.kind) ≡ false
  unfolding out_of_range
  in-range = rw (type.range, rule-limit (length roots) rule h, window.range)

  kind-back : kind_of (type_is rule.kind rule.limit) (window_number rule.kind) ≡ rule.kind
  unfolding kind_of
  kind-back = rw type.absolute window.back

  pub line-back : line_of firm (line_text firm roots rule) ≡ Ok (with_name roots rule)
  line-back =
      line-of line-says letters.call-few letters.month-few in-range root.level letters.units
      ∙ rw (letters.back, kind-back, type.back)
