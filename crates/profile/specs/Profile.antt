-- A whole profile: line by line, each adds its rule, until one has a fault or is one too many. Assumes nothing.
use Rattle.std.specs.Prelude.{ℕ, ◌+◌, Bool, cond, List, [], ◌∷◌, ◌++◌, length, get_or, eqb, ltb, Result, Ok, Err}
use Rattle.measures.specs.Ranges.{◌to◌, is_in}
use Rattle.rules.specs.declared.Scope.{Scope}
use Rattle.rules.specs.declared.Scope.TheVariants.{EveryFill, WholeRoot, OneUnit}
use Rattle.rules.specs.declared.Rule.{Rule}
use Rattle.machine.specs.State.{Profile}
use Rattle.admission.specs.Admission.{overfull}
use Rattle.text.specs.Text.{lines, index_of}
use Rattle.line.specs.Line.{firm_in, line_of}
use Rattle.tables.specs.Inner.Tables.{table_numbers}
use Rattle.packing.specs.RulePlace.{rules_table}
use Rattle.profile.specs.declared.Scan.{Scan}
use Rattle.profile.specs.Reading.{Reading, Accepted, Refused, reading_told}

-- the roots with a name among them: at the end, where it is new
unfoldable pub with_root : ℕ → List ℕ → List ℕ
with_root name roots = cond (ltb (index_of name roots) (length roots)) roots (roots ++ (name ∷ []))

-- the roots with the one that a scope names among them
unfoldable pub roots_with : Scope → List ℕ → List ℕ
roots_with EveryFill roots = roots
roots_with (WholeRoot name) roots = with_root name roots
roots_with (OneUnit name unit) roots = with_root name roots

-- a scope with the number of its root, its place among the roots, for the name
unfoldable pub numbered : List ℕ → Scope → Scope
numbered roots EveryFill = EveryFill
numbered roots (WholeRoot name) = WholeRoot (index_of name roots)
numbered roots (OneUnit name unit) = OneUnit (index_of name roots) unit

-- a profile with one rule more, which a line gives with its root's name
unfoldable pub joined : Profile → Rule → Profile
joined p rule = record {
  firm = p.firm;
  roots = roots_with rule.scope p.roots;
  rules =
      p.rules
      ++ (record { scope = numbered (roots_with rule.scope p.roots) rule.scope; kind = rule.kind; limit = rule.limit } ∷ []);
}

-- 11: with this rule there is one rule or root too many
unfoldable pub too_many : Profile → Rule → Bool
too_many p rule = overfull (joined p rule).rules (length (joined p rule).roots) (numbered (joined p rule).roots rule.scope)

-- how far a text was read: the profile of the lines before the first faulty one, that line's number from 1, and its refusal; 0 and 0 if none
pub record Outcome : Type 0 where
  pub profile : Profile
  pub refusal : ℕ
  pub line : ℕ

-- the line after n lines that gave the profile p: its fault stops the reading, or one rule too many; else the rest is read with its rule
unfoldable pub after_line : Profile → ℕ → Result Rule ℕ → (Rule → Outcome) → Outcome
after_line p n (Err k) rest = record { profile = p; refusal = k; line = n + 1 }
after_line p n (Ok rule) rest = cond (too_many p rule) (record { profile = p; refusal = 11; line = n + 1 }) (rest rule)

-- the lines that are left after n lines that gave the profile p
unfoldable pub read_on : Profile → ℕ → List (List ℕ) → Outcome
read_on p n [] = record { profile = p; refusal = 0; line = 0 }
read_on p n (l ∷ ls) = after_line p n (line_of p.firm l) (λ rule. read_on (joined p rule) (n + 1) ls)

-- before the first line: the firm of that line, no root and no rule
abbrev pub start_of : ℕ → Profile
start_of firm = record { firm = firm; roots = []; rules = [] }

-- a whole text: 5 if it is empty or above 65,536 bytes; else its lines, all for the firm of the first
unfoldable pub outcome_of : List ℕ → Outcome
outcome_of text =
    cond (is_in (1 to 65_536) (length text)) (read_on (start_of (firm_in (get_or (lines text) 0 []))) 0 (lines text))
    (record { profile = start_of 0; refusal = 5; line = 0 })

-- what reading answers: the firm and how many rules and roots there are, or the refusal with its line
unfoldable pub reading_of : Outcome → Reading
reading_of o =
    cond (eqb o.refusal 0) (Accepted o.profile.firm (length o.profile.rules) (length o.profile.roots)) (Refused o.refusal o.line)

-- the roots' names in 64 places
unfoldable pub roots_table : List ℕ → List ℕ
roots_table roots = table_numbers 1 64 (λ name. name ∷ []) roots

-- the answer, with the roots and the rules that were read in their places
pub record Scanned : Type 0 where
  pub reading : Reading
  pub roots : List ℕ
  pub rules : List ℕ

unfoldable pub scan_of : List ℕ → Scanned
scan_of text = record {
  reading = reading_of (outcome_of text);
  roots = roots_table (outcome_of text).profile.roots;
  rules = rules_table (outcome_of text).profile.rules;
}

-- ---- beside a firm that has a name already

-- the firm that the lines have to name: that of line 1, and none if the other has its name
unfoldable pub firm_beside : ℕ → List ℕ → ℕ
firm_beside other text = cond (eqb (firm_in (get_or (lines text) 0 [])) other) 0 (firm_in (get_or (lines text) 0 []))

-- a whole text, as `outcome_of` has it, for that firm; other is 0 where no other has a name
unfoldable pub outcome_beside : ℕ → List ℕ → Outcome
outcome_beside other text =
    cond (is_in (1 to 65_536) (length text)) (read_on (start_of (firm_beside other text)) 0 (lines text))
    (record { profile = start_of 0; refusal = 5; line = 0 })

unfoldable pub scan_beside : ℕ → List ℕ → Scanned
scan_beside other text = record {
  reading = reading_of (outcome_beside other text);
  roots = roots_table (outcome_beside other text).profile.roots;
  rules = rules_table (outcome_beside other text).profile.rules;
}

-- what the library hands back of it, its refusal by its number
abbrev pub scan_told : Scan → Scanned
scan_told scan = record { reading = reading_told scan.reading; roots = scan.roots; rules = scan.rules }
