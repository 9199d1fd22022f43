-- A profile written as text: a line for each rule, no leading zeros, effective windows, the time limit of an absolute rule empty, empty fields at
-- the end of a line dropped, every line with LF. Assumes nothing.
use Rattle.std.specs.Prelude.{ℕ, cond, ◌||◌, List, [], ◌∷◌, ◌++◌, get_or, eqb, ltb}
use Rattle.rules.specs.declared.Scope.{Scope}
use Rattle.rules.specs.declared.Scope.TheVariants.{EveryFill, WholeRoot, OneUnit}
use Rattle.rules.specs.declared.Kind.{Kind}
use Rattle.rules.specs.declared.Kind.TheVariants.{Rate, Absolute}
use Rattle.rules.specs.declared.Limit.{Limit}
use Rattle.rules.specs.declared.Limit.TheVariants.{Notional, Volume, Count}
use Rattle.rules.specs.declared.Rule.{Rule}
use Rattle.text.specs.Text.{bytes}
use Rattle.text.specs.Digits.{name_bytes, decimal}
use Rattle.machine.specs.State.{Profile}

unfoldable pub type_name : Kind → Limit → List ℕ
type_name (Rate w) (Notional l) = bytes "rate_ntnl"
type_name (Rate w) (Volume l) = bytes "rate_vol"
type_name (Rate w) (Count l) = bytes "rate_count"
type_name Absolute (Notional l) = bytes "abs_ntnl"
type_name Absolute (Volume l) = bytes "abs_vol"
type_name Absolute (Count l) = bytes "abs_count"

unfoldable pub limit_text : Limit → List ℕ
limit_text (Notional l) = decimal l.0
limit_text (Volume l) = decimal l.0
limit_text (Count l) = decimal l.0

unfoldable pub window_text : Kind → List ℕ
window_text (Rate w) = decimal w
window_text Absolute = []

-- the root's name, the firm level, call/put and month of a scope
unfoldable pub root_text : List ℕ → Scope → List ℕ
root_text roots EveryFill = []
root_text roots (WholeRoot root) = name_bytes (get_or roots root 0)
root_text roots (OneUnit root unit) = name_bytes (get_or roots root 0)

unfoldable pub level_text : Scope → List ℕ
level_text EveryFill = bytes "T"
level_text (WholeRoot root) = []
level_text (OneUnit root unit) = []

unfoldable pub call_put_text : Scope → List ℕ
call_put_text EveryFill = []
call_put_text (WholeRoot root) = []
call_put_text (OneUnit root unit) = cond (ltb unit 2) (bytes "C") (bytes "P")

unfoldable pub month_text : Scope → List ℕ
month_text EveryFill = []
month_text (WholeRoot root) = []
month_text (OneUnit root unit) = cond (eqb unit 0 || eqb unit 2) (bytes "F") (bytes "T")

-- the eight fields of a rule's line
unfoldable pub field_texts : ℕ → List ℕ → Rule → List (List ℕ)
field_texts firm roots rule =
    name_bytes firm ∷ type_name rule.kind rule.limit ∷ root_text roots rule.scope ∷ limit_text rule.limit ∷ window_text rule.kind
    ∷ level_text rule.scope ∷ call_put_text rule.scope ∷ month_text rule.scope ∷ []

-- a field in front of the others, unless it and all of them are empty
unfoldable pub before_fields : List ℕ → List (List ℕ) → List (List ℕ)
before_fields [] [] = []
before_fields [] (g ∷ rest) = [] ∷ g ∷ rest
before_fields (x ∷ f) rest = (x ∷ f) ∷ rest

-- fields with the empty ones at the end dropped
unfoldable pub trimmed : List (List ℕ) → List (List ℕ)
trimmed [] = []
trimmed (f ∷ rest) = before_fields f (trimmed rest)

-- fields with a comma between them
unfoldable pub with_commas : List (List ℕ) → List ℕ
with_commas [] = []
with_commas (f ∷ []) = f
with_commas (f ∷ g ∷ rest) = f ++ (44 ∷ with_commas (g ∷ rest))

unfoldable pub line_text : ℕ → List ℕ → Rule → List ℕ
line_text firm roots rule = with_commas (trimmed (field_texts firm roots rule))

unfoldable pub lines_text : ℕ → List ℕ → List Rule → List ℕ
lines_text firm roots [] = []
lines_text firm roots (rule ∷ rules) = line_text firm roots rule ++ (10 ∷ lines_text firm roots rules)

-- the whole text
unfoldable pub text_of : Profile → List ℕ
text_of p = lines_text p.firm p.roots p.rules

-- how many bytes it can have: a profile has at most 256 lines, and a line at most 48 bytes and LF
abbrev pub text_most : ℕ
text_most = 12_544
