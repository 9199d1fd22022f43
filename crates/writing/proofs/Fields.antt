-- The eight fields that are written for a rule: each is one, and is read as what it was written for. Assumes nothing.
use Prim.Native.Nat.{ℕ, zero, suc, ◌^◌, ◌≤◌, ◌<◌, max}
use mathlib.Core.Path.{◌≡◌, refl}
use mathlib.Core.Bool.{Bool, true, false, cond, ◌&&◌, ◌||◌, not}
use mathlib.Core.List.{List}
use lib.ListN.{length, get_or}
use lib.Dec.{eqb, leb, ltb, lit<}
use borrow.Author.Tests.{lt-ltb, le-ltb, ne_eqb}
use native.Mathlib.Nat.{max-eq_right}
use native.Mathlib.Omega.{arith}
use Rattle.laws.proofs.Tests.{and_i, tests}
use Rattle.laws.specs.Lists.{same}
use Rattle.measures.specs.Ranges.{Range, is_in, dollar_limits, number_limits}
use Rattle.rules.specs.Rules.{is_rate}
use Rattle.rules.specs.declared.Scope.{Scope}
use Rattle.rules.specs.declared.Scope.TheVariants.{EveryFill, WholeRoot, OneUnit}
use Rattle.rules.specs.declared.Kind.{Kind}
use Rattle.rules.specs.declared.Kind.TheVariants.{Rate, Absolute}
use Rattle.rules.specs.declared.Limit.{Limit}
use Rattle.rules.specs.declared.Limit.TheVariants.{Notional, Volume, Count}
use Rattle.rules.specs.declared.Rule.{Rule}
use Rattle.text.specs.Text.{bytes, all, made, numeral, is_name_byte, is_digit, field_number, name_of}
use Rattle.std.specs.Prelude.{Some}
use Rattle.text.specs.Digits.{name_bytes, decimal}
use Rattle.text.proofs.Decimal.{decimal-digits, decimal-upto, decimal-some, decimal-read}
use Rattle.line.specs.Line.{type_of, is_absolute, limits_of, limit_of, time_of, letter_of, level_clash, unit_clash, scope_of}
use Rattle.line.specs.declared.LimitType.{LimitType}
use Rattle.line.specs.declared.LimitType.TheVariants.{RateNtnl, RateVol, RateCount, AbsNtnl, AbsVol, AbsCount}
use Rattle.packing.specs.RulePlace.{limit_number, window_number}
use Rattle.rules.specs.Valid.{is_limit, is_kind, is_scope, is_rule, windows}
use Rattle.given.specs.Names.{is_name_number}
use Rattle.given.specs.Given.{are_roots}
use Rattle.writing.specs.Writing.{type_name, limit_text, window_text, root_text, level_text, call_put_text, month_text}
use Rattle.text.proofs.Bytes.{all_weaker, made_of, made_all}
use Rattle.given.proofs.Names.{name-few, name-any, name-read, name-some}
use Rattle.writing.proofs.Pieces.{in_field, is_field}
use Rattle.writing.proofs.Roots.{root-name}

-- a rule that a profile with n roots may hold: its limit, its kind and its scope
module _ (n : ℕ) (rule : Rule) (h : is_rule n rule ≡ true) where
  pub rule-limit : is_limit rule.limit ≡ true
  unfolding is_rule
  rule-limit = search tests

  pub rule-kind : is_kind rule.kind ≡ true
  unfolding is_rule
  rule-kind = search tests

-- digits and names are fields
digit-plain : (x : ℕ) → is_digit x ≡ true → in_field x ≡ true
digit-plain x h =
    let least : 48 ≤ x = search tests in
    let most : x ≤ 57 = search tests in
    and_i (lt-ltb 44 x (omega arith)) (lt-ltb x 128 (omega arith))

name-plain : (x : ℕ) → is_name_byte x ≡ true → in_field x ≡ true
name-plain x h = go (is_digit x) refl h
  where
    go : (t : Bool) → is_digit x ≡ t → (t || leb 65 x && leb x 90) ≡ true → in_field x ≡ true
    go true e h = digit-plain x e
    go false e h =
        let least : 65 ≤ x = search tests in
        let most : x ≤ 90 = search tests in
        and_i (lt-ltb 44 x (omega arith)) (lt-ltb x 128 (omega arith))

pub decimal-field : (n : ℕ) → n < 10 ^ 12 → is_field (decimal n) ≡ true
decimal-field n h = made_of in_field 0 12 (decimal n) (omega arith) (decimal-upto 11 n h) (all_weaker digit-plain (decimal n) (decimal-digits n))

pub name-field : (least most n : ℕ) → is_name_number least most n ≡ true → is_field (name_bytes n) ≡ true
unfolding is_name_number
name-field least most n h =
    made_of in_field 0 12 (name_bytes n) (omega arith) (omega (arith, name-few n)) (all_weaker name-plain (name_bytes n) (made_all is_name_byte least most (name_bytes n) h))

-- the type that a rule's second field names, and what holds of each of the six
unfoldable pub type_is : Kind → Limit → LimitType
type_is (Rate w) (Notional l) = RateNtnl
type_is (Rate w) (Volume l) = RateVol
type_is (Rate w) (Count l) = RateCount
type_is Absolute (Notional l) = AbsNtnl
type_is Absolute (Volume l) = AbsVol
type_is Absolute (Count l) = AbsCount

pub record TypeFacts (kind : Kind) (limit : Limit) : Type 0 where
  pub plain : is_field (type_name kind limit) ≡ true
  pub read : type_of (type_name kind limit) ≡ Some (type_is kind limit)
  pub absolute : is_absolute (type_is kind limit) ≡ not (is_rate kind)
  pub range : is_in (limits_of (type_is kind limit)) (limit_number limit) ≡ is_limit limit
  pub back : limit_of (type_is kind limit) (limit_number limit) ≡ limit

pub type-facts : (kind : Kind) (limit : Limit) → TypeFacts kind limit
unfolding type_is type_name type_of is_absolute limits_of is_limit limit_of is_rate made all same
type-facts (Rate w) (Notional l) = search
type-facts (Rate w) (Volume l) = search
type-facts (Rate w) (Count l) = search
type-facts Absolute (Notional l) = search
type-facts Absolute (Volume l) = search
type-facts Absolute (Count l) = search

-- a number of a range, in digits: the limit, and the window of a rate rule
pub record NumberFacts (text : List ℕ) (n : ℕ) : Type 0 where
  pub plain : is_field text ≡ true
  pub some : 0 < length text
  pub read : field_number text ≡ Some n

number-facts : (r : Range) (n : ℕ) → r.most < 10 ^ 12 → is_in r n ≡ true → NumberFacts (decimal n) n
number-facts r n most h =
    let high : n ≤ r.most = search tests in
    let below : n < 10 ^ 12 = omega arith in
    record { plain = decimal-field n below; some = decimal-some n; read = decimal-read n below }

pub limit-facts : (limit : Limit) → is_limit limit ≡ true → NumberFacts (limit_text limit) (limit_number limit)
unfolding is_limit limit_text
limit-facts (Notional l) h = number-facts dollar_limits l.0 (lit< tt) h
limit-facts (Volume l) h = number-facts number_limits l.0 (lit< tt) h
limit-facts (Count l) h = number-facts number_limits l.0 (lit< tt) h

pub record WindowFacts (kind : Kind) : Type 0 where
  pub plain : is_field (window_text kind) ≡ true
  pub read : time_of (not (is_rate kind)) (window_text kind) ≡ Some (window_number kind)
  pub range : ltb 86_400_000 (window_number kind) ≡ false
  pub back : cond (not (is_rate kind)) Absolute (Rate (max 100 (window_number kind))) ≡ kind

pub window-facts : (kind : Kind) → is_kind kind ≡ true → WindowFacts kind
unfolding is_kind window_text time_of is_rate made all
window-facts (Rate w) h =
    let facts = number-facts windows w (lit< tt) h in
    record {
      plain = facts.plain;
      read = rw (ne_eqb (length (decimal w)) 0 (λ e. omega (arith, facts.some))) facts.read;
      range = le-ltb 86_400_000 w (search tests);
      back = let low : 100 ≤ w = search tests in rw (max-eq_right low);
    }
window-facts Absolute h = search

-- what the other fields of a scope read as: the root's name, 0 if it has none; whether it is the firm level; calls 1, puts 2, front months 1
-- and trailing months 2, 0 where the field is empty
unfoldable pub name_in : List ℕ → Scope → ℕ
name_in roots EveryFill = 0
name_in roots (WholeRoot root) = get_or roots root 0
name_in roots (OneUnit root unit) = get_or roots root 0

unfoldable pub is_every : Scope → Bool
is_every EveryFill = true
is_every (WholeRoot root) = false
is_every (OneUnit root unit) = false

unfoldable pub call_in : Scope → ℕ
call_in EveryFill = 0
call_in (WholeRoot root) = 0
call_in (OneUnit root unit) = cond (ltb unit 2) 1 2

unfoldable pub month_in : Scope → ℕ
month_in EveryFill = 0
month_in (WholeRoot root) = 0
month_in (OneUnit root unit) = cond (eqb unit 0 || eqb unit 2) 1 2

-- the scope with its root's name for the root's number, as a line gives it
unfoldable pub named : List ℕ → Scope → Scope
named roots EveryFill = EveryFill
named roots (WholeRoot root) = WholeRoot (get_or roots root 0)
named roots (OneUnit root unit) = OneUnit (get_or roots root 0) unit

-- a rule so
abbrev pub with_name : List ℕ → Rule → Rule
with_name roots rule = record { scope = named roots rule.scope; kind = rule.kind; limit = rule.limit }

pub record LetterFacts (roots : List ℕ) (scope : Scope) : Type 0 where
  pub level-plain : is_field (level_text scope) ≡ true
  pub level-read : same (level_text scope) (bytes "T") ≡ is_every scope
  pub call-plain : is_field (call_put_text scope) ≡ true
  pub call-read : letter_of 67 80 (call_put_text scope) ≡ call_in scope
  pub call-few : leb (call_in scope) 2 ≡ true
  pub month-plain : is_field (month_text scope) ≡ true
  pub month-read : letter_of 70 84 (month_text scope) ≡ month_in scope
  pub month-few : leb (month_in scope) 2 ≡ true
  pub units : unit_clash (is_every scope) (call_in scope) (month_in scope) ≡ false
  pub back : scope_of (name_in roots scope) (is_every scope) (call_in scope) (month_in scope) ≡ named roots scope

by-unit : (P : ℕ → Type 0) → P 0 → P 1 → P 2 → P 3 → (u : ℕ) → u ≤ 3 → P u
by-unit P a b c d zero h = a
by-unit P a b c d (suc zero) h = b
by-unit P a b c d (suc (suc zero)) h = c
by-unit P a b c d (suc (suc (suc zero))) h = d
by-unit P a b c d (suc (suc (suc (suc u)))) h = absurd (omega arith)

pub letter-facts : (roots : List ℕ) (scope : Scope) → is_scope (length roots) scope ≡ true → LetterFacts roots scope
unfolding is_scope level_text is_every call_put_text call_in month_text month_in name_in named letter_of unit_clash scope_of made all same
letter-facts roots EveryFill h = search
letter-facts roots (WholeRoot root) h = search
letter-facts roots (OneUnit root unit) h =
    by-unit (λ u. LetterFacts roots (OneUnit root u)) (search) (search) (search) (search) unit (search tests)

pub record RootFacts (text : List ℕ) (name : ℕ) (every : Bool) : Type 0 where
  pub plain : is_field text ≡ true
  pub read : name_of 0 6 text ≡ Some name
  pub level : level_clash name every ≡ false

name-facts : (name : ℕ) → is_name_number 1 6 name ≡ true → RootFacts (name_bytes name) name false
unfolding level_clash
name-facts name h = record {
  plain = name-field 1 6 name h;
  read = name-read 0 6 name (name-any 1 6 name h) (lit< tt);
  level = rw (lt-ltb 0 name (name-some 1 6 name h (lit< tt)));
}

pub root-facts : (roots : List ℕ) (scope : Scope) → are_roots roots ≡ true → is_scope (length roots) scope ≡ true
    → RootFacts (root_text roots scope) (name_in roots scope) (is_every scope)
unfolding is_scope root_text name_in is_every level_clash name_of made all numeral
root-facts roots EveryFill r h = search
root-facts roots (WholeRoot root) r h = name-facts (get_or roots root 0) (root-name roots root r (search tests))
root-facts roots (OneUnit root unit) r h =
    name-facts (get_or roots root 0) (root-name roots root r (search tests))
