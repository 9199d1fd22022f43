-- What a line without a fault gives, in the words of a lawful profile. Assumes nothing.
use Prim.Native.Nat.{ℕ, ◌+◌, ◌*◌, ◌-◌, ◌≤◌, ◌<◌}
use mathlib.Core.Path.{◌≡◌, refl, ap, ap₂}
use mathlib.Core.Bool.{Bool, true, false, cond, ◌&&◌, not, not-not, false≢true}
use mathlib.Core.List.{List, [], ◌∷◌}
use lib.ListN.{length}
use lib.Dec.{eqb, leb}
use borrow.Author.Tests.{le-leb}
use native.Mathlib.Omega.{arith}
use Rattle.laws.proofs.Tests.{and_l, and_r, tests}
use Rattle.measures.specs.Ranges.{Range, In, is_in, units}
use Rattle.rules.specs.Rules.{InRange}
use Rattle.rules.specs.declared.Scope.TheVariants.{WholeRoot, OneUnit}
use Rattle.rules.specs.declared.Kind.{Kind}
use Rattle.rules.specs.declared.Kind.TheVariants.{Rate, Absolute}
use Rattle.rules.specs.declared.Limit.{Limit}
use Rattle.rules.specs.declared.Limit.TheVariants.{Notional, Volume, Count}
use Rattle.rules.specs.declared.Rule.{Rule}
use Rattle.text.specs.Text.{field, all, made, is_name, is_name_byte, name_number, name_of, numeral}
use Rattle.std.specs.Prelude.{Some, None, is_some, unwrap_or, Ok}
use Rattle.line.specs.Line.{firm_field, root_field, root_in, is_firm_level, call_put, month, malformed, scope_of, rule_of, line_of}
use Rattle.line.proofs.Laws.{InScope, InWindow, line-accepted, line-rule, line-firm}
use Rattle.rules.specs.Valid.{is_limit, is_kind}
use Rattle.profile.specs.Inner.Lawful.{IsNameNumber, SaidScope, Said}

-- a number in its range passes the test
in-passes : (r : Range) (n : ℕ) → In r n → is_in r n ≡ true
in-passes r n h = ap₂ (λ a b. a && b) (le-leb r.least n h.0) (le-leb n r.most h.1)

limit-passes : (l : Limit) → InRange l → is_limit l ≡ true
unfolding InRange is_limit
limit-passes (Notional l) h = in-passes _ _ h
limit-passes (Volume l) h = in-passes _ _ h
limit-passes (Count l) h = in-passes _ _ h

kind-passes : (k : Kind) → InWindow k → is_kind k ≡ true
unfolding InWindow is_kind
kind-passes (Rate w) h = in-passes _ _ h
kind-passes Absolute h = refl

-- a name of some bytes has at least one
some_byte : (least most : ℕ) (f : List ℕ) → is_name least most f ≡ true → 1 ≤ length f → is_name 1 most f ≡ true
unfolding made
some_byte least most f e h =
    let low = leb least (length f) in
    let high = leb (length f) most in
    let both = and_l (low && high) (all is_name_byte f) e in
    ap₂ (λ a b. a && b) (ap₂ (λ a b. a && b) (le-leb 1 (length f) h) (and_r low high both)) (and_r (low && high) (all is_name_byte f) e)

-- a field that was read as a number above 0 has the name of that number
named : (least most : ℕ) (f : List ℕ) → is_some (name_of least most f) ≡ true → 0 < unwrap_or (name_of least most f) 0 → IsNameNumber 1 most (unwrap_or (name_of least most f) 0)
unfolding name_of numeral
named least most f = go f (is_name least most f) refl
  where
    go : (f : List ℕ) (t : Bool) → is_name least most f ≡ t → is_some (cond t (Some (name_number f)) None) ≡ true
        → 0 < unwrap_or (cond t (Some (name_number f)) None) 0 → IsNameNumber 1 most (unwrap_or (cond t (Some (name_number f)) None) 0)
    go [] true e h k = absurd (omega arith)
    go (x ∷ xs) true e h k = record { name = x ∷ xs; made = some_byte least most (x ∷ xs) e (omega arith); number = refl }
    go f false e h k = absurd (false≢true h)

-- a line that is not malformed has the firm and the root read
fields_read : (line : List ℕ) → malformed line ≡ false → (is_some (firm_field line) ≡ true) × (is_some (root_field line) ≡ true)
unfolding malformed
fields_read line e = let w = rw not-not at (ap not e) in (search tests depth 12, search tests depth 12)

-- the scope of a line has its root's name
scope-said : (root : ℕ) (firm_level : Bool) (call month : ℕ) → (0 < root → IsNameNumber 1 6 root) → InScope (scope_of root firm_level call month)
    → SaidScope (scope_of root firm_level call month)
unfolding scope_of InScope SaidScope
scope-said root true call month name h = tt
scope-said root false call month name h = go (eqb call 0) h
  where
    go : (t : Bool) → InScope (cond t (WholeRoot root) (OneUnit root ((call - 1) * 2 + (month - 1))))
        → SaidScope (cond t (WholeRoot root) (OneUnit root ((call - 1) * 2 + (month - 1))))
    go true h = name h.0
    go false h = (name h.0.0, in-passes units _ (omega arith, h.1))

module _ (firm : ℕ) (line : List ℕ) {rule : Rule} (e : line_of firm line ≡ Ok rule) where
  pub said : Said rule
  unfolding rule_of
  said =
      let a = line-accepted firm line e in
      let r = line-rule firm line e in
      let own : scope_of (root_in line) (is_firm_level line) (call_put line) (month line) ≡ rule.scope = ap (λ (q : Rule). q.scope) a.is in
      let root = named 0 6 (field line 2) (fields_read line a.well).1 in
      record {
        limit = limit-passes rule.limit r.limit;
        kind = kind-passes rule.kind r.kind;
        scope = rw own at (scope-said (root_in line) (is_firm_level line) (call_put line) (month line) root (rw own r.scope));
      }

  pub firm-named : IsNameNumber 1 4 firm
  firm-named =
      let f = line-firm firm line e in
      rw f.0 at (named 1 4 (field line 0) (fields_read line (line-accepted firm line e).well).0 f.1)
