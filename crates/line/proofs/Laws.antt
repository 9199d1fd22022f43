-- What an accepted line says of its rule and its firm, and the numbers that a refused one gets. Assumes nothing.
use Prim.Native.Nat.{ℕ, zero, suc, ◌+◌, ◌-◌, ◌*◌, ◌^◌, ◌≤◌, ◌<◌, max}
use mathlib.Core.Path.{◌≡◌, refl, sym, ap, ◌∙◌}
use mathlib.Core.Bool.{Bool, true, false, cond, ◌||◌, not, not-not, beq, false≢true}
use mathlib.Core.List.{List}
use lib.ListN.{length}
use lib.Dec.{eqb, ltb}
use borrow.Author.Tests.{le-ltb, ltb-true, ltb-false, eqb-true, not-false}
use native.Mathlib.Nat.{pow-le-pow_right}
use native.Mathlib.Omega.{arith}
use Rattle.laws.proofs.Tests.{tests}
use Rattle.measures.specs.Ranges.{Range, ◌to◌, In, is_in}
use Rattle.rules.specs.Rules.{InRange, InDay}
use Rattle.rules.specs.declared.Scope.{Scope}
use Rattle.rules.specs.declared.Scope.TheVariants.{EveryFill, WholeRoot, OneUnit}
use Rattle.rules.specs.declared.Kind.{Kind}
use Rattle.rules.specs.declared.Kind.TheVariants.{Rate, Absolute}
use Rattle.rules.specs.declared.Rule.{Rule}
use Rattle.text.specs.Text.{field, made, is_name, name_number, name_of}
use Rattle.std.specs.Prelude.{Some, None, is_some, unwrap_or, Result, Ok, Err}
use Rattle.text.proofs.Numerals.{name_below, name-zero}
use Rattle.line.specs.Line.{is_absolute, limits_of, limit_of, kind_of, firm_field, root_field, firm_in, type_in, root_in, limit_in, time_in, is_firm_level, call_put, month, malformed, other_firm, out_of_range, level_clash, scope_of, rule_of, line_of, any_line}
use Rattle.line.specs.declared.LimitType.{LimitType}
use Rattle.line.specs.declared.LimitType.TheVariants.{RateNtnl, RateVol, RateCount, AbsNtnl, AbsVol, AbsCount}
use Rattle.line.proofs.Parts.{test_in, first_of, range_fault, level_fault, unit_fault, line_first}

-- a name's number is above 0, and 6 bytes hold it
abbrev pub Named : ℕ → Type 0
Named root = (0 < root) × (root < 2 ^ 48)

-- a scope names its root, and a unit of it
unfoldable pub InScope : Scope → Type 0
InScope EveryFill = Unit
InScope (WholeRoot root) = Named root
InScope (OneUnit root unit) = Named root × (unit ≤ 3)

-- the windows of rate rules, in milliseconds
abbrev pub windows : Range
windows = 100 to 86_400_000

unfoldable pub InWindow : Kind → Type 0
InWindow (Rate window) = In windows window
InWindow Absolute = Unit

-- a rule such as a line can say
pub record Ruled (rule : Rule) : Type 0 where
  pub scope : InScope rule.scope
  pub kind : InWindow rule.kind
  pub limit : InRange rule.limit

-- a window that a line can say is at most a day long
pub in-day : (kind : Kind) → InWindow kind → InDay kind
unfolding InWindow InDay
in-day (Rate window) h = h.1
in-day Absolute h = tt

-- none of the five faults applies, and the rule is the line's
pub record Accepted (firm : ℕ) (line : List ℕ) (rule : Rule) : Type 0 where
  pub well : malformed line ≡ false
  pub own : other_firm firm line ≡ false
  pub ranged : range_fault line ≡ false
  pub levelled : level_fault line ≡ false
  pub united : unit_fault line ≡ false
  pub is : rule_of line ≡ rule

module _ (firm : ℕ) (line : List ℕ) where
  -- an accepted line has no fault
  pub line-accepted : {rule : Rule} → line_of firm line ≡ Ok rule → Accepted firm line rule
  line-accepted {rule} e =
      let n = go (malformed line) (other_firm firm line) (range_fault line) (level_fault line) (unit_fault line) (sym (line_first firm line) ∙ e) in
      record { well = n.0; own = n.1; ranged = n.2; levelled = n.3; united = n.4; is = n.5 }
    where
      never : {A : Type 0} {k : ℕ} → ◌≡◌ {A = Result Rule ℕ} (Err k) (Ok rule) → A
      never e = let z : ◌≡◌ {A = ℕ} 0 1 = cc in absurd (omega arith)

      go : (a b c d e : Bool) → first_of a b c d e (rule_of line) ≡ Ok rule
          → (a ≡ false) × (b ≡ false) × (c ≡ false) × (d ≡ false) × (e ≡ false) × (rule_of line ≡ rule)
      go true b c d e h = never h
      go false true c d e h = never h
      go false false true d e h = never h
      go false false false true e h = never h
      go false false false false true h = never h
      go false false false false false h = (refl, refl, refl, refl, refl, cc)

  -- a refused line gets 6 to 10
  pub line_refused : {k : ℕ} → line_of firm line ≡ Err k → (6 ≤ k) × (k ≤ 10)
  line_refused {k} e =
      go (malformed line) (other_firm firm line) (range_fault line) (level_fault line) (unit_fault line) (sym (line_first firm line) ∙ e)
    where
      at : (n : ℕ) → 6 ≤ n → n ≤ 10 → ◌≡◌ {A = Result Rule ℕ} (Err n) (Err k) → (6 ≤ k) × (k ≤ 10)
      at n h i e = let s : n ≡ k = cc in (omega arith, omega arith)

      go : (a b c d e : Bool) → first_of a b c d e (rule_of line) ≡ Err k → (6 ≤ k) × (k ≤ 10)
      go true b c d e h = at 6 (omega arith) (omega arith) h
      go false true c d e h = at 7 (omega arith) (omega arith) h
      go false false true d e h = at 8 (omega arith) (omega arith) h
      go false false false true e h = at 9 (omega arith) (omega arith) h
      go false false false false true h = at 10 (omega arith) (omega arith) h
      go false false false false false h = let z : ◌≡◌ {A = ℕ} 0 1 = cc in absurd (omega arith)

-- a name that is read is one, and its number is the name's
name-read : (least most : ℕ) (f : List ℕ) → is_some (name_of least most f) ≡ true
    → (is_name least most f ≡ true) × (unwrap_or (name_of least most f) 0 ≡ name_number f)
unfolding name_of
name-read least most f = go (is_name least most f) refl
  where
    go : (t : Bool) → is_name least most f ≡ t → is_some (cond t (Some (name_number f)) None) ≡ true
        → (is_name least most f ≡ true) × (unwrap_or (cond t (Some (name_number f)) None) 0 ≡ name_number f)
    go true e h = (e, refl)
    go false e h = absurd (false≢true h)

-- the number of a name of at most so many bytes fits them, and it is not 0 where the name has a byte
name-fits : (least most : ℕ) (f : List ℕ) → is_some (name_of least most f) ≡ true → unwrap_or (name_of least most f) 0 < 256 ^ most
unfolding made
name-fits least most f h =
    let n = name-read least most f h in
    let few : length f ≤ most = search tests depth 6 in
    let wide : 256 ^ length f ≤ 256 ^ most = pow-le-pow_right (omega arith) few in
    omega (arith, n.1, name_below least most f n.0)

name-some : (least most : ℕ) (f : List ℕ) → is_some (name_of least most f) ≡ true → 0 < least → 0 < unwrap_or (name_of least most f) 0
unfolding made
name-some least most f h l = go (unwrap_or (name_of least most f) 0) refl
  where
    go : (k : ℕ) → unwrap_or (name_of least most f) 0 ≡ k → 0 < k
    go zero e =
        let n = name-read least most f h in
        let long : least ≤ length f = search tests depth 6 in
        absurd (omega (arith, ap length (name-zero least most f n.0 (sym n.1 ∙ e))))
    go (suc k) e = omega arith

-- the parts of a rule are in their ranges where their faults do not apply
range-in : (type : LimitType) (limit time : ℕ) → out_of_range type limit time ≡ false → In (limits_of type) limit × (time ≤ 86_400_000)
unfolding out_of_range
range-in type limit time = go (is_in (limits_of type) limit) refl
  where
    go : (t : Bool) → is_in (limits_of type) limit ≡ t → (not t || ltb 86_400_000 time) ≡ false → In (limits_of type) limit × (time ≤ 86_400_000)
    go true h e = (test_in (limits_of type) limit h, ltb-false 86_400_000 time e)
    go false h e = absurd (false≢true (sym e))

limit-in : (type : LimitType) (limit : ℕ) → In (limits_of type) limit → InRange (limit_of type limit)
unfolding limits_of limit_of InRange
limit-in RateNtnl limit h = h
limit-in RateVol limit h = h
limit-in RateCount limit h = h
limit-in AbsNtnl limit h = h
limit-in AbsVol limit h = h
limit-in AbsCount limit h = h

kind-in : (type : LimitType) (time : ℕ) → time ≤ 86_400_000 → InWindow (kind_of type time)
unfolding kind_of InWindow
kind-in type time h = go (is_absolute type)
  where
    go : (t : Bool) → InWindow (cond t Absolute (Rate (max 100 time)))
    go true = tt
    go false = (omega arith, omega arith)

scope-in : (root : ℕ) (firm_level : Bool) (call month : ℕ) → root < 2 ^ 48 → call ≤ 2 → month ≤ 2 → level_clash root firm_level ≡ false
    → InScope (scope_of root firm_level call month)
unfolding level_clash scope_of InScope
scope-in root true call month few c m e = tt
scope-in root false call month few c m e = go (ltb 0 root) refl e (eqb call 0)
  where
    go : (s : Bool) → ltb 0 root ≡ s → beq s false ≡ false → (t : Bool)
        → InScope (cond t (WholeRoot root) (OneUnit root ((call - 1) * 2 + (month - 1))))
    go true h e true = (ltb-true 0 root h, few)
    go true h e false = ((ltb-true 0 root h, few), omega arith)
    go false h e t = absurd (false≢true (sym e))

-- what a line that is not malformed has read
read-fields : (line : List ℕ) → malformed line ≡ false
    → (is_some (firm_field line) ≡ true) × (is_some (root_field line) ≡ true) × (call_put line ≤ 2) × (month line ≤ 2)
unfolding malformed
read-fields line e =
    let w = rw not-not at (ap not e) in
    (search tests depth 12, search tests depth 12, search tests depth 12, search tests depth 12)

module _ (firm : ℕ) (line : List ℕ) {rule : Rule} (e : line_of firm line ≡ Ok rule) where
  -- the rule of an accepted line has all its parts in range
  pub line-rule : Ruled rule
  unfolding rule_of
  line-rule =
      let a = line-accepted firm line e in
      let read = read-fields line a.well in
      let ranged = range-in (type_in line) (limit_in line) (time_in line) a.ranged in
      rw (← a.is)
      (record {
        scope =
            scope-in (root_in line) (is_firm_level line) (call_put line) (month line) (name-fits 0 6 (field line 2) read.1) read.2 read.3 a.levelled;
        kind = kind-in (type_in line) (time_in line) ranged.1;
        limit = limit-in (type_in line) (limit_in line) ranged.0;
      })

  -- an accepted line names the firm, whose number is not 0
  pub line-firm : (firm_in line ≡ firm) × (0 < firm_in line)
  unfolding other_firm
  line-firm =
      let a = line-accepted firm line e in
      (eqb-true (firm_in line) firm (not-false _ a.own), name-some 1 4 (field line 0) (read-fields line a.well).0 (omega arith))

-- a line that is no longer than a profile may be comes to what it says
pub any-line : (firm : ℕ) (line : List ℕ) → length line ≤ 65_536 → any_line firm line ≡ line_of firm line
unfolding any_line
any-line firm line short = rw (le-ltb 65_536 (length line) short)
