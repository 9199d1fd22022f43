-- From the parts of a line to the whole: its places, its limit, and what it comes to by what its two halves say. Assumes nothing.
use Prim.Native.Nat.{ℕ, zero, suc, ◌+◌, ◌≤◌, ◌<◌}
use mathlib.Core.Path.{◌≡◌, refl, sym, ap, subst, ◌∙◌}
use mathlib.Core.Logic.{◌⊎◌, inl, inr}
use mathlib.Core.Bool.{Bool, true, false, cond, ◌&&◌, ◌||◌, not, beq, not-not, false≢true}
use mathlib.Core.List.{List, [], ◌∷◌}
use lib.ListN.{length, get_or, drop}
use lib.Dec.{eqb, leb, ltb}
use borrow.Author.Tests.{ltb-true, leb-true, ne_eqb, le-leb, lt-leb, lt-ltb, le-ltb}
use native.Mathlib.Decide.{dec_lt}
use native.Mathlib.Omega.{arith}
use Rattle.std.proofs.lemmas.List.{get_or_past}
use Rattle.laws.proofs.Tests.{tests}
use Rattle.measures.specs.Ranges.{Range, In, is_in}
use Rattle.measures.specs.Checked.{Taken, Beyond}
use Rattle.rules.specs.declared.Limit.{Limit}
use Rattle.rules.specs.declared.Rule.{Rule}
use Rattle.laws.specs.Lists.{same}
use Rattle.laws.proofs.Lists.{same-eq}
use lib.Seq.{drop-drop}
use Rattle.text.specs.Text.{fields, field, all, made, is_digit, numeral, field_number}
use Rattle.text.specs.Inner.Taking.{read_as}
use Rattle.text.proofs.Lists.{field-drop}
use Rattle.std.specs.Prelude.{Option, Some, None, is_some, Result, Ok, Err}
use Rattle.line.specs.Line.{firm_field, type_field, root_field, limit_field, time_field, limits_of, limit_of, letter_of, kind_of, is_absolute, type_in, limit_in, time_in, root_in, is_firm_level, call_put, month, malformed, other_firm, out_of_range, level_clash, unit_clash, fault_of, scope_of, rule_of, line_of}
use Rattle.line.specs.Inner.Parts.{limit_read, chosen, side_number, month_number, Says}
use Rattle.line.specs.declared.LimitType.{LimitType}
use Rattle.line.specs.declared.fields.Said.{Said}

-- a field that is told by its bytes ends behind them
pub told-end : (f word : List ℕ) (at : ℕ) {n : ℕ} → same f word ≡ true → n ≡ length word + 1 → at + n ≡ at + length f + 1
told-end f word at e n = omega (arith, ap length (same-eq f word e))

-- an empty field is told by its length too, and one letter alone by its number
pub empty-test : (f : List ℕ) → eqb (length f) 0 ≡ same f []
unfolding same
empty-test [] = refl
empty-test (x ∷ xs) = ne_eqb (suc (length xs)) 0 (λ e. omega arith)

pub letter-one : (a b : ℕ) (f : List ℕ) → eqb (letter_of a b f) 1 ≡ same f (a ∷ [])
unfolding same letter_of
letter-one a b [] = refl
letter-one a b (x ∷ xs) = go (same (x ∷ xs) (a ∷ [])) (same (x ∷ xs) (b ∷ []))
  where
    go : (one two : Bool) → eqb (cond one 1 (cond two 2 3)) 1 ≡ one
    go true two = refl
    go false true = refl
    go false false = refl

-- a number that passes a range's test lies in the range
pub test_in : (r : Range) (n : ℕ) → is_in r n ≡ true → In r n
test_in r n e = (search tests, search tests)

-- a limit by what the constructor of its measure answers, and the other way round
module _ (type : LimitType) (n : ℕ) where
  pub limit_taken : {m : ℕ} → Taken (limits_of type) n m → Some (limit_of type m) ≡ limit_read type n
  unfolding limit_read
  limit_taken t = rw (t.0, le-leb _ _ t.1.0, le-leb _ _ t.1.1)

  pub limit_beyond : Beyond (limits_of type) n → None ≡ limit_read type n
  unfolding limit_read
  limit_beyond b = go (is_in (limits_of type) n) refl
    where
      go : (t : Bool) → is_in (limits_of type) n ≡ t → None ≡ cond t (Some (limit_of type n)) None
      go true e = absurd (b (test_in (limits_of type) n e))
      go false e = refl

  pub limit_is : {l : Limit} → limit_read type n ≡ Some l → (is_in (limits_of type) n ≡ true) × (limit_of type n ≡ l)
  unfolding limit_read
  limit_is {l} = go (is_in (limits_of type) n)
    where
      go : (t : Bool) → cond t (Some (limit_of type n)) None ≡ Some l → (t ≡ true) × (limit_of type n ≡ l)
      go true e = (refl, cc)
      go false e = let z : ◌≡◌ {A = ℕ} 0 1 = cc in absurd (omega arith)

  pub limit-out : limit_read type n ≡ None → is_in (limits_of type) n ≡ false
  unfolding limit_read
  limit-out = go (is_in (limits_of type) n)
    where
      go : (t : Bool) → cond t (Some (limit_of type n)) None ≡ None → t ≡ false
      go true e = let z : ◌≡◌ {A = ℕ} 0 1 = cc in absurd (omega arith)
      go false e = refl

-- the first of five faults that applies, or the rule
abbrev pub first_of : Bool → Bool → Bool → Bool → Bool → Rule → Result Rule ℕ
first_of six seven eight nine ten rule =
    cond six (Err 6) (cond seven (Err 7) (cond eight (Err 8) (cond nine (Err 9) (cond ten (Err 10) (Ok rule)))))

-- faults 8, 9 and 10 of a line
abbrev pub range_fault : List ℕ → Bool
range_fault line = out_of_range (type_in line) (limit_in line) (time_in line)

abbrev pub level_fault : List ℕ → Bool
level_fault line = level_clash (root_in line) (is_firm_level line)

abbrev pub unit_fault : List ℕ → Bool
unit_fault line = unit_clash (is_firm_level line) (call_put line) (month line)

-- the lowest number that applies is the first fault, and where it is 0 there is none
pub line_first : (firm : ℕ) (line : List ℕ)
    → line_of firm line ≡ first_of (malformed line) (other_firm firm line) (range_fault line) (level_fault line) (unit_fault line) (rule_of line)
unfolding line_of fault_of
line_first firm line = go (malformed line) (other_firm firm line) (range_fault line) (level_fault line) (unit_fault line)
  where
    go : (a b c d e : Bool)
        → let n : ℕ = cond a 6 (cond b 7 (cond c 8 (cond d 9 (cond e 10 0)))) in
        cond (eqb n 0) (Ok (rule_of line)) (Err n) ≡ first_of a b c d e (rule_of line)
    go true b c d e = refl
    go false true c d e = refl
    go false false true d e = refl
    go false false false true e = refl
    go false false false false true = refl
    go false false false false false = refl

-- what a line comes to by what its fields say
unfoldable pub come_to : ℕ → Said → Result Rule ℕ
come_to firm said = first_of
    false
    (not (eqb said.firm firm))
    (out_of_range said.named said.limit said.time)
    (level_clash said.root said.firmwide)
    (unit_clash said.firmwide (side_number said.call) (month_number said.month))
    (record {
      scope = scope_of said.root said.firmwide (side_number said.call) (month_number said.month);
      kind = kind_of said.named said.time;
      limit = limit_of said.named said.limit;
    })

pub line-said : (firm : ℕ) {line : List ℕ} {said : Said} → Says line said → line_of firm line ≡ come_to firm said
unfolding other_firm rule_of come_to
line-said firm {line} s = rw (line_first firm line, s.well, s.firm, s.named, s.root, s.limit, s.time, s.firmwide, s.call, s.month)

pub line-malformed : (firm : ℕ) (line : List ℕ) → malformed line ≡ true → line_of firm line ≡ Err 6
line-malformed firm line e = rw (line_first firm line, e)

pub both-set : (firmwide : Bool) (call month : ℕ) → unit_clash firmwide call month ≡ false → 0 < call → 0 < month
unfolding unit_clash
both-set firmwide call month e h = go (ltb 0 month) refl (rw (lt-ltb 0 call h) at e)
  where
    go : (t : Bool) → ltb 0 month ≡ t → (not (beq true t) || (firmwide && true)) ≡ false → 0 < month
    go true s e = ltb-true 0 month s
    go false s e = absurd (false≢true (sym e))

-- a line is well formed by nine tests of its fields
pub record WellFormed (line : List ℕ) : Type 0 where
  pub least : leb 4 (length (fields line)) ≡ true
  pub most : leb (length (fields line)) 8 ≡ true
  pub firm : is_some (firm_field line) ≡ true
  pub named : is_some (type_field line) ≡ true
  pub root : is_some (root_field line) ≡ true
  pub limit : is_some (limit_field line) ≡ true
  pub time : is_some (time_field line) ≡ true
  pub call : leb (call_put line) 2 ≡ true
  pub month : leb (month line) 2 ≡ true

pub well-formed : (line : List ℕ) → malformed line ≡ false → WellFormed line
unfolding malformed
well-formed line e =
    let w = rw not-not at (ap not e) in
    record {
      least = search tests depth 12;
      most = search tests depth 12;
      firm = search tests depth 12;
      named = search tests depth 12;
      root = search tests depth 12;
      limit = search tests depth 12;
      time = search tests depth 12;
      call = search tests depth 12;
      month = search tests depth 12;
    }

pub is-well : (line : List ℕ) → WellFormed line → malformed line ≡ false
unfolding malformed
is-well line w = rw (w.least, w.most, w.firm, w.named, w.root, w.limit, w.time, w.call, w.month)

pub faulty : (line : List ℕ) → (WellFormed line → ⊥) → malformed line ≡ true
faulty line never = go (malformed line) refl
  where
    go : (t : Bool) → malformed line ≡ t → t ≡ true
    go true e = refl
    go false e = absurd (never (well-formed line e))

-- what is read of a field that is not there is no number
pub there-four : (line : List ℕ) → is_some (limit_field line) ≡ true → leb 4 (length (fields line)) ≡ true
unfolding field_number made
there-four line e = go (dec_lt 3 (length (fields line)))
  where
    go : Dec (3 < length (fields line)) → leb 4 (length (fields line)) ≡ true
    go (yes h) = le-leb 4 (length (fields line)) (omega arith)
    go (no h) =
        let none : field line 3 ≡ [] = get_or_past (fields line) 3 [] (omega arith) in
        absurd (false≢true (rw none at e))

-- a field that reads as nothing is no field that reads as something
pub none-some : {A : Type 0} {o : Option A} → None ≡ o → is_some o ≡ true → ⊥
none-some e h = false≢true (ap is_some e ∙ h)

-- the fields that are left begin with field k, and behind it are those from the next on
module _ (line : List ℕ) (k : ℕ) {left : List (List ℕ)} (at : left ≡ drop k (fields line)) where
  pub next-is : get_or left 0 [] ≡ field line k
  next-is = ap (λ (l : List (List ℕ)). get_or l 0 []) at ∙ sym (field-drop line k)

  pub next-left : {more : List (List ℕ)} → more ≡ drop 1 left → more ≡ drop (k + 1) (fields line)
  next-left e = e ∙ rw (at, drop-drop)

-- a number of at most 12 digits where none is 0 is a time
pub time_digits : (f : List ℕ) → read_as is_digit 0 12 10 48 f ≡ cond (eqb (length f) 0) (Some 0) (field_number f)
unfolding read_as made field_number numeral all
time_digits [] = refl
time_digits (x ∷ xs) = rw (ne_eqb (suc (length xs)) 0 (λ e. omega arith), le-leb 0 (suc (length xs)) (omega arith), le-leb 1 (suc (length xs)) (omega arith))

-- a letter that may not stand there has no number up to 2, and one that may has its choice's number
module _ {A : Type 0} (one two : A) where
  pub chosen-none : (n : ℕ) → None ≡ chosen one two n → leb n 2 ≡ true → ⊥
  chosen-none zero e h = let w : ◌≡◌ {A = ℕ} 0 1 = cc in omega arith
  chosen-none (suc zero) e h = let w : ◌≡◌ {A = ℕ} 0 1 = cc in omega arith
  chosen-none (suc (suc zero)) e h = let w : ◌≡◌ {A = ℕ} 0 1 = cc in omega arith
  chosen-none (suc (suc (suc n))) e h = let l = leb-true (suc (suc (suc n))) 2 h in omega arith

  pub chosen-some : (number : Option A → ℕ) → number None ≡ 0 → number (Some one) ≡ 1 → number (Some two) ≡ 2
      → (n : ℕ) {a : Option A} → Some a ≡ chosen one two n → (number a ≡ n) × (leb n 2 ≡ true)
  chosen-some number z o t zero {a} e = let is : a ≡ None = cc in (ap number is ∙ z, refl)
  chosen-some number z o t (suc zero) {a} e = let is : a ≡ Some one = cc in (ap number is ∙ o, refl)
  chosen-some number z o t (suc (suc zero)) {a} e = let is : a ≡ Some two = cc in (ap number is ∙ t, refl)
  chosen-some number z o t (suc (suc (suc n))) {a} e =
      let three = suc (suc (suc n)) in
      let away : chosen one two three ≡ None = rw (ne_eqb three 0 (λ z. omega arith), ne_eqb three 1 (λ z. omega arith), ne_eqb three 2 (λ z. omega arith)) in
      absurd (false≢true (ap is_some (sym (e ∙ away))))

-- a number of 1 to 12 digits
pub digits-number : (f : List ℕ) → read_as is_digit 1 12 10 48 f ≡ field_number f
unfolding read_as field_number
digits-number f = refl

-- what holds of both of two types holds of a type that is one of them
pub either : {A : Type 0} {x one two : A} → (x ≡ one) ⊎ (x ≡ two) → (P : A → Type 0) → P one → P two → P x
either (inl e) P p q = subst P (sym e) p
either (inr e) P p q = subst P (sym e) q
