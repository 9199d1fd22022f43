-- What a text is answered beside the other's name: 7 with line 1 if it has this name, else what it is answered by itself. Assumes nothing.
use Prim.Native.Nat.{ℕ, suc, ◌+◌}
use native.Mathlib.Omega.{arith}
use native.Mathlib.Nat.{suc-ne-zero}
use mathlib.Core.Path.{◌≡◌, refl, sym, ap, ◌∙◌, subst}
use mathlib.Core.Logic.{◌⊎◌, inl, inr}
use mathlib.Core.Bool.{Bool, true, false, cond}
use mathlib.Core.List.{List, [], ◌∷◌}
use lib.ListN.{length, get_or}
use lib.Dec.{eqb, leb}
use borrow.Author.Tests.{eq-eqb, ne_eqb, eqb-true, eqb-false, leb-true}
use Rattle.laws.proofs.Tests.{and_l}
use Rattle.measures.specs.Ranges.{◌to◌, is_in}
use Rattle.rules.specs.declared.Rule.{Rule}
use Rattle.machine.specs.State.{Profile}
use Rattle.text.specs.Text.{lines}
use Rattle.text.proofs.Lists.{line-here}
use Rattle.line.specs.Line.{firm_in, type_in, limit_in, time_in, root_in, is_firm_level, call_put, month, malformed, other_firm, out_of_range, level_clash, unit_clash, fault_of, rule_of, line_of}
use Rattle.std.specs.Prelude.{Result, Ok, Err}
use Rattle.profile.specs.Profile.{Outcome, joined, too_many, after_line, read_on, start_of, reading_of, outcome_of, outcome_beside}
use Rattle.profile.specs.Reading.{Refused as NotRead}
use Rattle.profile.proofs.Laws.{accepted-lines, accepted-some, reading-refused}
use Rattle.profile.proofs.Beside.{beside_none, beside-other, beside_same}
use Rattle.firmday.specs.Isolated.{named_in}

faulty-six : (firm : ℕ) (line : List ℕ) → malformed line ≡ true → line_of firm line ≡ Err 6
unfolding line_of fault_of
faulty-six firm line m = rw m

pub seven : (text : List ℕ) → (outcome_of text).refusal ≡ 0 → (other : ℕ) → firm_in (get_or (lines text) 0 []) ≡ other → (other ≡ 0 → ⊥) → (outcome_beside other text).refusal ≡ 7
unfolding outcome_of read_on after_line
seven text ok other e some = go (lines text) refl
  where
    sized : (b : Bool) → is_in (1 to 65_536) (length text) ≡ b
        → (cond b (read_on (start_of (firm_in (get_or (lines text) 0 []))) 0 (lines text)) (record { profile = start_of 0; refusal = 5; line = 0 })).refusal ≡ 0
        → (is_in (1 to 65_536) (length text) ≡ true) × ((read_on (start_of (firm_in (get_or (lines text) 0 []))) 0 (lines text)).refusal ≡ 0)
    sized true h z = (h, z)
    sized false h z = absurd (omega arith)

    both : (is_in (1 to 65_536) (length text) ≡ true) × ((read_on (start_of (firm_in (get_or (lines text) 0 []))) 0 (lines text)).refusal ≡ 0)
    both = sized (is_in (1 to 65_536) (length text)) refl ok

    whole : (first : List ℕ) (more : List (List ℕ)) → lines text ≡ first ∷ more → (b : Bool) → malformed first ≡ b → malformed first ≡ false
    whole first more is false m = m
    whole first more is true m =
        let k : (read_on (start_of (firm_in first)) 0 (first ∷ more)).refusal ≡ 0 = subst (λ (ls : List (List ℕ)). (read_on (start_of (firm_in (get_or ls 0 []))) 0 ls).refusal ≡ 0) is both.1 in
        absurd (suc-ne-zero 5 (rw (faulty-six (firm_in first) first m) at k))

    go : (ls : List (List ℕ)) → lines text ≡ ls → (outcome_beside other text).refusal ≡ 7
    go [] is = absurd (omega (arith, accepted-some text ok, accepted-lines text ok, ap (λ (ls : List (List ℕ)). length ls) is))
    go (first ∷ more) is = (beside_same text other e some both.0 first more is).0 ∙ ap (λ (b : Bool). cond b 6 7) (whole first more is (malformed first) refl)

-- ---- a 7 of line 1 is never a text's own

-- a line that is read after n others is none of them
line_after : (ls : List (List ℕ)) (p : Profile) (n : ℕ) → (read_on p n ls).line ≡ 1 → n ≡ 0
unfolding read_on after_line
line_after [] p n e = absurd (omega (arith, e))
line_after (l ∷ ls) p n e = go (line_of p.firm l) (λ rule. line_after ls (joined p rule) (n + 1)) e
  where
    go : (line : Result Rule ℕ) → ((rule : Rule) → (read_on (joined p rule) (n + 1) ls).line ≡ 1 → n + 1 ≡ 0)
        → (after_line p n line (λ rule. read_on (joined p rule) (n + 1) ls)).line ≡ 1 → n ≡ 0
    go (Err k) on e = omega (arith, e)
    go (Ok rule) on e = more (too_many p rule) e
      where
        more : (b : Bool) → (cond b (record { profile = p; refusal = 11; line = n + 1 }) (read_on (joined p rule) (n + 1) ls)).line ≡ 1 → n ≡ 0
        more true e = omega (arith, e)
        more false e = absurd (omega (arith, on rule e))

-- line 1 is of the firm that it names
own-fault : (line : List ℕ) → fault_of (firm_in line) line ≡ 7 → ⊥
unfolding fault_of other_firm
own-fault line e =
    go (malformed line) (out_of_range (type_in line) (limit_in line) (time_in line)) (level_clash (root_in line) (is_firm_level line))
    (unit_clash (is_firm_level line) (call_put line) (month line)) (rw (eq-eqb (firm_in line) (firm_in line) refl) at e)
  where
    go : (a b c d : Bool) → ◌≡◌ {A = ℕ} (cond a 6 (cond b 8 (cond c 9 (cond d 10 0)))) 7 → ⊥
    go true b c d e = omega (arith, e)
    go false true c d e = omega (arith, e)
    go false false true d e = omega (arith, e)
    go false false false true e = omega (arith, e)
    go false false false false e = omega (arith, e)

first-seven : (first : List ℕ) (more : List (List ℕ)) → (read_on (start_of (firm_in first)) 0 (first ∷ more)).refusal ≡ 7
    → (read_on (start_of (firm_in first)) 0 (first ∷ more)).line ≡ 1 → ⊥
unfolding read_on after_line line_of
first-seven first more = go (eqb (fault_of (firm_in first) first) 0) (too_many (start_of (firm_in first)) (rule_of first))
  where
    p : Profile
    p = start_of (firm_in first)

    next : Outcome
    next = read_on (joined p (rule_of first)) 1 more

    go : (a b : Bool)
        → (after_line p 0 (cond a (Ok (rule_of first)) (Err (fault_of (firm_in first) first))) (λ rule. read_on (joined p rule) 1 more)).refusal ≡ 7
        → (after_line p 0 (cond a (Ok (rule_of first)) (Err (fault_of (firm_in first) first))) (λ rule. read_on (joined p rule) 1 more)).line ≡ 1 → ⊥
    go true b e f = by_count (too_many p (rule_of first)) e f
      where
        by_count : (b : Bool) → (cond b (record { profile = p; refusal = 11; line = 1 }) next).refusal ≡ 7
            → (cond b (record { profile = p; refusal = 11; line = 1 }) next).line ≡ 1 → ⊥
        by_count true e f = omega (arith, e)
        by_count false e f = omega (arith, line_after more (joined p (rule_of first)) 1 f)
    go false b e f = own-fault first e

-- a text that is not too long or empty has a first line
has-line : (text : List ℕ) → is_in (1 to 65_536) (length text) ≡ true → lines text ≡ [] → ⊥
has-line text sized none =
    let long = leb-true 1 (length text) (and_l (leb 1 (length text)) (leb (length text) 65_536) sized) in
    omega (arith, ap (λ (ls : List (List ℕ)). length ls) (sym none ∙ line-here text 0 _ long refl))

-- its size is wrong, or it has a first line and more
data Cut (text : List ℕ) : Type 0 where
  unfit : is_in (1 to 65_536) (length text) ≡ false → Cut text
  cut : is_in (1 to 65_536) (length text) ≡ true → (first : List ℕ) (more : List (List ℕ)) → lines text ≡ first ∷ more → Cut text

cut_up : (text : List ℕ) → Cut text
cut_up text = go (is_in (1 to 65_536) (length text)) refl (lines text) refl
  where
    go : (b : Bool) → is_in (1 to 65_536) (length text) ≡ b → (ls : List (List ℕ)) → lines text ≡ ls → Cut text
    go false e ls is = unfit e
    go true e [] is = absurd (has-line text e is)
    go true e (first ∷ more) is = cut e first more is

pub own-seven : (text : List ℕ) → reading_of (outcome_of text) ≡ NotRead 7 1 → ⊥
unfolding outcome_of
own-seven text h = let r = reading-refused (outcome_of text) 7 1 h in go (cut_up text) (sym r.1) (sym r.2)
  where
    go : Cut text → (outcome_of text).refusal ≡ 7 → (outcome_of text).line ≡ 1 → ⊥
    go (unfit size) e f = let k : ◌≡◌ {A = ℕ} 5 7 = rw size at e in omega (arith, k)
    go (cut size first more is) e f = first-seven first more (rw (size, is) at e) (rw (size, is) at f)

-- ---- beside two names

-- the answer beside a name that is the text's, where that of another is not
pub record Named (text : List ℕ) (a b : ℕ) : Type 0 where
  pub told : reading_of (outcome_beside a text) ≡ NotRead 7 1
  pub same : named_in text ≡ a
  pub differs : named_in text ≡ b → ⊥

-- the same answer beside two names
abbrev pub Alike : List ℕ → ℕ → ℕ → Type 0
Alike text a b = reading_of (outcome_beside a text) ≡ reading_of (outcome_beside b text)

refused-is : (o : Outcome) (n line : ℕ) → o.refusal ≡ suc n → o.line ≡ line → reading_of o ≡ NotRead (suc n) line
unfolding reading_of
refused-is o n line e f = rw (e, f, ne_eqb (suc n) 0 (suc-ne-zero n))

unfit-is : (text : List ℕ) (other : ℕ) → is_in (1 to 65_536) (length text) ≡ false → outcome_beside other text ≡ outcome_of text
unfolding outcome_beside outcome_of
unfit-is text other size = rw size

malformed-first : (text : List ℕ) → is_in (1 to 65_536) (length text) ≡ true → (first : List ℕ) (more : List (List ℕ)) → lines text ≡ first ∷ more
    → malformed first ≡ true → ((outcome_of text).refusal ≡ 6) × ((outcome_of text).line ≡ 1)
unfolding outcome_of read_on after_line
malformed-first text size first more is m = rw (size, is, faulty-six (firm_in first) first m) (refl, refl)

module _ (text : List ℕ) (a b : ℕ) (same : named_in text ≡ a) (differs : named_in text ≡ b → ⊥) where
  by_itself : outcome_beside b text ≡ outcome_of text
  by_itself = beside-other text b differs

  some-name : (a ≡ 0 → ⊥) → Cut text → Alike text a b ⊎ Named text a b
  some-name some (unfit size) = inl (ap reading_of (unfit-is text a size ∙ sym by_itself))
  some-name some (cut size first more is) = by_form (malformed first) refl
    where
      beside : ((outcome_beside a text).refusal ≡ cond (malformed first) 6 7) × ((outcome_beside a text).line ≡ 1)
      beside = beside_same text a same some size first more is

      number : (m : Bool) → malformed first ≡ m → (outcome_beside a text).refusal ≡ cond m 6 7
      number m e = beside.0 ∙ ap (λ (c : Bool). cond c 6 7) e

      by_form : (m : Bool) → malformed first ≡ m → Alike text a b ⊎ Named text a b
      by_form true m =
          let own = malformed-first text size first more is m in
          inl
          (refused-is (outcome_beside a text) 5 1 (number true m) beside.1
          ∙ sym (ap reading_of by_itself ∙ refused-is (outcome_of text) 5 1 own.0 own.1))
      by_form false m =
          inr (record { told = refused-is (outcome_beside a text) 6 1 (number false m) beside.1; same = same; differs = differs })

  one-named : Alike text a b ⊎ Named text a b
  one-named = by_zero (eqb a 0) refl
    where
      by_zero : (c : Bool) → eqb a 0 ≡ c → Alike text a b ⊎ Named text a b
      by_zero true e = inl (ap reading_of (ap (λ (k : ℕ). outcome_beside k text) (eqb-true _ _ e) ∙ (beside_none text ∙ sym by_itself)))
      by_zero false e = some-name (eqb-false _ _ e) (cut_up text)

-- BESIDE TWO NAMES A TEXT IS ANSWERED THE SAME, unless one of them alone is the name in its line 1, and this one is told 7 with line 1
pub by_name : (text : List ℕ) (a b : ℕ) → Alike text a b ⊎ (Named text a b ⊎ Named text b a)
by_name text a b = go (eqb (named_in text) a) (eqb (named_in text) b) refl refl
  where
    first : Alike text a b ⊎ Named text a b → Alike text a b ⊎ (Named text a b ⊎ Named text b a)
    first (inl e) = inl e
    first (inr n) = inr (inl n)

    second : Alike text b a ⊎ Named text b a → Alike text a b ⊎ (Named text a b ⊎ Named text b a)
    second (inl e) = inl (sym e)
    second (inr n) = inr (inr n)

    go : (x y : Bool) → eqb (named_in text) a ≡ x → eqb (named_in text) b ≡ y → Alike text a b ⊎ (Named text a b ⊎ Named text b a)
    go true true e f = inl (ap (λ (k : ℕ). reading_of (outcome_beside k text)) (sym (eqb-true _ _ e) ∙ eqb-true _ _ f))
    go true false e f = first (one-named text a b (eqb-true _ _ e) (eqb-false _ _ f))
    go false true e f = second (one-named text b a (eqb-true _ _ f) (eqb-false _ _ e))
    go false false e f = inl (ap reading_of (beside-other text a (eqb-false _ _ e) ∙ sym (beside-other text b (eqb-false _ _ f))))
