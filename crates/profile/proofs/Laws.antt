-- What holds of every text that is read, and of an accepted one. Assumes nothing.
use Prim.Native.Nat.{ℕ, suc, ◌+◌, ◌≤◌, ◌<◌}
use mathlib.Core.Path.{◌≡◌, refl, sym, ap, ◌∙◌}
use mathlib.Core.Bool.{Bool, true, false, cond, false≢true}
use mathlib.Core.List.{List, [], ◌∷◌, ◌++◌}
use lib.ListN.{length, get_or}
use lib.Dec.{eqb, leb}
use borrow.Author.Tests.{eqb-true, eqb-false, leb-true}
use native.Mathlib.Omega.{arith}
use Rattle.laws.proofs.Tests.{and_l, tests}
use Rattle.measures.specs.Ranges.{◌to◌, is_in}
use Rattle.rules.specs.declared.Scope.{Scope}
use Rattle.rules.specs.declared.Scope.TheVariants.{EveryFill, WholeRoot, OneUnit}
use Rattle.rules.specs.declared.Rule.{Rule}
use Rattle.text.specs.Text.{lines, index_of}
use Rattle.text.proofs.Lists.{line-here}
use Rattle.line.specs.Line.{firm_in, line_of}
use Rattle.std.specs.Prelude.{Result, Ok, Err}
use Rattle.profile.specs.Profile.{joined, too_many, Outcome, after_line, read_on, start_of, outcome_of, reading_of}
use Rattle.machine.specs.State.{Profile}
use Rattle.profile.specs.Reading.{Accepted, Refused}
use Rattle.admission.specs.Admission.{seen_after, is_next, are_in_order, Bounded}
use Rattle.admission.proofs.Levels.{bounded-none, ordered-bounded}
use Rattle.profile.specs.Inner.Lawful.{IsNameNumber, Lawful}
use Rattle.profile.proofs.Joined.{start-lawful, joined_length, lawful-joined}
use Rattle.line.proofs.Laws.{line_refused}
use Rattle.profile.proofs.Said.{said, firm-named}

-- how a reading of so many lines after n lines ends: no fault, or a fault in one of the lines
data Ends (p : Profile) (n : ℕ) (ls : List (List ℕ)) (o : Outcome) : Type 0 where
  through : o.refusal ≡ 0 → o.line ≡ 0 → length o.profile.rules ≡ length p.rules + length ls → Ends p n ls o
  stopped : 6 ≤ o.refusal → o.refusal ≤ 11 → n < o.line → o.line ≤ n + length ls → Ends p n ls o

record Comes (p : Profile) (n : ℕ) (ls : List (List ℕ)) (o : Outcome) : Type 0 where
  lawful : Lawful p → Lawful o.profile
  firm : o.profile.firm ≡ p.firm
  ends : Ends p n ls o

ends_next : (p : Profile) (rule : Rule) {n : ℕ} (l : List ℕ) {ls : List (List ℕ)} {o : Outcome} → Ends (joined p rule) (n + 1) ls o → Ends p n (l ∷ ls) o
ends_next p rule l (through a b e) = through a b (omega (arith, joined_length p rule))
ends_next p rule l (stopped a b d e) = stopped a b (omega arith) (omega arith)

comes : (p : Profile) (n : ℕ) (ls : List (List ℕ)) → Comes p n ls (read_on p n ls)
unfolding read_on after_line joined
comes p n [] = record { lawful = λ law. law; firm = refl; ends = through refl refl (omega arith) }
comes p n (l ∷ ls) = go (line_of p.firm l) refl (λ rule. comes (joined p rule) (n + 1) ls)
  where
    rest : Rule → Outcome
    rest rule = read_on (joined p rule) (n + 1) ls

    stop : (k : ℕ) → 6 ≤ k → k ≤ 11 → Comes p n (l ∷ ls) (record { profile = p; refusal = k; line = n + 1 })
    stop k least most = record { lawful = λ law. law; firm = refl; ends = stopped least most (omega arith) (omega arith) }

    many : (rule : Rule) → line_of p.firm l ≡ Ok rule → Comes (joined p rule) (n + 1) ls (rest rule) → (t : Bool) → too_many p rule ≡ t
        → Comes p n (l ∷ ls) (cond t (record { profile = p; refusal = 11; line = n + 1 }) (rest rule))
    many rule e more true h = stop 11 (omega arith) (omega arith)
    many rule e more false h = record {
      lawful = λ law. more.lawful (lawful-joined p rule (said p.firm l e) law h);
      firm = more.firm;
      ends = ends_next p rule l more.ends;
    }

    go : (line : Result Rule ℕ) → line_of p.firm l ≡ line → ((rule : Rule) → Comes (joined p rule) (n + 1) ls (rest rule))
        → Comes p n (l ∷ ls) (after_line p n line rest)
    go (Err k) e more = let b = line_refused p.firm l e in stop k b.0 (omega arith)
    go (Ok rule) e more = many rule e (more rule) (too_many p rule) refl

-- a text of 1 to 65,536 bytes is read by its lines, and any other is refused with 5
module _ (text : List ℕ) where
  abbrev begin : Profile
  begin = start_of (firm_in (get_or (lines text) 0 []))

  sized : is_in (1 to 65_536) (length text) ≡ true → outcome_of text ≡ read_on begin 0 (lines text)
  unfolding outcome_of
  sized e = rw e

  unsized : is_in (1 to 65_536) (length text) ≡ false → outcome_of text ≡ record { profile = start_of 0; refusal = 5; line = 0 }
  unfolding outcome_of
  unsized e = rw e

-- whatever the text, what was read of it is lawful
pub lawful : (text : List ℕ) → Lawful (outcome_of text).profile
lawful text = go (is_in (1 to 65_536) (length text)) refl
  where
    go : (t : Bool) → is_in (1 to 65_536) (length text) ≡ t → Lawful (outcome_of text).profile
    go true e = rw (sized text e) ((comes (begin text) 0 (lines text)).lawful (start-lawful _))
    go false e = rw (unsized text e) (start-lawful 0)

-- the numbers of an answer: 0 and no line; 5 and no line; or 6 to 11 with one of the lines, counted from 1
pub data Answer (lines refusal line : ℕ) : Type 0 where
  none : refusal ≡ 0 → line ≡ 0 → Answer lines refusal line
  size : refusal ≡ 5 → line ≡ 0 → Answer lines refusal line
  fault : 6 ≤ refusal → refusal ≤ 11 → 1 ≤ line → line ≤ lines → Answer lines refusal line

pub answered : (text : List ℕ) → Answer (length (lines text)) (outcome_of text).refusal (outcome_of text).line
answered text = go (is_in (1 to 65_536) (length text)) refl
  where
    ended : {o : Outcome} → Ends (begin text) 0 (lines text) o → Answer (length (lines text)) o.refusal o.line
    ended (through a b e) = none a b
    ended (stopped a b d e) = fault a b (omega arith) (omega arith)

    go : (t : Bool) → is_in (1 to 65_536) (length text) ≡ t → Answer (length (lines text)) (outcome_of text).refusal (outcome_of text).line
    go true e = rw (sized text e) (ended (comes (begin text) 0 (lines text)).ends)
    go false e = rw (unsized text e) (size refl refl)

-- the reading of an outcome names the firm and the numbers of rules and roots, or the refusal and its line
pub reading-accepted : (o : Outcome) (firm rules roots : ℕ) → reading_of o ≡ Accepted firm rules roots
    → (o.refusal ≡ 0) × (firm ≡ o.profile.firm) × (rules ≡ length o.profile.rules) × (roots ≡ length o.profile.roots)
unfolding reading_of
reading-accepted o firm rules roots h = go (eqb o.refusal 0) refl h
  where
    go : (t : Bool) → eqb o.refusal 0 ≡ t
        → cond t (Accepted o.profile.firm (length o.profile.rules) (length o.profile.roots)) (Refused o.refusal o.line) ≡ Accepted firm rules roots
        → (o.refusal ≡ 0) × (firm ≡ o.profile.firm) × (rules ≡ length o.profile.rules) × (roots ≡ length o.profile.roots)
    go true e k = (eqb-true o.refusal 0 e, (cc), (cc), (cc))
    go false e k = let z : ◌≡◌ {A = ℕ} 0 1 = cc in absurd (omega arith)

pub reading-refused : (o : Outcome) (number line : ℕ) → reading_of o ≡ Refused number line → (o.refusal ≡ 0 → ⊥) × (number ≡ o.refusal) × (line ≡ o.line)
unfolding reading_of
reading-refused o number line h = go (eqb o.refusal 0) refl h
  where
    go : (t : Bool) → eqb o.refusal 0 ≡ t
        → cond t (Accepted o.profile.firm (length o.profile.rules) (length o.profile.roots)) (Refused o.refusal o.line) ≡ Refused number line
        → (o.refusal ≡ 0 → ⊥) × (number ≡ o.refusal) × (line ≡ o.line)
    go true e k = let z : ◌≡◌ {A = ℕ} 0 1 = cc in absurd (omega arith)
    go false e k = (eqb-false o.refusal 0 e, (cc), (cc))

-- a reading without a refusal began with a line of the firm
pub first-named : (p : Profile) (n : ℕ) (ls : List (List ℕ)) → 0 < length ls → (read_on p n ls).refusal ≡ 0 → IsNameNumber 1 4 p.firm
unfolding read_on after_line
first-named p n [] h e = absurd (omega arith)
first-named p n (l ∷ ls) h e = go (line_of p.firm l) refl e
  where
    go : (line : Result Rule ℕ) → line_of p.firm l ≡ line → (after_line p n line (λ rule. read_on (joined p rule) (n + 1) ls)).refusal ≡ 0 → IsNameNumber 1 4 p.firm
    go (Err k) q z = absurd (omega (arith, line_refused p.firm l q))
    go (Ok rule) q z = firm-named p.firm l q

-- an accepted text
module _ (text : List ℕ) (ok : (outcome_of text).refusal ≡ 0) where
  accepted-size : is_in (1 to 65_536) (length text) ≡ true
  accepted-size = go (is_in (1 to 65_536) (length text)) refl
    where
      go : (t : Bool) → is_in (1 to 65_536) (length text) ≡ t → is_in (1 to 65_536) (length text) ≡ true
      go true e = e
      go false e = absurd (omega (arith, ap (λ (o : Outcome). o.refusal) (unsized text e)))

  some-line : 0 < length (lines text)
  some-line =
      let long = leb-true 1 (length text) (and_l (leb 1 (length text)) (leb (length text) 65_536) accepted-size) in
      rw (line-here text 0 _ long refl) (omega arith)

  -- its rules are as many as its lines, so there is one
  pub accepted-lines : length (outcome_of text).profile.rules ≡ length (lines text)
  accepted-lines = rw (sized text accepted-size) (ended (comes (begin text) 0 (lines text)).ends (rw (sized text accepted-size) at ok))
    where
      ended : {o : Outcome} → Ends (begin text) 0 (lines text) o → o.refusal ≡ 0 → length o.profile.rules ≡ length (lines text)
      ended (through a b e) z = omega arith
      ended (stopped a b d e) z = absurd (omega arith)

  pub accepted-some : 0 < length (outcome_of text).profile.rules
  accepted-some = rw accepted-lines some-line

  -- its firm is that of its first line, a name of 1 to 4 capitals or digits
  pub accepted-firm : (outcome_of text).profile.firm ≡ firm_in (get_or (lines text) 0 [])
  accepted-firm = rw (sized text accepted-size) (comes (begin text) 0 (lines text)).firm

  pub accepted-named : IsNameNumber 1 4 (outcome_of text).profile.firm
  accepted-named = rw accepted-firm (first-named (begin text) 0 (lines text) some-line (rw (sized text accepted-size) at ok))

-- a scope of a root
unfoldable pub is_of : ℕ → Scope → Bool
is_of root EveryFill = false
is_of root (WholeRoot r) = eqb r root
is_of root (OneUnit r unit) = eqb r root

-- how many rules stand before the first rule of a root
unfoldable pub first_of : ℕ → List Rule → ℕ
first_of root [] = 0
first_of root (rule ∷ rules) = cond (is_of root rule.scope) 0 (suc (first_of root rules))

reached : (seen root : ℕ) (s : Scope) → is_next s seen ≡ true → is_of root s ≡ true → root ≤ seen
unfolding is_next is_of
reached seen root EveryFill h e = absurd (false≢true e)
reached seen root (WholeRoot r) h e = omega (arith, leb-true r seen h, eqb-true r root e)
reached seen root (OneUnit r u) h e = omega (arith, leb-true r seen h, eqb-true r root e)

passed : (seen root : ℕ) (s : Scope) → is_next s seen ≡ true → is_of root s ≡ false → seen ≤ root → seen_after s seen ≤ root
unfolding is_next is_of seen_after
passed seen root EveryFill h e l = l
passed seen root (WholeRoot r) h e l = let k = leb-true r seen h in let d = eqb-false r root e in omega arith
passed seen root (OneUnit r u) h e l = let k = leb-true r seen h in let d = eqb-false r root e in omega arith

-- every root that rules in order come to know has a rule, and the first rule of a root stands before that of a later one
ruled : (n : ℕ) (before : List Rule) (seen : ℕ) (rules : List Rule) (root : ℕ) → are_in_order n before seen rules ≡ true → seen ≤ root → root < n
    → first_of root rules < length rules
unfolding are_in_order first_of
ruled n before seen [] root h l k = absurd (omega (arith, eqb-true seen n h))
ruled n before seen (rule ∷ rules) root h l k =
    go (is_of root rule.scope) refl (search tests) (λ m. ruled n (before ++ (rule ∷ [])) (seen_after rule.scope seen) rules root (search tests) m k)
  where
    go : (t : Bool) → is_of root rule.scope ≡ t → is_next rule.scope seen ≡ true
        → (seen_after rule.scope seen ≤ root → first_of root rules < length rules) → cond t 0 (suc (first_of root rules)) < suc (length rules)
    go true e next more = omega arith
    go false e next more = omega (arith, more (passed seen root rule.scope next e l))

earlier : (n : ℕ) (before : List Rule) (seen : ℕ) (rules : List Rule) (first root : ℕ) → are_in_order n before seen rules ≡ true → seen ≤ first → first < root
    → root < n → first_of first rules < first_of root rules
unfolding are_in_order first_of
earlier n before seen [] first root h l b k = absurd (omega (arith, eqb-true seen n h))
earlier n before seen (rule ∷ rules) first root h l b k =
    go (is_of first rule.scope) (is_of root rule.scope) refl refl (search tests)
    (λ m. earlier n (before ++ (rule ∷ [])) (seen_after rule.scope seen) rules first root (search tests) m b k)
  where
    go : (s t : Bool) → is_of first rule.scope ≡ s → is_of root rule.scope ≡ t → is_next rule.scope seen ≡ true
        → (seen_after rule.scope seen ≤ first → first_of first rules < first_of root rules)
        → cond s 0 (suc (first_of first rules)) < cond t 0 (suc (first_of root rules))
    go s true d e next more = absurd (omega (arith, reached seen root rule.scope next e))
    go true false d e next more = omega arith
    go false false d e next more = omega (arith, more (passed seen first rule.scope next d l))

-- a lawful profile: none of its rules is one too many at its level, each root has a rule, roots are numbered in order of first appearance, and no two
-- have one name
module _ {p : Profile} (law : Lawful p) where
  pub levels-most : Bounded p.rules
  levels-most = ordered-bounded (length p.roots) [] 0 p.rules law.in_order bounded-none

  pub root-ruled : (root : ℕ) → root < length p.roots → first_of root p.rules < length p.rules
  root-ruled root h = ruled (length p.roots) [] 0 p.rules root law.in_order (omega arith) h

  pub root-earlier : (before root : ℕ) → before < root → root < length p.roots → first_of before p.rules < first_of root p.rules
  root-earlier before root b h = earlier (length p.roots) [] 0 p.rules before root law.in_order (omega arith) b h

  pub root-differs : (r s : ℕ) → r < length p.roots → s < length p.roots → get_or p.roots r 0 ≡ get_or p.roots s 0 → r ≡ s
  root-differs r s h k e = sym (law.each-place r h) ∙ (ap (λ (name : ℕ). index_of name p.roots) e ∙ law.each-place s k)
