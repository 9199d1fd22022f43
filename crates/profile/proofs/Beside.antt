-- What a text gives beside a firm that has a name already. Assumes nothing.
use Prim.Native.Nat.{ℕ}
use native.Mathlib.Omega.{arith}
use mathlib.Core.Path.{◌≡◌, refl, sym, ap, ◌∙◌}
use mathlib.Core.Bool.{Bool, true, false, not, cond, false≢true}
use mathlib.Core.List.{List, [], ◌∷◌}
use lib.ListN.{length, get_or}
use lib.Dec.{eqb, leb}
use borrow.Author.Tests.{eq-eqb, ne_eqb, eqb-true, leb-true}
use Rattle.laws.proofs.Tests.{and_l}
use Rattle.measures.specs.Ranges.{◌to◌, is_in}
use Rattle.text.specs.Text.{lines}
use Rattle.line.specs.Line.{firm_in, type_in, limit_in, time_in, root_in, is_firm_level, call_put, month, malformed, other_firm, out_of_range, level_clash, unit_clash, fault_of, rule_of, line_of}
use Rattle.std.specs.Prelude.{Ok, Err}
use Rattle.text.proofs.Lists.{line-here}
use Rattle.text.proofs.Numerals.{name-zero}
use Rattle.text.specs.Text.{is_name, made}
use Rattle.profile.specs.Profile.{Outcome, after_line, read_on, start_of, outcome_of, scan_of, firm_beside, outcome_beside, scan_beside}
use Rattle.profile.specs.Inner.Lawful.{IsNameNumber}
use Rattle.profile.proofs.Laws.{first-named, accepted-firm}

-- the faults after 7
abbrev rest : List ℕ → ℕ
rest line =
    cond (out_of_range (type_in line) (limit_in line) (time_in line)) 8
    (cond (level_clash (root_in line) (is_firm_level line)) 9 (cond (unit_clash (is_firm_level line) (call_put line) (month line)) 10 0))

-- a line of a firm, read for none, has 6 or 7
other-line : (line : List ℕ) → (firm_in line ≡ 0 → ⊥) → line_of 0 line ≡ Err (cond (malformed line) 6 7)
unfolding line_of fault_of other_firm
other-line line none = go (malformed line)
  where
    differs : eqb (firm_in line) 0 ≡ false
    differs = ne_eqb (firm_in line) 0 none

    go : (b : Bool) → cond (eqb (cond b 6 (cond (not (eqb (firm_in line) 0)) 7 (rest line))) 0) (Ok (rule_of line)) (Err (cond b 6 (cond (not (eqb (firm_in line) 0)) 7 (rest line))))
        ≡ Err (cond b 6 7)
    go true = refl
    go false = rw differs

module _ (text : List ℕ) where
  abbrev named : ℕ
  named = firm_in (get_or (lines text) 0 [])

  same-firm : (other : ℕ) → firm_beside other text ≡ named → outcome_beside other text ≡ outcome_of text
  unfolding outcome_beside outcome_of
  same-firm other e = rw e

  -- beside no firm, and beside one of another name, nothing changes
  pub beside_none : outcome_beside 0 text ≡ outcome_of text
  unfolding firm_beside
  beside_none = same-firm 0 (go (eqb named 0) refl)
    where
      go : (b : Bool) → eqb named 0 ≡ b → cond b 0 named ≡ named
      go true e = sym (eqb-true named 0 e)
      go false e = refl

  pub beside-other : (other : ℕ) → (named ≡ other → ⊥) → outcome_beside other text ≡ outcome_of text
  unfolding firm_beside
  beside-other other n = same-firm other (rw (ne_eqb named other n))

  -- the other's name is the 7 of line 1: after that line's 6, and before its 8 to 11
  pub beside_same : (other : ℕ) → named ≡ other → (other ≡ 0 → ⊥) → is_in (1 to 65_536) (length text) ≡ true → (first : List ℕ) (more : List (List ℕ))
      → lines text ≡ first ∷ more → ((outcome_beside other text).refusal ≡ cond (malformed first) 6 7) × ((outcome_beside other text).line ≡ 1)
  unfolding outcome_beside firm_beside read_on after_line
  beside_same other e some long first more is =
      let none : firm_in first ≡ 0 → ⊥ = λ z. some (sym e ∙ (ap (λ (ls : List (List ℕ)). firm_in (get_or ls 0 [])) is ∙ z)) in
      rw (long, eq-eqb named other e, is, other-line first none) (refl, refl)

  -- reading beside none is reading
  pub scan-none : scan_beside 0 text ≡ scan_of text
  unfolding scan_beside scan_of
  scan-none = rw beside_none

  -- an accepted text names another firm, and is accepted beside none too
  module _ (other : ℕ) (ok : (outcome_beside other text).refusal ≡ 0) where
    in_size : is_in (1 to 65_536) (length text) ≡ true
    unfolding outcome_beside
    in_size = go (is_in (1 to 65_536) (length text)) refl ok
      where
        go : (b : Bool) → is_in (1 to 65_536) (length text) ≡ b
            → (cond b (read_on (start_of (firm_beside other text)) 0 (lines text)) (record { profile = start_of 0; refusal = 5; line = 0 })).refusal ≡ 0 → is_in (1 to 65_536) (length text) ≡ true
        go true e z = e
        go false e z = absurd (omega arith)

    begun : IsNameNumber 1 4 (firm_beside other text)
    unfolding outcome_beside
    begun =
        let long = leb-true 1 (length text) (and_l (leb 1 (length text)) (leb (length text) 65_536) in_size) in
        first-named (start_of (firm_beside other text)) 0 (lines text) (rw (line-here text 0 _ long refl) (omega arith)) (rw in_size at ok)

    begun-some : firm_beside other text ≡ 0 → ⊥
    unfolding made
    begun-some z = let b = begun in none b.name b.made (name-zero 1 4 b.name b.made (b.number ∙ z))
      where
        none : (name : List ℕ) → is_name 1 4 name ≡ true → name ≡ [] → ⊥
        none name h e = false≢true (rw e at h)

    pub accepted-differs : named ≡ other → ⊥
    unfolding firm_beside
    accepted-differs e = begun-some (rw (eq-eqb named other e))

    pub accepted-beside : outcome_beside other text ≡ outcome_of text
    accepted-beside = beside-other other accepted-differs

    pub accepted-other : (outcome_beside other text).profile.firm ≡ other → ⊥
    accepted-other e =
        accepted-differs (sym (accepted-firm text (ap (λ (o : Outcome). o.refusal) (sym accepted-beside) ∙ ok)) ∙ (ap (λ (o : Outcome). o.profile.firm) (sym accepted-beside) ∙ e))
