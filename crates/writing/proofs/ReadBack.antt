-- A firm, roots and rules that some accepted profile gives, written as text, are read as the same firm, roots and rules; and how long
-- the text can be. Assumes nothing.
use Prim.Native.Nat.{ℕ, ◌≤◌, ◌<◌}
use mathlib.Core.Path.{◌≡◌, refl, ap}
use mathlib.Core.Bool.{true}
use mathlib.Core.List.{List, [], ◌∷◌, map}
use lib.ListN.{length, get_or}
use borrow.Author.Tests.{le-leb, ltb-true}
use native.Mathlib.Omega.{arith}
use Rattle.laws.proofs.Tests.{and_i, tests}
use Rattle.measures.specs.Ranges.{◌to◌, is_in}
use Rattle.rules.specs.declared.Rule.{Rule}
use Rattle.text.specs.Text.{lines}
use Rattle.std.specs.Prelude.{Option, unwrap_or}
use Rattle.line.specs.Line.{firm_in}
use Rattle.laws.specs.Folds.{every}
use Rattle.rules.specs.Valid.{is_rule}
use Rattle.machine.specs.State.{Profile}
use Rattle.profile.specs.Profile.{outcome_of}
use Rattle.given.specs.Names.{is_name_number}
use Rattle.admission.specs.Admission.{are_in_order}
use Rattle.given.specs.Given.{are_roots, is_made}
use Rattle.writing.specs.Writing.{line_text, text_of, text_most}
use Rattle.text.proofs.Bytes.{all-at}
use Rattle.laws.proofs.Every.{every_first}
use Rattle.writing.proofs.Line.{line-firm}
use Rattle.writing.proofs.Lines.{is_byte, lines-back, lines-bytes, lines-few, lines-some}
use Rattle.writing.proofs.Reading.{read-on}

-- what the test says
pub record MadeFacts (p : Profile) : Type 0 where
  pub firm-ok : is_name_number 1 4 p.firm ≡ true
  pub roots_few : length p.roots ≤ 64
  pub roots-ok : are_roots p.roots ≡ true
  pub rules-some : 1 ≤ length p.rules
  pub rules-few : length p.rules ≤ 256
  pub rules-ok : every (is_rule (length p.roots)) p.rules ≡ true
  pub order : are_in_order (length p.roots) [] 0 p.rules ≡ true

pub made-facts : (p : Profile) → is_made p ≡ true → MadeFacts p
unfolding is_made
made-facts p h = record {
  firm-ok = search tests depth 14;
  roots_few = search tests depth 14;
  roots-ok = search tests depth 14;
  rules-some = search tests depth 14;
  rules-few = search tests depth 14;
  rules-ok = search tests depth 14;
  order = search tests depth 14;
}

-- no text is longer
pub text-bound : (p : Profile) → is_made p ≡ true → length (text_of p) ≤ text_most
unfolding text_of
text-bound p h =
    let m = made-facts p h in
    omega (arith, lines-few p.firm p.roots m.firm-ok m.roots-ok p.rules m.rules-ok, m.rules-few)

-- the text has 1 to 65,536 bytes, a line for each rule, and its first line has the firm
text-size : (p : Profile) → is_made p ≡ true → is_in (1 to 65_536) (length (text_of p)) ≡ true
unfolding text_of
text-size p h =
    and_i (le-leb 1 (length (text_of p)) (lines-some p.firm p.roots p.rules (made-facts p h).rules-some))
    (le-leb (length (text_of p)) 65_536 (omega (arith, text-bound p h)))

module _ (p : Profile) (m : MadeFacts p) where
  text-lines : lines (text_of p) ≡ map (line_text p.firm p.roots) p.rules
  unfolding text_of
  text-lines = lines-back p.firm p.roots m.firm-ok m.roots-ok p.rules m.rules-ok

  text-firm : firm_in (get_or (map (line_text p.firm p.roots) p.rules) 0 []) ≡ p.firm
  text-firm = go p.rules m.rules-some m.rules-ok
    where
      go : (rules : List Rule) → 1 ≤ length rules → every (is_rule (length p.roots)) rules ≡ true
          → firm_in (get_or (map (line_text p.firm p.roots) rules) 0 []) ≡ p.firm
      go [] l h = absurd (omega arith)
      go (rule ∷ rules) l h =
          ap (λ (r : Option ℕ). unwrap_or r 0) (line-firm p.firm p.roots rule m.firm-ok m.roots-ok (every_first (is_rule (length p.roots)) rule rules h))

-- the same profile is read
pub read_back : (p : Profile) → is_made p ≡ true → outcome_of (text_of p) ≡ record { profile = p; refusal = 0; line = 0 }
unfolding outcome_of
read_back p h =
    let m = made-facts p h in
    rw (text-size p h, text-lines p m, text-firm p m)
    (read-on p.firm p.roots m.firm-ok m.roots-ok m.roots_few 0 [] 0 p.rules (omega arith) (omega (arith, m.rules-few)) m.rules-ok m.order)

-- the text is bytes
pub text-bytes : (p : Profile) → is_made p ≡ true → (i : ℕ) → get_or (text_of p) i 0 < 256
unfolding text_of
text-bytes p h i =
    let m = made-facts p h in
    let bytes = lines-bytes p.firm p.roots m.firm-ok m.roots-ok p.rules m.rules-ok in
    ltb-true (get_or (text_of p) i 0) 256 (all-at is_byte (text_of p) bytes i 0 refl)

-- so some text of bytes gives the profile
pub given-by-text : (p : Profile) → is_made p ≡ true
    → (text : List ℕ) × (((i : ℕ) → get_or text i 0 < 256) × (outcome_of text ≡ record { profile = p; refusal = 0; line = 0 }))
given-by-text p h = (text_of p, (text-bytes p h, read_back p h))
