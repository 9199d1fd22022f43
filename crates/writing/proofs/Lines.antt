-- The lines that are written for rules are the lines of the text, which has a line's bytes and LF, at most 49 a line. Assumes nothing.
use Prim.Native.Nat.{ℕ, ◌*◌, ◌≤◌, ◌<◌}
use mathlib.Core.Path.{◌≡◌, refl, ap, ◌∙◌}
use mathlib.Core.Bool.{Bool, true}
use mathlib.Core.List.{List, [], ◌∷◌, map}
use lib.ListN.{length, length-append}
use lib.Dec.{leb, ltb}
use borrow.Author.Tests.{ltb-true, lt-ltb}
use native.Mathlib.Omega.{arith}
use Rattle.laws.proofs.Tests.{and_r}
use Rattle.rules.specs.declared.Rule.{Rule}
use Rattle.text.specs.Text.{all, pieces, lines}
use Rattle.laws.specs.Folds.{every}
use Rattle.rules.specs.Valid.{is_rule}
use Rattle.given.specs.Names.{is_name_number}
use Rattle.given.specs.Given.{are_roots}
use Rattle.writing.specs.Writing.{line_text, lines_text}
use Rattle.text.proofs.Bytes.{all_append, all_weaker}
use Rattle.laws.proofs.Every.{every_first, every_rest}
use Rattle.writing.proofs.Pieces.{in_line, piece_then}
use Rattle.writing.proofs.Longest.{line-most}
use Rattle.writing.proofs.Line.{line-bytes}

-- a byte
abbrev pub is_byte : ℕ → Bool
is_byte x = ltb x 256

line-byte : (x : ℕ) → in_line x ≡ true → is_byte x ≡ true
line-byte x h = lt-ltb x 256 (omega (arith, ltb-true x 128 (and_r (leb 44 x) (ltb x 128) h)))

module _ (firm : ℕ) (roots : List ℕ) (f : is_name_number 1 4 firm ≡ true) (r : are_roots roots ≡ true) where
  pub lines-back : (rules : List Rule) → every (is_rule (length roots)) rules ≡ true → lines (lines_text firm roots rules) ≡ map (line_text firm roots) rules
  unfolding lines_text pieces
  lines-back [] h = refl
  lines-back (rule ∷ rules) h =
      let one = every_first (is_rule (length roots)) rule rules h in
      piece_then in_line 10 refl [] (line_text firm roots rule) (lines_text firm roots rules) (line-bytes firm roots rule f r one)
      ∙ ap (λ ls. line_text firm roots rule ∷ ls) (lines-back rules (every_rest (is_rule (length roots)) rule rules h))

  pub lines-bytes : (rules : List Rule) → every (is_rule (length roots)) rules ≡ true → all is_byte (lines_text firm roots rules) ≡ true
  unfolding lines_text all
  lines-bytes [] h = refl
  lines-bytes (rule ∷ rules) h =
      let one = every_first (is_rule (length roots)) rule rules h in
      all_append is_byte (line_text firm roots rule) _ (all_weaker line-byte (line_text firm roots rule) (line-bytes firm roots rule f r one))
      (lines-bytes rules (every_rest (is_rule (length roots)) rule rules h))

  pub lines-few : (rules : List Rule) → every (is_rule (length roots)) rules ≡ true → length (lines_text firm roots rules) ≤ length rules * 49
  unfolding lines_text
  lines-few [] h = omega arith
  lines-few (rule ∷ rules) h =
      let one = every_first (is_rule (length roots)) rule rules h in
      let rest = lines-few rules (every_rest (is_rule (length roots)) rule rules h) in
      omega (arith, length-append (line_text firm roots rule) (10 ∷ lines_text firm roots rules), line-most firm roots rule f r one, rest)

pub lines-some : (firm : ℕ) (roots : List ℕ) (rules : List Rule) → 0 < length rules → 0 < length (lines_text firm roots rules)
unfolding lines_text
lines-some firm roots [] h = absurd (omega arith)
lines-some firm roots (rule ∷ rules) h = omega (arith, length-append (line_text firm roots rule) (10 ∷ lines_text firm roots rules))
