-- The line that begins at a place: where it ends, and that the lines of a text are one after the other. Assumes nothing.
use Prim.Native.Nat.{ℕ, ◌+◌, ◌-◌, ◌≤◌, ◌<◌}
use mathlib.Core.Path.{◌≡◌, refl, sym, ap, ◌∙◌}
use mathlib.Core.List.{List, [], ◌∷◌}
use lib.ListN.{length, get_or, take, drop}
use lib.Seq.{length-take-le}
use native.Mathlib.Omega.{arith}
use Rattle.std.specs.Prelude.{min}
use Rattle.std.proofs.lemmas.List.{drop_min}
use Rattle.text.specs.Text.{lines, index_of}
use Rattle.text.proofs.Lists.{index-le, within, first-line, line-here as next-lines}
use Rattle.reader.specs.Lines.{line_from}
use Rattle.laws.proofs.Lists.{ended}
use Rattle.text.specs.Text.{pieces}

module _ (s : List ℕ) (at : ℕ) where
  pub line-past : length s < at → line_from s at ≡ []
  unfolding line_from pieces
  line-past h = rw (ended s at (omega arith))

  pub line-here : (e : ℕ) → e ≡ at + index_of 10 (drop at s) → line_from s at ≡ take (e - at) (drop at s)
  unfolding line_from
  line-here e ends = first-line s at e ends

  -- a place past the end has the line of the end, which is empty
  pub line_is : {from e : ℕ} → from ≡ min at (length s) → e ≡ from + index_of 10 (drop from s) → take (e - from) (drop from s) ≡ line_from s at
  unfolding line_from
  line_is {from} {e} is ends = sym (first-line s from e ends) ∙ ap (λ l. get_or (lines l) 0 []) (ap (λ k. drop k s) is ∙ drop_min at s)

  -- it has the bytes before the next LF, so its end is the place of that LF, or the end of the text
  pub line-end : at + length (line_from s at) ≡ at + index_of 10 (drop at s)
  line-end =
      let k = index_of 10 (drop at s) in
      let n : at + k - at ≡ k = omega arith in
      rw (line-here (at + k) refl, n, length-take-le k (drop at s) (index-le 10 (drop at s)))

  -- from a place within the text: this line, and then the lines that begin one byte past its end
  pub line_on : at < length s → lines (drop at s) ≡ line_from s at ∷ lines (drop (at + length (line_from s at) + 1) s)
  line_on h = next-lines s at (at + length (line_from s at)) h line-end ∙ rw (← line-here (at + length (line_from s at)) line-end)

  pub line-inside : at ≤ length s → at + length (line_from s at) ≤ length s
  line-inside h = rw line-end (within 10 s at h)
