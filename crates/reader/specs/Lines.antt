-- The line that begins at a place of a text. Assumes nothing.
use Rattle.std.specs.Prelude.{ℕ, List, [], get_or, drop}
use Rattle.text.specs.Text.{lines}

-- the first of the lines from a place on, without its LF; past the end there is none, which reads as empty
unfoldable pub line_from : List ℕ → ℕ → List ℕ
line_from text at = get_or (lines (drop at text)) 0 []
