-- `line::read_line` meets its contract: the length is tested first. Assumes nothing.
use mathlib.Core.Path.{sym, ◌∙◌}
use borrow.Author.Tests.{lt-ltb}
use Rattle.line.specs.Line.{any_line}
use Rattle.line.proofs.Laws.{any-line}
use Rattle.line.proofs.read_line.Goals as goal

pub returns-then-line-gt65536 : goal.returns-then-line-gt65536
unfolding any_line
returns-then-line-gt65536 c = rw (lt-ltb _ _ c.if-line-gt65536.true)

pub returns : goal.returns
returns c = c.line_in.ensures ∙ sym (any-line _ _ c.if-line-gt65536.false)
