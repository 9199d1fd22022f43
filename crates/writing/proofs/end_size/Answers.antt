-- `output::end_size` meets its contract: a kind by its case, and for an absolute rule whether anything follows. Assumes nothing.
use mathlib.Core.Path.{sym, ◌∙◌}
use native.Mathlib.Omega.{arith}
use lib.ListN.{length}
use Prim.Native.Nat.{◌<◌}
use native.Mathlib.Nat.{pos_of_ne-zero}
use Rattle.text.proofs.Decimal.{decimal-few}
use Rattle.writing.specs.Inner.Parts.{letters_text}
use Rattle.writing.proofs.Cut.{letters-few, rate-long, end_none, end_more}
use Rattle.writing.proofs.end_size.Goals as goal

pub overflow_add-result : goal.overflow_add-result
overflow_add-result c = omega (arith, c.decimal_size.ensures, decimal-few c.in-Rate.window)

pub overflow_add-result-in-Rate : goal.overflow_add-result-in-Rate
overflow_add-result-in-Rate c = omega (arith, c.decimal_size.ensures, decimal-few c.in-Rate.window, c.letters_size-letters.ensures, letters-few c.args.scope)

pub returns-then-letters-eq0 : goal.returns-then-letters-eq0
returns-then-letters-eq0 c =
    rw (c.in-Absolute.is, end_none c.args.scope (sym c.letters_size-letters.ensures ∙ c.if-letters-eq0.true))

pub overflow_add-result-in-Absolute : goal.overflow_add-result-in-Absolute
overflow_add-result-in-Absolute c = omega (arith, c.letters_size-letters.ensures, letters-few c.args.scope)

pub returns-in-Rate : goal.returns-in-Rate
returns-in-Rate c = rw (c.decimal_size.ensures, c.letters_size-letters.ensures, c.in-Rate.is, rate-long)

pub returns-else-letters-eq0 : goal.returns-else-letters-eq0
returns-else-letters-eq0 c =
    let some : 0 < length (letters_text c.args.scope) = omega (arith, c.letters_size-letters.ensures, pos_of_ne-zero c.if-letters-eq0.false) in
    rw (c.letters_size-letters.ensures, c.in-Absolute.is, end_more c.args.scope some) (omega arith)
