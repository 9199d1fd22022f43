-- `given::are_name_bytes` meets its contract: no byte has the highest bit, and then each is marked by it just if it is a name's. Assumes nothing.
use native.Mathlib.Omega.{arith}
use borrow.Author.Rules.{rules}
use Rattle.given.proofs.Eight.{name-high, name-most, name-marked, shifted-some, low-highs}
use Rattle.given.proofs.roots.are_name_bytes.Goals as goal

pub returns-then-n-ne0 : goal.returns-then-n-ne0
returns-then-n-ne0 c = name-high _ (search rules) c.if-n-ne0.true

pub overflow_add-digits : goal.overflow_add-digits
overflow_add-digits c = omega (arith, name-most c.args.n (search rules) c.if-n-ne0.false)

pub overflow_sub-digits : goal.overflow_sub-digits
overflow_sub-digits c = omega (arith, name-most c.args.n (search rules) c.if-n-ne0.false)

pub overflow_add-capitals : goal.overflow_add-capitals
overflow_add-capitals c = omega (arith, name-most c.args.n (search rules) c.if-n-ne0.false)

pub overflow_sub-capitals : goal.overflow_sub-capitals
overflow_sub-capitals c = omega (arith, name-most c.args.n (search rules) c.if-n-ne0.false)

pub overflow_sub-own : goal.overflow_sub-own
overflow_sub-own c = shifted-some _ c.requires.0

pub returns : goal.returns
returns c = name-marked _ (search rules) c.if-n-ne0.false _ _ c.requires.1 (low-highs _ c.requires.0)
