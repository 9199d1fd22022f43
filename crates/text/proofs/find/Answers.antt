-- `text::find` meets its contract: so many bytes further on the first b stands, and none where the place is past the end. Assumes nothing.
use Rattle.std.proofs.Common.{◌+◌, ◌-◌, take, drop, length, length-take, ap, arith}
use Rattle.text.specs.Text.{index_of}
use Rattle.text.proofs.Lists.{index-le, rest-from}
use Rattle.text.proofs.find.Goals as goal

pub returns : goal.returns
returns c = rw (c.index_of.ensures, c.min.ensures) (ap (λ l. c.args.from + index_of c.args.b l) (rest-from c.args.s.now c.args.from))

pub overflow_add-result : goal.overflow_add-result
overflow_add-result c = omega (arith, c.index_of.ensures, c.min.ensures, index-le c.args.b (take (length c.args.s.now - c.min.result) (drop c.min.result c.args.s.now)), length-take (length c.args.s.now - c.min.result) (drop c.min.result c.args.s.now))
