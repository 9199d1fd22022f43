-- `reader::line_from` meets its contract: what stands between the place and the next LF is the line. Assumes nothing.
use Rattle.std.proofs.Common.{arith}
use Rattle.text.proofs.Lists.{within}
use Rattle.reader.proofs.Lines.{line_is}
use Rattle.reader.proofs.line_from.Goals as goal

pub slice_bounds-result-end : goal.slice_bounds-result-end
slice_bounds-result-end c = omega (arith, within 10 c.args.text.now c.min-at.result)

pub returns : goal.returns
returns c = line_is c.args.text.now c.args.at c.min-at.ensures c.find_far-end.ensures
