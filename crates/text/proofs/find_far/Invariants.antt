-- `text::find_far` meets its contract: the bytes that were passed have no b. Assumes nothing.
use Rattle.std.proofs.Common.{◌≡◌, ◌+◌, ◌*◌, drop}
use Rattle.text.specs.Text.{index_of}
use Rattle.text.proofs.find_far.Given as goal

abbrev pub invariant-loop-eight : goal.invariant-loop-eight
invariant-loop-eight l = (l.far ≡ l.eight-index * 8) × (index_of l.b l.all ≡ l.far + index_of l.b (drop l.far l.all))
