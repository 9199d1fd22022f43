-- `state::longest_window` meets its contract: the table's rules are the state's. Assumes nothing.
use mathlib.Core.Path.{ap, ◌∙◌}
use native.Mathlib.Omega.{arith}
use Rattle.machine.specs.Offers.{longest}
use Rattle.state.proofs.Laid.{laid_table, laid-count}
use Rattle.state.proofs.Parts.{part-long}
use Rattle.state.proofs.longest_window.Goals as goal

pub longest_window-requires : goal.longest_window-requires
longest_window-requires c = let start = c in (part-long start.args.m.now start.requires.long 68 513 (omega arith), laid-count start.requires)

pub returns : goal.returns
returns c = c.longest_window.ensures ∙ ap longest (laid_table c.requires)
