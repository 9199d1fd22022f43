-- `rules::Rule::filled` meets its contract: what a fill adds to a total is in the total's measure and far below what 64 bits hold. Assumes nothing.
use native.Mathlib.Omega.{arith}
use mathlib.Core.Path.{ap, ◌∙◌}
use Rattle.rules.specs.Amounts.{number_of, is_of}
use Rattle.rules.proofs.Amounts.{number_in, of-in}
use Rattle.rules.proofs.Laws.{added-most}
use Rattle.rules.proofs.Rule.filled.Goals as goal

pub sum-requires : goal.sum-requires
sum-requires c =
    let limit = c.args.self.limit in
    let more = ap number_of c.added-more.ensures ∙ number_in limit _ in
    let most = added-most limit _ _ c.requires.2 c.requires.3 in
    (c.requires.0, ap (is_of limit) c.added-more.ensures ∙ of-in limit _, omega (arith, more, most))
