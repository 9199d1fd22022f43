-- `records::ranges::are_between` meets its contract: what was tested so far, and what is left, is the whole. Assumes nothing.
use mathlib.Core.Path.{sym, ap, ◌∙◌}
use mathlib.Core.Bool.{Bool, ◌&&◌, and-true, and_assoc}
use native.Mathlib.Numerals.{add-one}
use native.Mathlib.Omega.{arith}
use Rattle.records.proofs.Ranged.{left-on, left-none}
use Rattle.records.proofs.ranges.are_between.Goals as goal

pub loop-i-preserved : goal.loop-i-preserved
loop-i-preserved c =
    let a = c.args in
    let next = left-on a.least.now a.most.now a.v.now c.loop-i.i c.requires.0 c.requires.1 (omega arith) in
    rw (add-one, c.is_in-good.ensures) (and_assoc c.loop-i.good _ _ ∙ ap (λ (t : Bool). c.loop-i.good && t) (sym next) ∙ c.loop-i.invariant)

pub returns : goal.returns
returns c =
    let a = c.args in
    let none = left-none a.least.now a.most.now a.v.now c.loop-i.i c.requires.0 c.requires.1 (omega arith) in
    sym (and-true c.loop-i.good) ∙ ap (λ (t : Bool). c.loop-i.good && t) (sym none) ∙ c.loop-i.invariant
