-- `seats::clear` meets its contract: the state's numbers become zeros, and what is past them stays. Assumes nothing.
use Prim.Native.Nat.{ℕ}
use mathlib.Core.Path.{sym, ap, ◌∙◌}
use mathlib.Core.List.{List, ◌++◌}
use lib.ListN.{drop}
use lib.Seq.{length-take-le}
use Rattle.tables.specs.Inner.Tables.{zeros}
use Rattle.seats.specs.Memory.{state_size}
use Rattle.seats.proofs.Clearing.{firm-short, seats-cleared}
use Rattle.seats.proofs.clear.Goals as goal

pub returns-then-m-lt-SIZE : goal.returns-then-m-lt-SIZE
returns-then-m-lt-SIZE c =
    let p = firm-short _ c.if-m-lt-SIZE.true in record { value = p.0; m_after = p.1 }

pub slice_bounds-blank-end-2 : goal.slice_bounds-blank-end-2
slice_bounds-blank-end-2 c = sym (length-take-le state_size c.args.m.now c.if-m-lt-SIZE.false)

pub returns : goal.returns
returns c =
    let m = c.args.m.now in
    let d = seats-cleared m c.if-m-lt-SIZE.false in record { value = d.0; m_after = ap (λ (l : List ℕ). l ++ drop state_size m) (c.blank.ensures ∙ ap zeros (length-take-le state_size m c.if-m-lt-SIZE.false)) ∙ d.1 }
