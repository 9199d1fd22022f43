-- `daylog::inside` meets its contract: those inside the window are those that are not before its first time. Assumes nothing.
use Prim.Native.Nat.{ℕ}
use mathlib.Core.Path.{ap, ◌∙◌}
use native.Mathlib.Omega.{arith}
use lib.ListN.{length}
use Rattle.rules.specs.declared.Kind.TheVariants.{Rate}
use Rattle.daylog.specs.Inner.Log.{entries_of}
use Rattle.daylog.specs.Newest.{newest}
use Rattle.daylog.proofs.Leaving.{inside-last}
use Rattle.daylog.proofs.Sifting.{first-most}
use Rattle.daylog.proofs.windows.inside.Goals as goal

pub since-requires : goal.since-requires
since-requires c = (c.requires.0, omega (arith, c.first_time.ensures, first-most (Rate c.args.window) c.args.time))

pub returns : goal.returns
returns c =
    let s = c in
    let a = s.args in
    inside-last a.window a.time a.k a.log.now s.requires.0 s.requires.1
    (c.since.ensures ∙ ap (λ (n : ℕ). length (newest n (entries_of a.k a.log.now))) c.first_time.ensures)
