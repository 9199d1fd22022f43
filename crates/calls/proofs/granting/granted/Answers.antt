-- `calls::granted` meets its contract: the grant is the lesser of the two cuts, and the log must have a place for it. Assumes nothing.
use mathlib.Core.Path.{sym, ap, ◌∙◌}
use mathlib.Core.Bool.{true, ◌&&◌}
use lib.Dec.{ltb}
use native.Mathlib.Omega.{arith}
use Rattle.machine.specs.Calls.{Call}
use Rattle.state.specs.State.{decode}
use Rattle.grant.proofs.Joined.{passed_is, inside-read, inside-most}
use Rattle.calls.proofs.Steps.{refused}
use Rattle.calls.proofs.Offers.{least-is, refusal_is, granted-is, ready-is}
use Rattle.calls.proofs.granting.granted.Goals as goal

pub cuts_of-cuts-requires : goal.cuts_of-cuts-requires
cuts_of-cuts-requires c = let g = c.requires in (g.asked, inside-read g.asked.laid _ c.inside_at-inside.ensures)

pub is_full-requires : goal.is_full-requires
is_full-requires c =
    let start = c in
    let s = decode start.args.m.now in
    let is = c.inside_at-inside.ensures in
    let laid = start.requires.asked.laid in
    (laid, omega (arith, passed_is s _ is, inside-most c.inside_at-inside.result.window start.args.o.time s.log, laid.fits.log))

pub returns-then-grant-is_full : goal.returns-then-grant-is_full
returns-then-grant-is_full c =
    let start = c in
    let short = c.is_full.ensures start.args.o.time c.inside_at-inside.ensures in
    let least = least-is _ start.args.o _ c.cuts_of-cuts.ensures _ c.least-grant.ensures in
    let p = refused _ start.requires.met.ready (Call.offer start.args.o) 14 (refusal_is _ _ start.requires _ least true (ap (λ b. ltb 0 c.least-grant.result && b) (sym short) ∙ c.if-grant-is_full.true)) in record { value = p.0; m_after = p.1 }

pub fill-trips-requires : goal.fill-trips-requires
fill-trips-requires c =
    let start = c in
    let is = c.inside_at-inside.ensures in
    let short = c.is_full.ensures start.args.o.time is in
    let least = least-is _ start.args.o _ c.cuts_of-cuts.ensures _ c.least-grant.ensures in
    (ready-is _ _ start.requires _ least _ c.cuts_of-cuts.ensures (ap (λ b. ltb 0 c.least-grant.result && b) (sym short) ∙ c.if-grant-is_full.false), is)

pub returns : goal.returns
returns c =
    let start = c in
    let short = c.is_full.ensures start.args.o.time c.inside_at-inside.ensures in
    let least = least-is _ start.args.o _ c.cuts_of-cuts.ensures _ c.least-grant.ensures in
    let d = granted-is _ _ start.requires _ least _ _ c.fill-trips.ensures.root c.fill-trips.ensures.firm (ap (λ b. ltb 0 c.least-grant.result && b) (sym short) ∙ c.if-grant-is_full.false) in record { value = d.0; m_after = c.fill-trips.ensures.memory ∙ d.1 }
