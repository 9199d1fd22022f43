-- `grant::join_log` meets its contract: the longest window is above 0 exactly if there is a rate rule, and then the fill joins the log. Assumes nothing.
use native.Mathlib.Omega.{arith}
use mathlib.Core.Path.{◌≡◌, sym, ap, ◌∙◌, subst}
use mathlib.Core.List.{List, [], ◌∷◌, ◌++◌}
use Prim.Native.Nat.{ℕ, ◌≤◌}
use lib.ListN.{length}
use Rattle.daylog.specs.Inner.Log.{last_of, joined_entries}
use Rattle.machine.specs.declared.Entry.{Entry}
use Rattle.machine.specs.Entries.{recent}
use Rattle.machine.specs.Offers.{entry_of}
use Rattle.machine.specs.State.{roots_in}
use Rattle.state.specs.State.{stored, decode}
use Rattle.state.specs.Inner.Laid.{with_log}
use Rattle.state.proofs.Laid.{laid-held, laid-entries}
use Rattle.state.proofs.After.{log-after}
use Rattle.grant.proofs.Joined.{window-is, passed_is, laid-last, inside-most, joined-off, joined-on, grant-some, room_for, entry_in_lem}
use mathlib.Core.Bool.{not}
use Rattle.grant.proofs.join_log.Goals as goal

pub returns-then-not-inside-grant : goal.returns-then-not-inside-grant
returns-then-not-inside-grant c =
    let start = c in
    let laid = start.requires.0.laid in
    let s = decode start.args.m.now in
    laid.is ∙ ap (λ (l : List Entry). stored (with_log s l) start.args.m.now) (sym (joined-off s laid.fits (window-is s start.args.o.time start.requires.3) start.args.o start.args.grant (ap not c.if-not-inside-grant.true)))

pub join-requires : goal.join-requires
unfolding entry_of roots_in
join-requires c =
    let start = c in
    let args = start.args in
    let p = start.requires in
    let laid = p.0.laid in
    let s = decode args.m.now in
    let is = window-is s args.o.time p.3 in
    let many = passed_is s args.o.time p.3 in
    let some = (ap not c.if-not-inside-grant.false) in (
      laid-held laid,
      subst (λ (l : List Entry). args.inside.read.passed ≤ length l) (sym (laid-entries laid)) (omega (arith, many, inside-most args.inside.window args.o.time s.log)),
      omega (arith, many, room_for s laid.fits is args.o args.grant some p.2),
      entry_in_lem 64 p.0 (omega (arith, p.0.root, laid.fits.roots)) (grant-some s laid.fits is args.o args.grant some) p.1,
    )

pub returns : goal.returns
unfolding entry_of
returns c =
    let start = c in
    let args = start.args in
    let p = start.requires in
    let laid = p.0.laid in
    let s = decode args.m.now in
    let e = entry_of args.o args.grant in
    let on = joined-on s laid.fits (window-is s args.o.time p.3) args.o args.grant (ap not c.if-not-inside-grant.false) in
    let last : recent args.inside.window args.o.time s.log ≡ last_of args.inside.read.passed s.log =
    laid-last laid args.o.time args.inside.window p.0.ordered ∙ ap (λ (n : ℕ). last_of n s.log) (sym (passed_is s args.o.time p.3)) in
    log-after laid (joined_entries args.inside.read.passed e) c.join.ensures
    ∙ ap (λ (l : List Entry). stored (with_log s l) args.m.now) (sym (on ∙ ap (λ (l : List Entry). l ++ (e ∷ [])) last))
