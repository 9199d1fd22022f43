-- `grant::cuts_of` meets its contract: the lesser of a cut and what the accounts of the rules from i on leave is what all accounts leave. Assumes nothing.
use Prim.Native.Nat.{ℕ, ◌+◌, ◌-◌, ◌<◌}
use mathlib.Core.Path.{refl, subst}
use native.Mathlib.Omega.{arith}
use lib.ListN.{length}
use Rattle.rules.specs.declared.Level.{Level}
use Rattle.rules.specs.declared.Level.TheVariants.{Firm, Root}
use Rattle.machine.specs.State.{rules_in, cells_of}
use Rattle.machine.specs.Remaining.{first_cell}
use Rattle.state.specs.State.{decode}
use Rattle.state.proofs.Laid.{laid-few}
use Rattle.state.proofs.Walked.{place-within, walked, next_place}
use Rattle.grant.proofs.Cut.{Cut, cut-none, cut-done}
use Rattle.grant.proofs.Rules.{cut-rule}
use borrow.Author.Rules.{rules}
use Rattle.grant.proofs.cuts_of.Goals as goal

pub rules_in-rules-requires : goal.rules_in-rules-requires
rules_in-rules-requires c = c.requires.0.laid

pub loop-i-init : goal.loop-i-init
unfolding cells_of
loop-i-init c =
    let start = c in
    let xs = start.args.m.now in
    let o = start.args.o in (
      cut-none (decode xs).log o (decode xs).part.accounts (Root o.root),
      cut-none (decode xs).log o (decode xs).part.accounts Firm,
      c.memos_of-memos.ensures.0 (decode xs).log start.requires.1,
      refl,
    )

pub lower_at-cuts-requires : goal.lower_at-cuts-requires
lower_at-cuts-requires c =
    let start = c in
    (start.requires.0, omega (arith, c.rules_in-rules.ensures, c.loop-i-test.true), c.loop-i.invariant.3, c.loop-i.invariant.2)

pub accounts_at-place-requires : goal.accounts_at-place-requires
accounts_at-place-requires c =
    let start = c in
    (start.requires.0.laid, omega (arith, c.rules_in-rules.ensures, c.loop-i-test.true))

pub overflow_add-place : goal.overflow_add-place
overflow_add-place c =
    let start = c in
    let l = c.loop-i in
    let low : l.i < length (rules_in (decode start.args.m.now)) = omega (arith, c.rules_in-rules.ensures, c.loop-i-test.true) in
    let on = next_place start.requires.0.laid low l.invariant.3 refl c.accounts_at-place.ensures in
    omega (arith, place-within start.requires.0.laid (l.i + 1) on, laid-few start.requires.0.laid)

pub loop-i-preserved : goal.loop-i-preserved
loop-i-preserved c =
    let start = c in
    let l = c.loop-i in
    let o = start.args.o in
    let xs = start.args.m.now in
    let low : l.i < length (rules_in (decode xs)) = omega (arith, c.rules_in-rules.ensures, c.loop-i-test.true) in
    let laid = start.requires.0.laid in
    let e = c.lower_at-cuts.ensures in
    let on = next_place laid low l.invariant.3 refl c.accounts_at-place.ensures in
    let from : (level : Level) (n : ℕ) → Cut (decode xs).log o (decode xs).part.accounts level l.place n
    → Cut (decode xs).log o (decode xs).part.accounts level (first_cell (rules_in (decode xs)) l.i) n =
    λ level n. subst (λ (p : ℕ). Cut (decode xs).log o (decode xs).part.accounts level p n) l.invariant.3 in (
      cut-rule laid low refl refl o start.requires.0.unit refl on (from (Root o.root) _ l.invariant.0) e.0.root,
      cut-rule laid low refl refl o start.requires.0.unit refl on (from Firm _ l.invariant.1) e.0.firm,
      e.1,
      on,
    )

pub returns : goal.returns
returns c =
    let at-loop = c in
    let start = at-loop in
    let all = walked start.requires.0.laid {r = at-loop.loop-i.i} at-loop.loop-i.invariant.3 (omega (arith, at-loop.rules_in-rules.ensures, c.loop-i-test.false)) in
    record { root = cut-done at-loop.loop-i.invariant.0 all; firm = cut-done at-loop.loop-i.invariant.1 all }
