-- `grant::credit` meets its contract: the accounts of the rules before i are credited, and the others stand as they were. Assumes nothing.
use Prim.Native.Nat.{ℕ, ◌+◌, ◌-◌, ◌<◌}
use native.Mathlib.Omega.{arith}
use mathlib.Core.Path.{◌≡◌, refl, sym, ap, ◌∙◌, subst}
use mathlib.Core.Bool.{Bool, true}
use mathlib.Core.List.{List}
use lib.ListN.{length}
use Rattle.rules.specs.Units.{units_of}
use Rattle.rules.specs.declared.Rule.{Rule}
use Rattle.rules.specs.declared.Account.{Account}
use Rattle.machine.specs.State.{rules_in, cells_of}
use Rattle.machine.specs.Remaining.{rule_numbered, first_cell}
use Rattle.machine.proofs.Totals.{is_paid}
use Rattle.machine.specs.declared.Offer.{Offer}
use Rattle.state.specs.State.{decode}
use Rattle.state.specs.Inner.Laid.{Laid, account_in}
use Rattle.state.proofs.Laid.{laid-few}
use Rattle.state.proofs.Walked.{place-within, walked, next_place}
use Rattle.state.proofs.After.{held-laid, held-length}
use Rattle.state.proofs.Done.{doing-rules, doing-past}
use Rattle.grant.specs.declared.Levels.{Levels}
use Rattle.grant.specs.Inner.Grant.{faced_in, faced_by}
use Rattle.grant.proofs.Credits.{credit-fair, laid-totals}
use Rattle.grant.proofs.Accounts.{credited-there, Crediting, crediting-none, crediting-done}
use Rattle.grant.proofs.Rules.{faced-low, crediting-rule}
use borrow.Author.Rules.{rules}
use Rattle.grant.proofs.crediting.credit.Goals.{After-slice_known-in-loop-i-1}
use Rattle.grant.proofs.crediting.credit.Goals as goal

pub rules_in-rules-requires : goal.rules_in-rules-requires
rules_in-rules-requires c = c.requires.0.laid

pub loop-i-init : goal.loop-i-init
unfolding cells_of
loop-i-init c =
    let start = c in
    (refl, crediting-none start.args.o start.args.grant start.requires.0.laid, refl)

-- the rules stand as they were
still : (o : Offer) (grant : ℕ) {xs ys : List ℕ} {i : ℕ} {reached : Levels Bool} → Laid xs → Crediting o grant xs i ys reached → rules_in (decode ys) ≡ rules_in (decode xs)
still o grant h c = doing-rules (credit-fair o grant) h c.doing

pub accounts_at-own-requires : goal.accounts_at-own-requires
accounts_at-own-requires c =
    let l = c.loop-i in
    let start = c in
    let same = still start.args.o start.args.grant start.requires.0.laid l.invariant.1 in
    (held-laid l.invariant.1.doing.holds, subst (λ (rs : List Rule). l.i < length rs) (sym same) (omega (arith, c.rules_in-rules.ensures, c.loop-i-test.true)))

pub credit_at-reached-requires : goal.credit_at-reached-requires
credit_at-reached-requires c =
    let l = c.loop-i in
    let start = c in
    let o = start.args.o in
    let p = start.requires in
    let laid = p.0.laid in
    let xs = start.args.m.now in
    let fair = credit-fair o start.args.grant in
    let doing = l.invariant.1.doing in
    let same = still o start.args.grant laid l.invariant.1 in
    let low : l.i < length (rules_in (decode xs)) = omega (arith, c.rules_in-rules.ensures, c.loop-i-test.true) in
    let j = faced_by xs o l.i in
    let past = doing-past fair laid doing {j = j} (omega (arith, l.invariant.2)) in
    let there = ap (λ (rs : List Rule). account_in l.m (faced_in rs o l.i)) same ∙ past in (
      record { laid = held-laid doing.holds; unit = p.0.unit; premium = p.0.premium.1; most = p.2 },
      subst (λ (rs : List Rule). l.i < length rs) (sym same) low,
      l.invariant.2 ∙ ap (λ (rs : List Rule). first_cell rs l.i) (sym same),
      subst (λ (a : Account). is_paid a ≡ true) (sym there) (laid-totals xs j p.1 (faced-low laid low refl refl o p.0.unit refl)),
    )

-- where the accounts of the next rule begin
on : (c : After-slice_known-in-loop-i-1) → c.loop-i.place + c.accounts_at-own.result ≡ first_cell (rules_in (decode c.args.m.now)) (c.loop-i.i + 1)
on c =
    let l = c.loop-i in
    let start = c in
    let laid = start.requires.0.laid in
    let same = still start.args.o start.args.grant laid l.invariant.1 in
    let low : l.i < length (rules_in (decode start.args.m.now)) = omega (arith, c.rules_in-rules.ensures, c.loop-i-test.true) in
    next_place laid low l.invariant.2 refl (c.accounts_at-own.ensures ∙ ap (λ (rs : List Rule). length (units_of (rule_numbered rs l.i).scope)) same)

pub overflow_add-place : goal.overflow_add-place
overflow_add-place c =
    let laid = c.requires.0.laid in
    omega (arith, place-within laid (c.loop-i.i + 1) (on c), laid-few laid)

pub loop-i-preserved : goal.loop-i-preserved
loop-i-preserved c =
    let l = c.loop-i in
    let start = c in
    let o = start.args.o in
    let grant = start.args.grant in
    let laid = start.requires.0.laid in
    let same = still o grant laid l.invariant.1 in
    let low : l.i < length (rules_in (decode start.args.m.now)) = omega (arith, c.rules_in-rules.ensures, c.loop-i-test.true) in
    let here = subst (λ (p : ℕ). Crediting o grant start.args.m.now p l.m l.reached) l.invariant.2 l.invariant.1 in
    let one = credited-there (ap (λ (rs : List Rule). faced_in rs o l.i) same) c.credit_at-reached.ensures in
    let next = crediting-rule laid low refl refl o start.requires.0.unit refl (on c) here one in
    (held-length next.doing.holds laid.long, next, on c)

pub shape_of-m : goal.shape_of-m
shape_of-m c = c.loop-i.invariant.0

pub returns : goal.returns
returns c =
    let at-loop = c in
    let start = at-loop in
    let laid = start.requires.0.laid in
    let all = walked laid {r = at-loop.loop-i.i} at-loop.loop-i.invariant.2 (omega (arith, at-loop.rules_in-rules.ensures, c.loop-i-test.false)) in
    crediting-done start.args.o start.args.grant laid at-loop.loop-i.invariant.1 all
