-- `reset::wipe_rule` meets its contract: the totals of a rule that is zeroed are so one after the other, and those of any other stand as they were. Assumes nothing.
use Prim.Native.Nat.{ℕ, ◌+◌, ◌≤◌}
use mathlib.Core.Path.{◌≡◌, sym, ap, ◌∙◌}
use mathlib.Core.Bool.{Bool, true, false}
use native.Mathlib.Omega.{arith}
use lib.ListN.{length}
use Rattle.rules.specs.Amounts.{amount_in}
use Rattle.rules.specs.Rules.{level_of}
use Rattle.rules.specs.declared.Level.{Level}
use Rattle.rules.specs.declared.Rule.{Rule}
use Rattle.machine.specs.State.{rules_in}
use Rattle.machine.specs.Remaining.{rule_numbered, first_cell}
use Rattle.machine.specs.Effects.{zeroing}
use Rattle.state.specs.State.{stored, decode}
use Rattle.state.specs.Inner.Laid.{with_accounts, between}
use Rattle.machine.specs.Order.{wiped}
use Rattle.state.proofs.Laid.{laid-few}
use Rattle.state.proofs.Walked.{place-within, next_place}
use Rattle.state.proofs.After.{held-laid, held-length}
use Rattle.state.proofs.Between.{passing-none, passing-length}
use Rattle.reset.proofs.Wipes.{wiped-fair, place-next, wiped-on, wiped-off}
use Rattle.reset.proofs.wipe_rule.Goals.{After-accounts}
use Rattle.reset.proofs.wipe_rule.Goals as goal

-- the next rule's accounts begin past those of this one
next-first : (t : After-accounts) → t.args.place + t.accounts.result ≡ first_cell (rules_in (decode t.args.m.now)) (t.args.i + 1)
next-first t = next_place t.requires.0 t.requires.1 t.requires.2 t.rule_in-rule.ensures t.accounts.ensures

next-most : (t : After-accounts) → t.args.place + t.accounts.result ≤ length (decode t.args.m.now).part.accounts
next-most t = place-within t.requires.0 (t.args.i + 1) (next-first t)

-- what is told of the rule is told of its level
level-told : (zeroes : Level → Bool) {r rule : Rule} {told answer : Bool} → r ≡ rule → told ≡ zeroes (level_of r.scope) → told ≡ answer
    → zeroes (level_of rule.scope) ≡ answer
level-told zeroes is so answers = sym (ap (λ (r : Rule). zeroes (level_of r.scope)) is) ∙ sym so ∙ answers

pub overflow_add-next : goal.overflow_add-next
overflow_add-next c = omega (arith, next-most c, laid-few c.requires.0)

pub returns-then-not-zeroes : goal.returns-then-not-zeroes
returns-then-not-zeroes c =
    let next = next-first (goal.at.returns-then-not-zeroes c).After-accounts in
    let zeroes = zeroing c.args.effect c.args.root in
    let off = level-told zeroes c.rule_in-rule.ensures c.zeroes.ensures c.if-not-zeroes.true in
    record { value = next; m_after = (wiped-off c.requires.0 c.requires.1 c.requires.2 next zeroes off).holds.is }

pub loop-j-init : goal.loop-j-init
loop-j-init c =
    let next = next-first (goal.at.loop-j-init c).After-accounts in
    (omega (arith, place-next c.requires.0 c.requires.1 c.requires.2 next), λ zeroes on. passing-none (wiped-fair zeroes) c.requires.0 c.args.place)

pub put_total-requires : goal.put_total-requires
put_total-requires c =
    let t = (goal.at.put_total-requires c).After-accounts in
    let zeroes = zeroing c.args.effect c.args.root in
    let on = level-told zeroes c.rule_in-rule.ensures c.zeroes.ensures c.if-not-zeroes.false in
    let w = c.loop-j.invariant.1 zeroes on in
    (held-laid w.holds, omega (arith, passing-length (wiped-fair zeroes) c.requires.0 w, next-most t, c.loop-j-test.true))

pub loop-j-preserved : goal.loop-j-preserved
loop-j-preserved c =
    let next = next-first (goal.at.loop-j-preserved c).After-accounts in
    let total = c.amount.ensures ∙ ap (λ (r : Rule). amount_in r.limit 0) c.rule_in-rule.ensures in (
      omega arith,
      λ zeroes on.
          wiped-on c.requires.0 c.requires.1 c.requires.2 next zeroes on (omega arith) (c.loop-j.invariant.1 zeroes on) total c.put_total.ensures,
    )

pub shape_of-m : goal.shape_of-m
shape_of-m c =
    let zeroes = zeroing c.args.effect c.args.root in
    let on = level-told zeroes c.rule_in-rule.ensures c.zeroes.ensures c.if-not-zeroes.false in
    held-length (c.loop-j.invariant.1 zeroes on).holds c.requires.0.long

pub returns : goal.returns
returns c =
    let next = next-first (goal.at.returns c).After-accounts in
    let m = c.args.m.now in
    let zeroes = zeroing c.args.effect c.args.root in
    let on = level-told zeroes c.rule_in-rule.ensures c.zeroes.ensures c.if-not-zeroes.false in
    let end : c.loop-j.j ≡ c.args.place + c.accounts.result = omega (arith, c.loop-j.invariant.0, c.loop-j-test.false) in
    record {
      value = next;
      m_after = (c.loop-j.invariant.1 zeroes on).holds.is
          ∙ ap (λ (n : ℕ). stored (with_accounts (decode m) (between (wiped zeroes) c.args.place n (decode m).part.accounts)) m) end;
    }
