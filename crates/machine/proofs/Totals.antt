-- Totals stay in their range: what a reset leaves of them, and what a fill adds. Assumes nothing.
use Prim.Native.Nat.{ℕ, ◌+◌, min}
use mathlib.Core.Path.{◌≡◌, refl, ◌∙◌}
use mathlib.Core.Bool.{Bool, true, false, cond}
use mathlib.Core.List.{List, map}
use lib.Dec.{eqb, leb}
use borrow.Author.Tests.{leb-true, eqb-true}
use native.Mathlib.Omega.{arith}
use Rattle.laws.proofs.Tests.{and_l, and_r, tests}
use Rattle.laws.specs.Folds.{every}
use Rattle.measures.specs.Ranges.{In, is_in, totals}
use Rattle.measures.proofs.Determined.{in-test}
use Rattle.rules.specs.Amounts.{number_of, amount_in, is_of}
use Rattle.rules.specs.Rules.{level_of, is_rate, held, added, InRange}
use Rattle.rules.specs.Valid.{is_limit, is_total_number, is_total}
use Rattle.rules.specs.declared.Level.{Level}
use Rattle.rules.specs.declared.Kind.{Kind}
use Rattle.rules.specs.declared.Kind.TheVariants.{Rate, Absolute}
use Rattle.rules.specs.declared.Limit.{Limit}
use Rattle.rules.specs.declared.Limit.TheVariants.{Notional, Volume, Count}
use Rattle.rules.specs.declared.Rule.{Rule}
use Rattle.rules.specs.declared.Amount.{Amount}
use Rattle.rules.specs.declared.Account.{Account}
use Rattle.rules.proofs.Amounts.{number_in, of-in}
use Rattle.machine.specs.declared.Offer.{Offer}
use Rattle.machine.specs.Order.{wiped}
use Rattle.machine.specs.Offers.{covers_offer, credited}
use Rattle.machine.proofs.Lists.{every-imp, every_map}

-- a total that its rule may have
abbrev pub is_paid : Account → Bool
is_paid a = is_total a.rule a.total

-- so much in a rule's measure
pub total_of : (rule : Rule) (n : ℕ) → is_total_number rule n ≡ true → is_total rule (amount_in rule.limit n) ≡ true
unfolding is_total
total_of rule n h = rw (of-in rule.limit n, number_in rule.limit n) h

pub nothing-total : (rule : Rule) → is_total rule (amount_in rule.limit 0) ≡ true
unfolding is_total_number
nothing-total rule = total_of rule 0 (go (is_rate rule.kind))
  where
    go : (b : Bool) → cond b (eqb 0 0) (is_in totals 0) ≡ true
    go true = refl
    go false = refl

-- a total that is zeroed, or not
pub wiped-total : (zeroes : Level → Bool) (a : Account) → is_paid a ≡ true → is_paid (wiped zeroes a) ≡ true
unfolding wiped
wiped-total zeroes a h = go (zeroes (level_of a.rule.scope))
  where
    go : (b : Bool) → is_total a.rule (cond b (amount_in a.rule.limit 0) a.total) ≡ true
    go true = nothing-total a.rule
    go false = h

pub limit-range : (limit : Limit) → is_limit limit ≡ true → InRange limit
unfolding is_limit InRange
limit-range (Notional l) h = (search tests depth 4, search tests depth 4)
limit-range (Volume l) h = (search tests depth 4, search tests depth 4)
limit-range (Count l) h = (search tests depth 4, search tests depth 4)

-- a total in its range, of whatever kind the rule is
pub total-in : (rule : Rule) (total : Amount) → is_total rule total ≡ true → (is_of rule.limit total ≡ true) × In totals (number_of total)
unfolding is_total is_total_number
total-in rule total h = (and_l (is_of rule.limit total) _ h, go (is_rate rule.kind) (and_r (is_of rule.limit total) _ h))
  where
    go : (b : Bool) → cond b (eqb (number_of total) 0) (is_in totals (number_of total)) ≡ true → In totals (number_of total)
    go true h = (omega arith, omega (arith, eqb-true (number_of total) 0 h))
    go false h = (omega arith, leb-true (number_of total) totals.most (and_r (leb 0 (number_of total)) (leb (number_of total) totals.most) h))

-- the total of a rule after a fill: it is held
credited-total : (o : Offer) (n : ℕ) (a : Account) → is_paid a ≡ true → is_paid (credited o n a) ≡ true
unfolding credited is_rate is_total_number held
credited-total o n a t = go a.rule.kind refl (covers_offer o a.rule)
  where
    more : ℕ
    more = number_of a.total + added a.rule.limit o.premium n

    after : Kind → Bool → Amount
    after kind b = cond (is_rate kind) a.total (cond b (amount_in a.rule.limit (held Absolute more)) a.total)

    go : (kind : Kind) → a.rule.kind ≡ kind → (b : Bool) → is_total a.rule (after kind b) ≡ true
    go (Rate w) e b = t
    go Absolute e false = t
    go Absolute e true = total_of a.rule (min more totals.most) (rw e (in-test totals (min more totals.most) (omega arith, omega arith)))

pub credited-totals : (o : Offer) (n : ℕ) (accounts : List Account) → every is_paid accounts ≡ true → every is_paid (map (credited o n) accounts) ≡ true
credited-totals o n accounts h = every_map is_paid (credited o n) accounts ∙ every-imp is_paid _ (credited-total o n) accounts h
