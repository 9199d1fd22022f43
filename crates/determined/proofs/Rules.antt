-- The contracts of `rules` determine what a call gives: one theorem for each public function. Assumes nothing.
use mathlib.Core.Path.{refl}
use Rattle.determined.specs.Determines.{Determines}
use Rattle.laws.proofs.One.{alike}
use Rattle.rules.proofs.Rule.counted.Kinds as rule-counted-kinds
use Rattle.rules.proofs.Rule.counted.Reads as rule-counted-reads
use Rattle.rules.proofs.Rule.allowance.Kinds as rule-allowance-kinds
use Rattle.rules.proofs.Rule.allowance.Reads as rule-allowance-reads
use Rattle.rules.proofs.Rule.left.Kinds as rule-left-kinds
use Rattle.rules.proofs.Rule.left.Reads as rule-left-reads
use Rattle.rules.proofs.Rule.filled.Kinds as rule-filled-kinds
use Rattle.rules.proofs.Rule.filled.Reads as rule-filled-reads
use Rattle.rules.proofs.Rule.reached.Kinds as rule-reached-kinds
use Rattle.rules.proofs.Rule.reached.Reads as rule-reached-reads
use Rattle.rules.proofs.Limit.added.Kinds as limit-added-kinds
use Rattle.rules.proofs.Limit.added.Reads as limit-added-reads
use Rattle.rules.proofs.Amount.number.Kinds as amount-number-kinds
use Rattle.rules.proofs.Amount.number.Reads as amount-number-reads
use Rattle.rules.proofs.Limit.amount.Kinds as limit-amount-kinds
use Rattle.rules.proofs.Limit.amount.Reads as limit-amount-reads
use Rattle.rules.proofs.Limit.ceiling.Kinds as limit-ceiling-kinds
use Rattle.rules.proofs.Limit.ceiling.Reads as limit-ceiling-reads
use Rattle.rules.proofs.Rule.accounts.Kinds as rule-accounts-kinds
use Rattle.rules.proofs.Rule.accounts.Reads as rule-accounts-reads
use Rattle.rules.proofs.Rule.counts_for.Kinds as rule-counts-for-kinds
use Rattle.rules.proofs.Rule.counts_for.Reads as rule-counts-for-reads
use Rattle.rules.proofs.Rule.place_of.Kinds as rule-place-of-kinds
use Rattle.rules.proofs.Rule.place_of.Reads as rule-place-of-reads
use Rattle.rules.proofs.Rule.of_unit.Kinds as rule-of-unit-kinds
use Rattle.rules.proofs.Rule.of_unit.Reads as rule-of-unit-reads

pub rule-counted : Determines 0 rule-counted-kinds.ps rule-counted-kinds.r rule-counted-reads.Asked rule-counted-reads.Learnt
rule-counted κs args asked x y u v p q = (alike p q, refl)

pub rule-allowance : Determines 0 rule-allowance-kinds.ps rule-allowance-kinds.r rule-allowance-reads.Asked rule-allowance-reads.Learnt
rule-allowance κs args asked x y u v p q = (λ i. record { 0 = alike p q i }, refl)

pub rule-left : Determines 0 rule-left-kinds.ps rule-left-kinds.r rule-left-reads.Asked rule-left-reads.Learnt
rule-left κs args asked x y u v p q = (alike p q, refl)

pub rule-filled : Determines 0 rule-filled-kinds.ps rule-filled-kinds.r rule-filled-reads.Asked rule-filled-reads.Learnt
rule-filled κs args asked x y u v p q = (alike p q, refl)

pub rule-reached : Determines 0 rule-reached-kinds.ps rule-reached-kinds.r rule-reached-reads.Asked rule-reached-reads.Learnt
rule-reached κs args asked x y u v p q = (alike p q, refl)

pub limit-added : Determines 0 limit-added-kinds.ps limit-added-kinds.r limit-added-reads.Asked limit-added-reads.Learnt
limit-added κs args asked x y u v p q = (alike p q, refl)

pub amount-number : Determines 0 amount-number-kinds.ps amount-number-kinds.r amount-number-reads.Asked amount-number-reads.Learnt
amount-number κs args asked x y u v p q = (alike p q, refl)

pub limit-amount : Determines 0 limit-amount-kinds.ps limit-amount-kinds.r limit-amount-reads.Asked limit-amount-reads.Learnt
limit-amount κs args asked x y u v p q = (alike p q, refl)

pub limit-ceiling : Determines 0 limit-ceiling-kinds.ps limit-ceiling-kinds.r limit-ceiling-reads.Asked limit-ceiling-reads.Learnt
limit-ceiling κs args asked x y u v p q = (alike p q, refl)

pub rule-accounts : Determines 0 rule-accounts-kinds.ps rule-accounts-kinds.r rule-accounts-reads.Asked rule-accounts-reads.Learnt
rule-accounts κs args asked x y u v p q = (alike p q, refl)

pub rule-counts-for : Determines 0 rule-counts-for-kinds.ps rule-counts-for-kinds.r rule-counts-for-reads.Asked rule-counts-for-reads.Learnt
rule-counts-for κs args asked x y u v p q = (alike p q, refl)

pub rule-place-of : Determines 0 rule-place-of-kinds.ps rule-place-of-kinds.r rule-place-of-reads.Asked rule-place-of-reads.Learnt
rule-place-of κs args asked x y u v p q = (alike p q, refl)

pub rule-of-unit : Determines 0 rule-of-unit-kinds.ps rule-of-unit-kinds.r rule-of-unit-reads.Asked rule-of-unit-reads.Learnt
rule-of-unit κs args asked x y u v p q = (alike p q, refl)
