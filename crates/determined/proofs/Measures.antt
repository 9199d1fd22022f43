-- The contracts of `measures` determine what a call gives: one theorem for each public function. Assumes nothing.
use mathlib.Core.Path.{refl}
use Rattle.measures.specs.Ranges.{dollar_limits, premiums, totals, offers, number_limits}
use Rattle.measures.proofs.Determined.{dollars-determined, ten-thousandths-determined, contracts-determined, executions-determined}
use Rattle.determined.specs.Determines.{Determines}
use Rattle.laws.proofs.One.{alike}
use Rattle.measures.proofs.is_in.Kinds as is-in-kinds
use Rattle.measures.proofs.is_in.Reads as is-in-reads
use Rattle.measures.proofs.Dollars.limit.Kinds as dollars-limit-kinds
use Rattle.measures.proofs.Dollars.limit.Reads as dollars-limit-reads
use Rattle.measures.proofs.Dollars.ten_thousandths.Kinds as dollars-ten-thousandths-kinds
use Rattle.measures.proofs.Dollars.ten_thousandths.Reads as dollars-ten-thousandths-reads
use Rattle.measures.proofs.TenThousandths.premium.Kinds as ten-thousandths-premium-kinds
use Rattle.measures.proofs.TenThousandths.premium.Reads as ten-thousandths-premium-reads
use Rattle.measures.proofs.TenThousandths.total.Kinds as ten-thousandths-total-kinds
use Rattle.measures.proofs.TenThousandths.total.Reads as ten-thousandths-total-reads
use Rattle.measures.proofs.Contracts.offer.Kinds as contracts-offer-kinds
use Rattle.measures.proofs.Contracts.offer.Reads as contracts-offer-reads
use Rattle.measures.proofs.Contracts.limit.Kinds as contracts-limit-kinds
use Rattle.measures.proofs.Contracts.limit.Reads as contracts-limit-reads
use Rattle.measures.proofs.Contracts.total.Kinds as contracts-total-kinds
use Rattle.measures.proofs.Contracts.total.Reads as contracts-total-reads
use Rattle.measures.proofs.Executions.limit.Kinds as executions-limit-kinds
use Rattle.measures.proofs.Executions.limit.Reads as executions-limit-reads
use Rattle.measures.proofs.Executions.total.Kinds as executions-total-kinds
use Rattle.measures.proofs.Executions.total.Reads as executions-total-reads
use Rattle.measures.proofs.TenThousandths.times.Kinds as ten-thousandths-times-kinds
use Rattle.measures.proofs.TenThousandths.times.Reads as ten-thousandths-times-reads
use Rattle.measures.proofs.TenThousandths.plus.Kinds as ten-thousandths-plus-kinds
use Rattle.measures.proofs.TenThousandths.plus.Reads as ten-thousandths-plus-reads
use Rattle.measures.proofs.Contracts.executions.Kinds as contracts-executions-kinds
use Rattle.measures.proofs.Contracts.executions.Reads as contracts-executions-reads
use Rattle.measures.proofs.Contracts.plus.Kinds as contracts-plus-kinds
use Rattle.measures.proofs.Contracts.plus.Reads as contracts-plus-reads
use Rattle.measures.proofs.Executions.plus.Kinds as executions-plus-kinds
use Rattle.measures.proofs.Executions.plus.Reads as executions-plus-reads

pub is-in : Determines 0 is-in-kinds.ps is-in-kinds.r is-in-reads.Asked is-in-reads.Learnt
is-in κs args asked x y u v p q = (alike p q, refl)

pub dollars-limit : Determines 0 dollars-limit-kinds.ps dollars-limit-kinds.r dollars-limit-reads.Asked dollars-limit-reads.Learnt
dollars-limit κs args asked x y u v p q = (alike (dollars-determined dollar_limits _ x p) (dollars-determined dollar_limits _ y q), refl)

pub dollars-ten-thousandths : Determines 0 dollars-ten-thousandths-kinds.ps dollars-ten-thousandths-kinds.r dollars-ten-thousandths-reads.Asked dollars-ten-thousandths-reads.Learnt
dollars-ten-thousandths κs args asked x y u v p q = (λ i. record { 0 = alike p q i }, refl)

pub ten-thousandths-premium : Determines 0 ten-thousandths-premium-kinds.ps ten-thousandths-premium-kinds.r ten-thousandths-premium-reads.Asked ten-thousandths-premium-reads.Learnt
ten-thousandths-premium κs args asked x y u v p q = (alike (ten-thousandths-determined premiums _ x p) (ten-thousandths-determined premiums _ y q), refl)

pub ten-thousandths-total : Determines 0 ten-thousandths-total-kinds.ps ten-thousandths-total-kinds.r ten-thousandths-total-reads.Asked ten-thousandths-total-reads.Learnt
ten-thousandths-total κs args asked x y u v p q = (alike (ten-thousandths-determined totals _ x p) (ten-thousandths-determined totals _ y q), refl)

pub contracts-offer : Determines 0 contracts-offer-kinds.ps contracts-offer-kinds.r contracts-offer-reads.Asked contracts-offer-reads.Learnt
contracts-offer κs args asked x y u v p q = (alike (contracts-determined offers _ x p) (contracts-determined offers _ y q), refl)

pub contracts-limit : Determines 0 contracts-limit-kinds.ps contracts-limit-kinds.r contracts-limit-reads.Asked contracts-limit-reads.Learnt
contracts-limit κs args asked x y u v p q = (alike (contracts-determined number_limits _ x p) (contracts-determined number_limits _ y q), refl)

pub contracts-total : Determines 0 contracts-total-kinds.ps contracts-total-kinds.r contracts-total-reads.Asked contracts-total-reads.Learnt
contracts-total κs args asked x y u v p q = (alike (contracts-determined totals _ x p) (contracts-determined totals _ y q), refl)

pub executions-limit : Determines 0 executions-limit-kinds.ps executions-limit-kinds.r executions-limit-reads.Asked executions-limit-reads.Learnt
executions-limit κs args asked x y u v p q = (alike (executions-determined number_limits _ x p) (executions-determined number_limits _ y q), refl)

pub executions-total : Determines 0 executions-total-kinds.ps executions-total-kinds.r executions-total-reads.Asked executions-total-reads.Learnt
executions-total κs args asked x y u v p q = (alike (executions-determined totals _ x p) (executions-determined totals _ y q), refl)

pub ten-thousandths-times : Determines 0 ten-thousandths-times-kinds.ps ten-thousandths-times-kinds.r ten-thousandths-times-reads.Asked ten-thousandths-times-reads.Learnt
ten-thousandths-times κs args asked x y u v p q = (λ i. record { 0 = alike p q i }, refl)

pub ten-thousandths-plus : Determines 0 ten-thousandths-plus-kinds.ps ten-thousandths-plus-kinds.r ten-thousandths-plus-reads.Asked ten-thousandths-plus-reads.Learnt
ten-thousandths-plus κs args asked x y u v p q = (λ i. record { 0 = alike p q i }, refl)

pub contracts-executions : Determines 0 contracts-executions-kinds.ps contracts-executions-kinds.r contracts-executions-reads.Asked contracts-executions-reads.Learnt
contracts-executions κs args asked x y u v p q = (λ i. record { 0 = alike p q i }, refl)

pub contracts-plus : Determines 0 contracts-plus-kinds.ps contracts-plus-kinds.r contracts-plus-reads.Asked contracts-plus-reads.Learnt
contracts-plus κs args asked x y u v p q = (λ i. record { 0 = alike p q i }, refl)

pub executions-plus : Determines 0 executions-plus-kinds.ps executions-plus-kinds.r executions-plus-reads.Asked executions-plus-reads.Learnt
executions-plus κs args asked x y u v p q = (λ i. record { 0 = alike p q i }, refl)
