-- The contracts of `calls` determine what a call gives: one theorem for each public function. Assumes nothing.
use mathlib.Core.Path.{refl}
use Rattle.determined.specs.Determines.{Determines}
use Rattle.laws.proofs.One.{alike}
use Rattle.profile.proofs.Once.{one_reading}
use Rattle.refusals.proofs.Once.{one_numbered, one_tested}
use Rattle.machine.proofs.Told.{one_accepted, one_told}
use Rattle.calls.proofs.arm.Kinds as arm-kinds
use Rattle.calls.proofs.arm.Reads as arm-reads
use Rattle.calls.proofs.clear.Kinds as clear-kinds
use Rattle.calls.proofs.clear.Reads as clear-reads
use Rattle.calls.proofs.memory_refusal.Kinds as memory-refusal-kinds
use Rattle.calls.proofs.memory_refusal.Reads as memory-refusal-reads
use Rattle.calls.proofs.status.Kinds as status-kinds
use Rattle.calls.proofs.status.Reads as status-reads
use Rattle.calls.proofs.order.Kinds as order-kinds
use Rattle.calls.proofs.order.Reads as order-reads
use Rattle.calls.proofs.lockout.Kinds as lockout-kinds
use Rattle.calls.proofs.lockout.Reads as lockout-reads
use Rattle.calls.proofs.offer.Kinds as offer-kinds
use Rattle.calls.proofs.offer.Reads as offer-reads
use Rattle.calls.proofs.remaining.Kinds as remaining-kinds
use Rattle.calls.proofs.remaining.Reads as remaining-reads
use Rattle.calls.proofs.text.Kinds as text-kinds
use Rattle.calls.proofs.text.Reads as text-reads
use Rattle.calls.proofs.send.Kinds as send-kinds
use Rattle.calls.proofs.send.Reads as send-reads
use Rattle.calls.proofs.report.Kinds as report-kinds
use Rattle.calls.proofs.report.Reads as report-reads
use Rattle.calls.proofs.close.Kinds as close-kinds
use Rattle.calls.proofs.close.Reads as close-reads
use Rattle.calls.proofs.tested.status.Kinds as tested-status-kinds
use Rattle.calls.proofs.tested.status.Reads as tested-status-reads
use Rattle.calls.proofs.tested.order.Kinds as tested-order-kinds
use Rattle.calls.proofs.tested.order.Reads as tested-order-reads
use Rattle.calls.proofs.tested.lockout.Kinds as tested-lockout-kinds
use Rattle.calls.proofs.tested.lockout.Reads as tested-lockout-reads
use Rattle.calls.proofs.tested.offer.Kinds as tested-offer-kinds
use Rattle.calls.proofs.tested.offer.Reads as tested-offer-reads
use Rattle.calls.proofs.tested.send.Kinds as tested-send-kinds
use Rattle.calls.proofs.tested.send.Reads as tested-send-reads
use Rattle.calls.proofs.tested.report.Kinds as tested-report-kinds
use Rattle.calls.proofs.tested.report.Reads as tested-report-reads
use Rattle.calls.proofs.tested.close.Kinds as tested-close-kinds
use Rattle.calls.proofs.tested.close.Reads as tested-close-reads
use Rattle.calls.proofs.tested.remaining.Kinds as tested-remaining-kinds
use Rattle.calls.proofs.tested.remaining.Reads as tested-remaining-reads
use Rattle.calls.proofs.tested.sent.Kinds as sent-kinds
use Rattle.calls.proofs.tested.sent.Reads as sent-reads
use Rattle.calls.proofs.tested.came_back.Kinds as came-back-kinds
use Rattle.calls.proofs.tested.came_back.Reads as came-back-reads
use Rattle.calls.proofs.refusing.bad_time.Kinds as bad-time-kinds
use Rattle.calls.proofs.refusing.bad_time.Reads as bad-time-reads
use Rattle.calls.proofs.refusing.send_refusal.Kinds as send-refusal-kinds
use Rattle.calls.proofs.refusing.send_refusal.Reads as send-refusal-reads
use Rattle.calls.proofs.refusing.report_refusal.Kinds as report-refusal-kinds
use Rattle.calls.proofs.refusing.report_refusal.Reads as report-refusal-reads

pub arm : Determines 2 arm-kinds.ps arm-kinds.r arm-reads.Asked arm-reads.Learnt
arm κs args asked x y u v p q = (one_reading x y (alike p.0 q.0), λ i. (alike p.1 q.1 i, v.1))

pub clear : Determines 1 clear-kinds.ps clear-kinds.r clear-reads.Asked clear-reads.Learnt
clear κs args asked x y u v p q = (one_numbered x y (alike p.0 q.0), λ i. (alike p.1 q.1 i, v.1))

pub memory-refusal : Determines 1 memory-refusal-kinds.ps memory-refusal-kinds.r memory-refusal-reads.Asked memory-refusal-reads.Learnt
memory-refusal κs args asked x y u v p q = (one_tested x y (alike p q), refl)

pub status : Determines 1 status-kinds.ps status-kinds.r status-reads.Asked status-reads.Learnt
status κs args asked x y u v p q = (one_told x y (alike p q), refl)

pub order : Determines 1 order-kinds.ps order-kinds.r order-reads.Asked order-reads.Learnt
order κs args asked x y u v p q = (one_told x y (alike p.0 q.0), λ i. (alike p.1 q.1 i, v.1))

pub lockout : Determines 1 lockout-kinds.ps lockout-kinds.r lockout-reads.Asked lockout-reads.Learnt
lockout κs args asked x y u v p q = (one_told x y (alike p.0 q.0), λ i. (alike p.1 q.1 i, v.1))

pub offer : Determines 1 offer-kinds.ps offer-kinds.r offer-reads.Asked offer-reads.Learnt
offer κs args asked x y u v p q = (one_told x y (alike p.0 q.0), λ i. (alike p.1 q.1 i, v.1))

pub remaining : Determines 1 remaining-kinds.ps remaining-kinds.r remaining-reads.Asked remaining-reads.Learnt
remaining κs args asked x y u v p q = (one_told x y (alike p q), refl)

pub text : Determines 1 text-kinds.ps text-kinds.r text-reads.Asked text-reads.Learnt
text κs args asked x y u v p q = (one_numbered x y (alike p.0 q.0), λ i. (v.0, (alike p.1 q.1 i, v.1.1)))

pub send : Determines 1 send-kinds.ps send-kinds.r send-reads.Asked send-reads.Learnt
send κs args asked x y u v p q = (one_told x y (alike p.0 q.0), λ i. (alike p.1 q.1 i, v.1))

pub report : Determines 1 report-kinds.ps report-kinds.r report-reads.Asked report-reads.Learnt
report κs args asked x y u v p q = (one_told x y (alike p.0 q.0), λ i. (alike p.1 q.1 i, v.1))

pub close : Determines 1 close-kinds.ps close-kinds.r close-reads.Asked close-reads.Learnt
close κs args asked x y u v p q = (one_told x y (alike p.0 q.0), λ i. (alike p.1 q.1 i, v.1))

pub tested-status : Determines 1 tested-status-kinds.ps tested-status-kinds.r tested-status-reads.Asked tested-status-reads.Learnt
tested-status κs args asked x y u v p q = (one_accepted x y (alike p q), refl)

pub tested-order : Determines 1 tested-order-kinds.ps tested-order-kinds.r tested-order-reads.Asked tested-order-reads.Learnt
tested-order κs args asked x y u v p q = (one_told x y (alike p.0 q.0), λ i. (alike p.1 q.1 i, v.1))

pub tested-lockout : Determines 1 tested-lockout-kinds.ps tested-lockout-kinds.r tested-lockout-reads.Asked tested-lockout-reads.Learnt
tested-lockout κs args asked x y u v p q = (one_told x y (alike p.0 q.0), λ i. (alike p.1 q.1 i, v.1))

pub tested-offer : Determines 1 tested-offer-kinds.ps tested-offer-kinds.r tested-offer-reads.Asked tested-offer-reads.Learnt
tested-offer κs args asked x y u v p q = (one_told x y (alike p.0 q.0), λ i. (alike p.1 q.1 i, v.1))

pub tested-send : Determines 1 tested-send-kinds.ps tested-send-kinds.r tested-send-reads.Asked tested-send-reads.Learnt
tested-send κs args asked x y u v p q = (one_told x y (alike p.0 q.0), λ i. (alike p.1 q.1 i, v.1))

pub tested-report : Determines 1 tested-report-kinds.ps tested-report-kinds.r tested-report-reads.Asked tested-report-reads.Learnt
tested-report κs args asked x y u v p q = (one_told x y (alike p.0 q.0), λ i. (alike p.1 q.1 i, v.1))

pub tested-close : Determines 1 tested-close-kinds.ps tested-close-kinds.r tested-close-reads.Asked tested-close-reads.Learnt
tested-close κs args asked x y u v p q = (one_told x y (alike p.0 q.0), λ i. (alike p.1 q.1 i, v.1))

pub tested-remaining : Determines 1 tested-remaining-kinds.ps tested-remaining-kinds.r tested-remaining-reads.Asked tested-remaining-reads.Learnt
tested-remaining κs args asked x y u v p q = (one_told x y (alike p q), refl)

pub sent : Determines 1 sent-kinds.ps sent-kinds.r sent-reads.Asked sent-reads.Learnt
sent κs args asked x y u v p q = (one_accepted x y (alike p.0 q.0), λ i. (alike p.1 q.1 i, v.1))

pub came-back : Determines 1 came-back-kinds.ps came-back-kinds.r came-back-reads.Asked came-back-reads.Learnt
came-back κs args asked x y u v p q = (one_accepted x y (alike p.0 q.0), λ i. (alike p.1 q.1 i, v.1))

pub bad-time : Determines 0 bad-time-kinds.ps bad-time-kinds.r bad-time-reads.Asked bad-time-reads.Learnt
bad-time κs args asked x y u v p q = (alike p q, refl)

pub send-refusal : Determines 1 send-refusal-kinds.ps send-refusal-kinds.r send-refusal-reads.Asked send-refusal-reads.Learnt
send-refusal κs args asked x y u v p q = (one_tested x y (alike p q), refl)

pub report-refusal : Determines 1 report-refusal-kinds.ps report-refusal-kinds.r report-refusal-reads.Asked report-refusal-reads.Learnt
report-refusal κs args asked x y u v p q = (one_tested x y (alike p q), refl)
