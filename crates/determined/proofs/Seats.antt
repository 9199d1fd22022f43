-- The contracts of `seats` determine what a call gives: one theorem for each public function. Assumes nothing.
use Prim.Native.Nat.{ℕ}
use mathlib.Core.Path.{refl}
use mathlib.Core.List.{List}
use Rattle.determined.specs.Determines.{Determines, DeterminesSeen}
use Rattle.laws.proofs.One.{alike}
use Rattle.profile.proofs.Once.{one_reading}
use Rattle.seats.proofs.Told.{one_called}
use Rattle.refusals.proofs.Once.{one_numbered, one_tested}
use Rattle.machine.proofs.Told.{one_told}
use Rattle.seats.proofs.is_sound.Kinds as is-sound-kinds
use Rattle.seats.proofs.is_sound.Reads as is-sound-reads
use Rattle.seats.proofs.refusal.Kinds as refusal-kinds
use Rattle.seats.proofs.refusal.Reads as refusal-reads
use Rattle.seats.proofs.part.Kinds as part-kinds
use Rattle.seats.proofs.part.Reads as part-reads
use Rattle.seats.proofs.places_for.Kinds as places-for-kinds
use Rattle.seats.proofs.places_for.Reads as places-for-reads
use Rattle.seats.proofs.log_use.Kinds as log-use-kinds
use Rattle.seats.proofs.log_use.Reads as log-use-reads
use Rattle.seats.proofs.arm.Kinds as arm-kinds
use Rattle.seats.proofs.arm.Reads as arm-reads
use Rattle.seats.proofs.status.Kinds as status-kinds
use Rattle.seats.proofs.status.Reads as status-reads
use Rattle.seats.proofs.lockout.Kinds as lockout-kinds
use Rattle.seats.proofs.lockout.Reads as lockout-reads
use Rattle.seats.proofs.offer.Kinds as offer-kinds
use Rattle.seats.proofs.offer.Reads as offer-reads
use Rattle.seats.proofs.send.Kinds as send-kinds
use Rattle.seats.proofs.send.Reads as send-reads
use Rattle.seats.proofs.report.Kinds as report-kinds
use Rattle.seats.proofs.report.Reads as report-reads
use Rattle.seats.proofs.order.Kinds as order-kinds
use Rattle.seats.proofs.order.Reads as order-reads
use Rattle.seats.proofs.close.Kinds as close-kinds
use Rattle.seats.proofs.close.Reads as close-reads
use Rattle.seats.proofs.remaining.Kinds as remaining-kinds
use Rattle.seats.proofs.remaining.Reads as remaining-reads
use Rattle.seats.proofs.clear_firm.Kinds as clear-firm-kinds
use Rattle.seats.proofs.clear_firm.Reads as clear-firm-reads
use Rattle.seats.proofs.clear.Kinds as clear-kinds
use Rattle.seats.proofs.clear.Reads as clear-reads
use Rattle.seats.proofs.offers.own_offer.Kinds as own-offer-kinds
use Rattle.seats.proofs.offers.own_offer.Reads as own-offer-reads
use Rattle.seats.proofs.sends.own_send.Kinds as own-send-kinds
use Rattle.seats.proofs.sends.own_send.Reads as own-send-reads
use Rattle.seats.proofs.sends.own_report.Kinds as own-report-kinds
use Rattle.seats.proofs.sends.own_report.Reads as own-report-reads

pub is-sound : Determines 1 is-sound-kinds.ps is-sound-kinds.r is-sound-reads.Asked is-sound-reads.Learnt
is-sound κs args asked x y u v p q = (alike p q, refl)

pub refusal : Determines 1 refusal-kinds.ps refusal-kinds.r refusal-reads.Asked refusal-reads.Learnt
refusal κs args asked x y u v p q = (one_tested x y (alike p q), refl)

pub part : DeterminesSeen 1 part-kinds.ps part-kinds.r (λ κs. List ℕ) (λ κs part. part.now) part-reads.Asked part-reads.Learnt
part κs args asked x y u v p q = (alike p q, refl)

pub places-for : Determines 1 places-for-kinds.ps places-for-kinds.r places-for-reads.Asked places-for-reads.Learnt
places-for κs args asked x y u v p q = (alike p q, refl)

pub log-use : Determines 1 log-use-kinds.ps log-use-kinds.r log-use-reads.Asked log-use-reads.Learnt
log-use κs args asked x y u v p q = (one_numbered x y (alike p q), refl)

pub arm : Determines 2 arm-kinds.ps arm-kinds.r arm-reads.Asked arm-reads.Learnt
arm κs args asked x y u v p q = (one_reading x y (alike p.0 q.0), λ i. (alike p.1 q.1 i, v.1))

pub status : Determines 1 status-kinds.ps status-kinds.r status-reads.Asked status-reads.Learnt
status κs args asked x y u v p q = (one_told x y (alike p q), refl)

pub lockout : Determines 1 lockout-kinds.ps lockout-kinds.r lockout-reads.Asked lockout-reads.Learnt
lockout κs args asked x y u v p q = (one_told x y (alike p.0 q.0), λ i. (alike p.1 q.1 i, v.1))

pub offer : Determines 1 offer-kinds.ps offer-kinds.r offer-reads.Asked offer-reads.Learnt
offer κs args asked x y u v p q = (one_told x y (alike p.0 q.0), λ i. (alike p.1 q.1 i, v.1))

pub send : Determines 1 send-kinds.ps send-kinds.r send-reads.Asked send-reads.Learnt
send κs args asked x y u v p q = (one_told x y (alike p.0 q.0), λ i. (alike p.1 q.1 i, v.1))

pub report : Determines 1 report-kinds.ps report-kinds.r report-reads.Asked report-reads.Learnt
report κs args asked x y u v p q = (one_told x y (alike p.0 q.0), λ i. (alike p.1 q.1 i, v.1))

pub order : Determines 1 order-kinds.ps order-kinds.r order-reads.Asked order-reads.Learnt
order κs args asked x y u v p q = (one_told x y (alike p.0 q.0), λ i. (alike p.1 q.1 i, v.1))

pub close : Determines 1 close-kinds.ps close-kinds.r close-reads.Asked close-reads.Learnt
close κs args asked x y u v p q = (one_told x y (alike p.0 q.0), λ i. (alike p.1 q.1 i, v.1))

pub remaining : Determines 1 remaining-kinds.ps remaining-kinds.r remaining-reads.Asked remaining-reads.Learnt
remaining κs args asked x y u v p q = (one_told x y (alike p q), refl)

pub clear-firm : Determines 1 clear-firm-kinds.ps clear-firm-kinds.r clear-firm-reads.Asked clear-firm-reads.Learnt
clear-firm κs args asked x y u v p q = (one_numbered x y (alike p.0 q.0), λ i. (alike p.1 q.1 i, v.1))

pub clear : Determines 1 clear-kinds.ps clear-kinds.r clear-reads.Asked clear-reads.Learnt
clear κs args asked x y u v p q = (one_numbered x y (alike p.0 q.0), λ i. (alike p.1 q.1 i, v.1))

pub own-offer : Determines 1 own-offer-kinds.ps own-offer-kinds.r own-offer-reads.Asked own-offer-reads.Learnt
own-offer κs args asked x y u v p q =
    (one_called x y (alike p.answer q.answer) (alike p.joined q.joined), λ i. (alike p.memory q.memory i, v.1))

pub own-send : Determines 1 own-send-kinds.ps own-send-kinds.r own-send-reads.Asked own-send-reads.Learnt
own-send κs args asked x y u v p q = (one_told x y (alike p.answer q.answer), λ i. (alike p.memory q.memory i, v.1))

pub own-report : Determines 1 own-report-kinds.ps own-report-kinds.r own-report-reads.Asked own-report-reads.Learnt
own-report κs args asked x y u v p q =
    (one_called x y (alike (p 0).answer (q 0).answer) (alike (p 0).joined (q 0).joined), λ i. (alike (p 0).memory (q 0).memory i, v.1))
