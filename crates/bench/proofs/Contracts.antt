-- What the contracts of the calls say, word for word: these are the equations that `Meets` asks of a library, of answers told in numbers. Assumes
-- nothing.
use mathlib.Core.Path.{◌≡◌, refl}
use contract.Lifetimes.{Lfts}
use denote.Triple.Clauses.{AtExit}
use borrow.Fn.Kinds.{Dens, res_t, ended_of}
use Rattle.machine.specs.Calls.{order, lockout, offer, remaining, status, send, report, close}
use Rattle.refusals.specs.Numbers.{numbered}
use Rattle.machine.specs.Answer.{answer_told}
use Rattle.profile.specs.Reading.{reading_told}
use Rattle.calls.specs.Calls.{arm_answer, arm_memory, clear_answer, clear_memory, call_answer, call_memory, text_answer, text_memory}
use Rattle.calls.proofs.arm.Kinds as arm-kinds
use Rattle.calls.proofs.arm.Reads as arm-reads
use Rattle.calls.proofs.clear.Kinds as clear-kinds
use Rattle.calls.proofs.clear.Reads as clear_reads
use Rattle.calls.proofs.text.Kinds as text-kinds
use Rattle.calls.proofs.text.Reads as text-reads
use Rattle.calls.proofs.order.Kinds as order-kinds
use Rattle.calls.proofs.order.Reads as order-reads
use Rattle.calls.proofs.lockout.Kinds as lockout-kinds
use Rattle.calls.proofs.lockout.Reads as lockout-reads
use Rattle.calls.proofs.offer.Kinds as offer-kinds
use Rattle.calls.proofs.offer.Reads as offer-reads
use Rattle.calls.proofs.send.Kinds as send-kinds
use Rattle.calls.proofs.send.Reads as send-reads
use Rattle.calls.proofs.report.Kinds as report-kinds
use Rattle.calls.proofs.report.Reads as report-reads
use Rattle.calls.proofs.close.Kinds as close-kinds
use Rattle.calls.proofs.close.Reads as close-reads
use Rattle.calls.proofs.remaining.Kinds as remaining-kinds
use Rattle.calls.proofs.remaining.Reads as remaining-reads
use Rattle.calls.proofs.status.Kinds as status-kinds
use Rattle.calls.proofs.status.Reads as status-reads

pub arm-says : (κs : Lfts 2) (args : Dens κs arm-kinds.ps) (x : (res_t arm-kinds.r κs).Denot) (e : AtExit (ended_of 2 arm-kinds.ps arm-kinds.r) κs)
    → arm-reads.Learnt κs args x e
    ≡ ((reading_told x ≡ arm_answer args.0.now args.1.0.now) × (e.0.now ≡ arm_memory args.0.now args.1.0.now))
arm-says κs args x e = refl

pub clear-says : (κs : Lfts 1) (args : Dens κs clear-kinds.ps) (x : (res_t clear-kinds.r κs).Denot) (e : AtExit (ended_of 1 clear-kinds.ps clear-kinds.r) κs)
    → clear_reads.Learnt κs args x e ≡ ((numbered x ≡ clear_answer args.0.now) × (e.0.now ≡ clear_memory args.0.now))
clear-says κs args x e = refl

pub text_says : (κs : Lfts 1) (args : Dens κs text-kinds.ps) (x : (res_t text-kinds.r κs).Denot) (e : AtExit (ended_of 1 text-kinds.ps text-kinds.r) κs)
    → text-reads.Learnt κs args x e
    ≡ ((numbered x ≡ text_answer args.0 args.1.0.now) × (e.1.0.now ≡ text_memory args.0 args.1.0.now))
text_says κs args x e = refl

pub order-says : (κs : Lfts 1) (args : Dens κs order-kinds.ps) (x : (res_t order-kinds.r κs).Denot) (e : AtExit (ended_of 1 order-kinds.ps order-kinds.r) κs)
    → order-reads.Learnt κs args x e
    ≡ ((answer_told x ≡ call_answer args.0.now (order args.1.0 args.1.1.0 args.1.1.1.0))
    × (e.0.now ≡ call_memory args.0.now (order args.1.0 args.1.1.0 args.1.1.1.0)))
order-says κs args x e = refl

pub lockout-says : (κs : Lfts 1) (args : Dens κs lockout-kinds.ps) (x : (res_t lockout-kinds.r κs).Denot) (e : AtExit (ended_of 1 lockout-kinds.ps lockout-kinds.r) κs)
    → lockout-reads.Learnt κs args x e
    ≡ ((answer_told x ≡ call_answer args.0.now (lockout args.1.0 args.1.1.0 args.1.1.1.0))
    × (e.0.now ≡ call_memory args.0.now (lockout args.1.0 args.1.1.0 args.1.1.1.0)))
lockout-says κs args x e = refl

pub offer-says : (κs : Lfts 1) (args : Dens κs offer-kinds.ps) (x : (res_t offer-kinds.r κs).Denot) (e : AtExit (ended_of 1 offer-kinds.ps offer-kinds.r) κs)
    → offer-reads.Learnt κs args x e
    ≡ ((answer_told x ≡ call_answer args.0.now (offer args.1.0)) × (e.0.now ≡ call_memory args.0.now (offer args.1.0)))
offer-says κs args x e = refl

pub send-says : (κs : Lfts 1) (args : Dens κs send-kinds.ps) (x : (res_t send-kinds.r κs).Denot) (e : AtExit (ended_of 1 send-kinds.ps send-kinds.r) κs)
    → send-reads.Learnt κs args x e
    ≡ ((answer_told x ≡ call_answer args.0.now (send args.1.0 args.1.1.0 args.1.1.1.0))
    × (e.0.now ≡ call_memory args.0.now (send args.1.0 args.1.1.0 args.1.1.1.0)))
send-says κs args x e = refl

pub report-says : (κs : Lfts 1) (args : Dens κs report-kinds.ps) (x : (res_t report-kinds.r κs).Denot) (e : AtExit (ended_of 1 report-kinds.ps report-kinds.r) κs)
    → report-reads.Learnt κs args x e
    ≡ ((answer_told x ≡ call_answer args.0.now (report args.1.0 args.1.1.0 args.1.1.1.0))
    × (e.0.now ≡ call_memory args.0.now (report args.1.0 args.1.1.0 args.1.1.1.0)))
report-says κs args x e = refl

pub close-says : (κs : Lfts 1) (args : Dens κs close-kinds.ps) (x : (res_t close-kinds.r κs).Denot) (e : AtExit (ended_of 1 close-kinds.ps close-kinds.r) κs)
    → close-reads.Learnt κs args x e
    ≡ ((answer_told x ≡ call_answer args.0.now (close args.1.0 args.1.1.0))
    × (e.0.now ≡ call_memory args.0.now (close args.1.0 args.1.1.0)))
close-says κs args x e = refl

-- Remaining and Status borrow the memory without writing it; the calls' meaning keeps it too (`remaining-keeps`, `status-keeps` of `calls`)
pub remaining-says : (κs : Lfts 1) (args : Dens κs remaining-kinds.ps) (x : (res_t remaining-kinds.r κs).Denot) (e : AtExit (ended_of 1 remaining-kinds.ps remaining-kinds.r) κs)
    → remaining-reads.Learnt κs args x e ≡ (answer_told x ≡ call_answer args.0.now (remaining args.1.0 args.1.1.0 args.1.1.1.0))
remaining-says κs args x e = refl

pub status-says : (κs : Lfts 1) (args : Dens κs status-kinds.ps) (x : (res_t status-kinds.r κs).Denot) (e : AtExit (ended_of 1 status-kinds.ps status-kinds.r) κs)
    → status-reads.Learnt κs args x e ≡ (answer_told x ≡ call_answer args.0.now status)
status-says κs args x e = refl
