-- The contracts of `capi` determine what a call gives: one theorem for each public function. Assumes nothing.
use mathlib.Core.Path.{refl}
use Rattle.determined.specs.Determines.{Determines}
use Rattle.laws.proofs.One.{alike}
use Rattle.capi.proofs.mbrumzheg_arm.Kinds as mbrumzheg-arm-kinds
use Rattle.capi.proofs.mbrumzheg_arm.Reads as mbrumzheg-arm-reads
use Rattle.capi.proofs.mbrumzheg_clear.Kinds as mbrumzheg-clear-kinds
use Rattle.capi.proofs.mbrumzheg_clear.Reads as mbrumzheg-clear-reads
use Rattle.capi.proofs.mbrumzheg_status.Kinds as mbrumzheg-status-kinds
use Rattle.capi.proofs.mbrumzheg_status.Reads as mbrumzheg-status-reads
use Rattle.capi.proofs.mbrumzheg_text.Kinds as mbrumzheg-text-kinds
use Rattle.capi.proofs.mbrumzheg_text.Reads as mbrumzheg-text-reads
use Rattle.capi.proofs.told.mbrumzheg_root_named.Kinds as mbrumzheg-root-named-kinds
use Rattle.capi.proofs.told.mbrumzheg_root_named.Reads as mbrumzheg-root-named-reads
use Rattle.capi.proofs.told.mbrumzheg_root_name.Kinds as mbrumzheg-root-name-kinds
use Rattle.capi.proofs.told.mbrumzheg_root_name.Reads as mbrumzheg-root-name-reads
use Rattle.capi.proofs.told.mbrumzheg_rule.Kinds as mbrumzheg-rule-kinds
use Rattle.capi.proofs.told.mbrumzheg_rule.Reads as mbrumzheg-rule-reads
use Rattle.capi.proofs.mbrumzheg_order.Kinds as mbrumzheg-order-kinds
use Rattle.capi.proofs.mbrumzheg_order.Reads as mbrumzheg-order-reads
use Rattle.capi.proofs.mbrumzheg_offer.Kinds as mbrumzheg-offer-kinds
use Rattle.capi.proofs.mbrumzheg_offer.Reads as mbrumzheg-offer-reads
use Rattle.capi.proofs.mbrumzheg_lockout.Kinds as mbrumzheg-lockout-kinds
use Rattle.capi.proofs.mbrumzheg_lockout.Reads as mbrumzheg-lockout-reads
use Rattle.capi.proofs.mbrumzheg_remaining.Kinds as mbrumzheg-remaining-kinds
use Rattle.capi.proofs.mbrumzheg_remaining.Reads as mbrumzheg-remaining-reads
use Rattle.capi.proofs.events.mbrumzheg_read_record.Kinds as mbrumzheg-read-record-kinds
use Rattle.capi.proofs.events.mbrumzheg_read_record.Reads as mbrumzheg-read-record-reads
use Rattle.capi.proofs.events.mbrumzheg_write_record.Kinds as mbrumzheg-write-record-kinds
use Rattle.capi.proofs.events.mbrumzheg_write_record.Reads as mbrumzheg-write-record-reads
use Rattle.capi.proofs.told.mbrumzheg_profile.Kinds as mbrumzheg-profile-kinds
use Rattle.capi.proofs.told.mbrumzheg_profile.Reads as mbrumzheg-profile-reads
use Rattle.capi.proofs.mbrumzheg_send.Kinds as mbrumzheg-send-kinds
use Rattle.capi.proofs.mbrumzheg_send.Reads as mbrumzheg-send-reads
use Rattle.capi.proofs.mbrumzheg_report.Kinds as mbrumzheg-report-kinds
use Rattle.capi.proofs.mbrumzheg_report.Reads as mbrumzheg-report-reads
use Rattle.capi.proofs.mbrumzheg_close.Kinds as mbrumzheg-close-kinds
use Rattle.capi.proofs.mbrumzheg_close.Reads as mbrumzheg-close-reads
use Rattle.capi.proofs.events.mbrumzheg_read_record16.Kinds as mbrumzheg-read-record16-kinds
use Rattle.capi.proofs.events.mbrumzheg_read_record16.Reads as mbrumzheg-read-record16-reads
use Rattle.capi.proofs.events.mbrumzheg_write_record16.Kinds as mbrumzheg-write-record16-kinds
use Rattle.capi.proofs.events.mbrumzheg_write_record16.Reads as mbrumzheg-write-record16-reads
use Rattle.capi.proofs.events.mbrumzheg_widen.Kinds as mbrumzheg-widen-kinds
use Rattle.capi.proofs.events.mbrumzheg_widen.Reads as mbrumzheg-widen-reads
use Rattle.capi.proofs.events.mbrumzheg_narrow.Kinds as mbrumzheg-narrow-kinds
use Rattle.capi.proofs.events.mbrumzheg_narrow.Reads as mbrumzheg-narrow-reads
use Rattle.capi.proofs.accounts.mbrumzheg_accounted_order.Kinds as mbrumzheg-accounted-order-kinds
use Rattle.capi.proofs.accounts.mbrumzheg_accounted_order.Reads as mbrumzheg-accounted-order-reads
use Rattle.capi.proofs.accounts.mbrumzheg_accounted_lockout.Kinds as mbrumzheg-accounted-lockout-kinds
use Rattle.capi.proofs.accounts.mbrumzheg_accounted_lockout.Reads as mbrumzheg-accounted-lockout-reads
use Rattle.capi.proofs.accounts.mbrumzheg_accounted_offer.Kinds as mbrumzheg-accounted-offer-kinds
use Rattle.capi.proofs.accounts.mbrumzheg_accounted_offer.Reads as mbrumzheg-accounted-offer-reads
use Rattle.capi.proofs.accounts.mbrumzheg_accounted_send.Kinds as mbrumzheg-accounted-send-kinds
use Rattle.capi.proofs.accounts.mbrumzheg_accounted_send.Reads as mbrumzheg-accounted-send-reads
use Rattle.capi.proofs.accounts.mbrumzheg_accounted_report.Kinds as mbrumzheg-accounted-report-kinds
use Rattle.capi.proofs.accounts.mbrumzheg_accounted_report.Reads as mbrumzheg-accounted-report-reads
use Rattle.capi.proofs.accounts.mbrumzheg_accounted_close.Kinds as mbrumzheg-accounted-close-kinds
use Rattle.capi.proofs.accounts.mbrumzheg_accounted_close.Reads as mbrumzheg-accounted-close-reads

pub mbrumzheg-arm : Determines 3 mbrumzheg-arm-kinds.ps mbrumzheg-arm-kinds.r mbrumzheg-arm-reads.Asked mbrumzheg-arm-reads.Learnt
mbrumzheg-arm κs args asked x y u v p q = (refl, λ i. (alike p.0 q.0 i, (v.1.0, (alike p.1 q.1 i, v.1.1.1))))

pub mbrumzheg-clear : Determines 2 mbrumzheg-clear-kinds.ps mbrumzheg-clear-kinds.r mbrumzheg-clear-reads.Asked mbrumzheg-clear-reads.Learnt
mbrumzheg-clear κs args asked x y u v p q = (refl, λ i. (alike p.0 q.0 i, (alike p.1 q.1 i, v.1.1)))

pub mbrumzheg-status : Determines 2 mbrumzheg-status-kinds.ps mbrumzheg-status-kinds.r mbrumzheg-status-reads.Asked mbrumzheg-status-reads.Learnt
mbrumzheg-status κs args asked x y u v p q = (refl, λ i. (v.0, (alike p q i, v.1.1)))

pub mbrumzheg-text : Determines 2 mbrumzheg-text-kinds.ps mbrumzheg-text-kinds.r mbrumzheg-text-reads.Asked mbrumzheg-text-reads.Learnt
mbrumzheg-text κs args asked x y u v p q = (refl, λ i. (v.0, (alike p.0 q.0 i, (alike p.1 q.1 i, v.1.1.1))))

pub mbrumzheg-root-named : Determines 3 mbrumzheg-root-named-kinds.ps mbrumzheg-root-named-kinds.r mbrumzheg-root-named-reads.Asked mbrumzheg-root-named-reads.Learnt
mbrumzheg-root-named κs args asked x y u v p q = (refl, λ i. (v.0, (v.1.0, (alike p q i, v.1.1.1))))

pub mbrumzheg-root-name : Determines 3 mbrumzheg-root-name-kinds.ps mbrumzheg-root-name-kinds.r mbrumzheg-root-name-reads.Asked mbrumzheg-root-name-reads.Learnt
mbrumzheg-root-name κs args asked x y u v p q = (refl, λ i. (v.0, (v.1.0, (alike p.0 q.0 i, (alike p.1 q.1 i, v.1.1.1.1)))))

pub mbrumzheg-rule : Determines 2 mbrumzheg-rule-kinds.ps mbrumzheg-rule-kinds.r mbrumzheg-rule-reads.Asked mbrumzheg-rule-reads.Learnt
mbrumzheg-rule κs args asked x y u v p q = (refl, λ i. (v.0, (v.1.0, (alike p q i, v.1.1.1))))

pub mbrumzheg-order : Determines 2 mbrumzheg-order-kinds.ps mbrumzheg-order-kinds.r mbrumzheg-order-reads.Asked mbrumzheg-order-reads.Learnt
mbrumzheg-order κs args asked x y u v p q = (refl, λ i. (alike p.0 q.0 i, (v.1.0, (v.1.1.0, (v.1.1.1.0, (alike p.1 q.1 i, v.1.1.1.1.1))))))

pub mbrumzheg-offer : Determines 2 mbrumzheg-offer-kinds.ps mbrumzheg-offer-kinds.r mbrumzheg-offer-reads.Asked mbrumzheg-offer-reads.Learnt
mbrumzheg-offer κs args asked x y u v p q = (refl, λ i. (alike p.0 q.0 i, (v.1.0, (v.1.1.0, (v.1.1.1.0, (v.1.1.1.1.0, (v.1.1.1.1.1.0, (alike p.1 q.1 i, v.1.1.1.1.1.1.1))))))))

pub mbrumzheg-lockout : Determines 2 mbrumzheg-lockout-kinds.ps mbrumzheg-lockout-kinds.r mbrumzheg-lockout-reads.Asked mbrumzheg-lockout-reads.Learnt
mbrumzheg-lockout κs args asked x y u v p q = (refl, λ i. (alike p.0 q.0 i, (v.1.0, (v.1.1.0, (v.1.1.1.0, (alike p.1 q.1 i, v.1.1.1.1.1))))))

pub mbrumzheg-remaining : Determines 2 mbrumzheg-remaining-kinds.ps mbrumzheg-remaining-kinds.r mbrumzheg-remaining-reads.Asked mbrumzheg-remaining-reads.Learnt
mbrumzheg-remaining κs args asked x y u v p q = (refl, λ i. (v.0, (v.1.0, (v.1.1.0, (v.1.1.1.0, (alike p q i, v.1.1.1.1.1))))))

pub mbrumzheg-read-record : Determines 2 mbrumzheg-read-record-kinds.ps mbrumzheg-read-record-kinds.r mbrumzheg-read-record-reads.Asked mbrumzheg-read-record-reads.Learnt
mbrumzheg-read-record κs args asked x y u v p q = (refl, λ i. (v.0, (alike p q i, v.1.1)))

pub mbrumzheg-write-record : Determines 2 mbrumzheg-write-record-kinds.ps mbrumzheg-write-record-kinds.r mbrumzheg-write-record-reads.Asked mbrumzheg-write-record-reads.Learnt
mbrumzheg-write-record κs args asked x y u v p q = (refl, λ i. (v.0, (v.1.0, (v.1.1.0, (v.1.1.1.0, (v.1.1.1.1.0, (v.1.1.1.1.1.0, (v.1.1.1.1.1.1.0, (v.1.1.1.1.1.1.1.0, (alike p.0 q.0 i, (alike p.1 q.1 i, v.1.1.1.1.1.1.1.1.1.1)))))))))))

pub mbrumzheg-profile : Determines 3 mbrumzheg-profile-kinds.ps mbrumzheg-profile-kinds.r mbrumzheg-profile-reads.Asked mbrumzheg-profile-reads.Learnt
mbrumzheg-profile κs args asked x y u v p q = (refl, λ i. (v.0, (alike p.0 q.0 i, (alike p.1 q.1 i, v.1.1.1))))

pub mbrumzheg-send : Determines 2 mbrumzheg-send-kinds.ps mbrumzheg-send-kinds.r mbrumzheg-send-reads.Asked mbrumzheg-send-reads.Learnt
mbrumzheg-send κs args asked x y u v p q = (refl, λ i. (alike p.0 q.0 i, (v.1.0, (v.1.1.0, (v.1.1.1.0, (v.1.1.1.1.0, (v.1.1.1.1.1.0, (v.1.1.1.1.1.1.0, (v.1.1.1.1.1.1.1.0, (alike p.1 q.1 i, v.1.1.1.1.1.1.1.1.1))))))))))

pub mbrumzheg-report : Determines 2 mbrumzheg-report-kinds.ps mbrumzheg-report-kinds.r mbrumzheg-report-reads.Asked mbrumzheg-report-reads.Learnt
mbrumzheg-report κs args asked x y u v p q = (refl, λ i. (alike p.0 q.0 i, (v.1.0, (v.1.1.0, (v.1.1.1.0, (alike p.1 q.1 i, v.1.1.1.1.1))))))

pub mbrumzheg-close : Determines 2 mbrumzheg-close-kinds.ps mbrumzheg-close-kinds.r mbrumzheg-close-reads.Asked mbrumzheg-close-reads.Learnt
mbrumzheg-close κs args asked x y u v p q = (refl, λ i. (alike p.0 q.0 i, (v.1.0, (v.1.1.0, (alike p.1 q.1 i, v.1.1.1.1)))))

pub mbrumzheg-read-record16 : Determines 2 mbrumzheg-read-record16-kinds.ps mbrumzheg-read-record16-kinds.r mbrumzheg-read-record16-reads.Asked mbrumzheg-read-record16-reads.Learnt
mbrumzheg-read-record16 κs args asked x y u v p q = (refl, λ i. (v.0, (alike p q i, v.1.1)))

pub mbrumzheg-write-record16 : Determines 2 mbrumzheg-write-record16-kinds.ps mbrumzheg-write-record16-kinds.r mbrumzheg-write-record16-reads.Asked mbrumzheg-write-record16-reads.Learnt
mbrumzheg-write-record16 κs args asked x y u v p q = (refl, λ i. (v.0, (v.1.0, (v.1.1.0, (v.1.1.1.0, (v.1.1.1.1.0, (v.1.1.1.1.1.0, (v.1.1.1.1.1.1.0, (v.1.1.1.1.1.1.1.0, (v.1.1.1.1.1.1.1.1.0, (v.1.1.1.1.1.1.1.1.1.0, (alike p.0 q.0 i, (alike p.1 q.1 i, v.1.1.1.1.1.1.1.1.1.1.1.1)))))))))))))

pub mbrumzheg-widen : Determines 3 mbrumzheg-widen-kinds.ps mbrumzheg-widen-kinds.r mbrumzheg-widen-reads.Asked mbrumzheg-widen-reads.Learnt
mbrumzheg-widen κs args asked x y u v p q = (refl, λ i. (v.0, (alike p.0 q.0 i, (alike p.1 q.1 i, v.1.1.1))))

pub mbrumzheg-narrow : Determines 3 mbrumzheg-narrow-kinds.ps mbrumzheg-narrow-kinds.r mbrumzheg-narrow-reads.Asked mbrumzheg-narrow-reads.Learnt
mbrumzheg-narrow κs args asked x y u v p q = (refl, λ i. (v.0, (alike p.0 q.0 i, (alike p.1 q.1 i, v.1.1.1))))

pub mbrumzheg-accounted-order : Determines 3 mbrumzheg-accounted-order-kinds.ps mbrumzheg-accounted-order-kinds.r mbrumzheg-accounted-order-reads.Asked mbrumzheg-accounted-order-reads.Learnt
mbrumzheg-accounted-order κs args asked x y u v p q = (refl, λ i. (alike p.0 q.0 i, (alike p.1.0 q.1.0 i, (v.1.1.0, (v.1.1.1.0, (v.1.1.1.1.0, (alike p.1.1 q.1.1 i, v.1.1.1.1.1.1)))))))

pub mbrumzheg-accounted-lockout : Determines 3 mbrumzheg-accounted-lockout-kinds.ps mbrumzheg-accounted-lockout-kinds.r mbrumzheg-accounted-lockout-reads.Asked mbrumzheg-accounted-lockout-reads.Learnt
mbrumzheg-accounted-lockout κs args asked x y u v p q = (refl, λ i. (alike p.0 q.0 i, (alike p.1.0 q.1.0 i, (v.1.1.0, (v.1.1.1.0, (v.1.1.1.1.0, (alike p.1.1 q.1.1 i, v.1.1.1.1.1.1)))))))

pub mbrumzheg-accounted-offer : Determines 3 mbrumzheg-accounted-offer-kinds.ps mbrumzheg-accounted-offer-kinds.r mbrumzheg-accounted-offer-reads.Asked mbrumzheg-accounted-offer-reads.Learnt
mbrumzheg-accounted-offer κs args asked x y u v p q = (refl, λ i. (alike p.0 q.0 i, (alike p.1.0 q.1.0 i, (v.1.1.0, (v.1.1.1.0, (v.1.1.1.1.0, (v.1.1.1.1.1.0, (v.1.1.1.1.1.1.0, (alike p.1.1 q.1.1 i, v.1.1.1.1.1.1.1.1)))))))))

pub mbrumzheg-accounted-send : Determines 3 mbrumzheg-accounted-send-kinds.ps mbrumzheg-accounted-send-kinds.r mbrumzheg-accounted-send-reads.Asked mbrumzheg-accounted-send-reads.Learnt
mbrumzheg-accounted-send κs args asked x y u v p q = (refl, λ i. (alike p.0 q.0 i, (alike p.1.0 q.1.0 i, (v.1.1.0, (v.1.1.1.0, (v.1.1.1.1.0, (v.1.1.1.1.1.0, (v.1.1.1.1.1.1.0, (v.1.1.1.1.1.1.1.0, (v.1.1.1.1.1.1.1.1.0, (alike p.1.1 q.1.1 i, v.1.1.1.1.1.1.1.1.1.1)))))))))))

pub mbrumzheg-accounted-report : Determines 3 mbrumzheg-accounted-report-kinds.ps mbrumzheg-accounted-report-kinds.r mbrumzheg-accounted-report-reads.Asked mbrumzheg-accounted-report-reads.Learnt
mbrumzheg-accounted-report κs args asked x y u v p q = (refl, λ i. (alike p.0 q.0 i, (alike p.1.0 q.1.0 i, (v.1.1.0, (v.1.1.1.0, (v.1.1.1.1.0, (alike p.1.1 q.1.1 i, v.1.1.1.1.1.1)))))))

pub mbrumzheg-accounted-close : Determines 3 mbrumzheg-accounted-close-kinds.ps mbrumzheg-accounted-close-kinds.r mbrumzheg-accounted-close-reads.Asked mbrumzheg-accounted-close-reads.Learnt
mbrumzheg-accounted-close κs args asked x y u v p q = (refl, λ i. (alike p.0 q.0 i, (alike p.1.0 q.1.0 i, (v.1.1.0, (v.1.1.1.0, (alike p.1.1 q.1.1 i, v.1.1.1.1.1))))))
