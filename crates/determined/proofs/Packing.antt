-- The contracts of `packing` determine what a call gives: one theorem for each public function. Assumes nothing.
use mathlib.Core.Path.{refl}
use Rattle.determined.specs.Determines.{Determines}
use Rattle.laws.proofs.One.{alike}
use Rattle.packing.proofs.rule_of.Kinds as rule-of-kinds
use Rattle.packing.proofs.rule_of.Reads as rule-of-reads
use Rattle.packing.proofs.window_of.Kinds as window-of-kinds
use Rattle.packing.proofs.window_of.Reads as window-of-reads
use Rattle.packing.proofs.is_rule.Kinds as is-rule-kinds
use Rattle.packing.proofs.is_rule.Reads as is-rule-reads
use Rattle.packing.proofs.rule_place.Kinds as rule-place-kinds
use Rattle.packing.proofs.rule_place.Reads as rule-place-reads
use Rattle.packing.proofs.entry_of.Kinds as entry-of-kinds
use Rattle.packing.proofs.entry_of.Reads as entry-of-reads
use Rattle.packing.proofs.gap.Kinds as gap-kinds
use Rattle.packing.proofs.gap.Reads as gap-reads
use Rattle.packing.proofs.entry_gaps.Kinds as entry-gaps-kinds
use Rattle.packing.proofs.entry_gaps.Reads as entry-gaps-reads
use Rattle.packing.proofs.entry_place.Kinds as entry-place-kinds
use Rattle.packing.proofs.entry_place.Reads as entry-place-reads
use Rattle.packing.proofs.limit_number.Kinds as limit-number-kinds
use Rattle.packing.proofs.limit_number.Reads as limit-number-reads
use Rattle.packing.proofs.root_number.Kinds as root-number-kinds
use Rattle.packing.proofs.root_number.Reads as root-number-reads

pub rule-of : Determines 0 rule-of-kinds.ps rule-of-kinds.r rule-of-reads.Asked rule-of-reads.Learnt
rule-of κs args asked x y u v p q = (alike p q, refl)

pub window-of : Determines 0 window-of-kinds.ps window-of-kinds.r window-of-reads.Asked window-of-reads.Learnt
window-of κs args asked x y u v p q = (alike p q, refl)

pub is-rule : Determines 0 is-rule-kinds.ps is-rule-kinds.r is-rule-reads.Asked is-rule-reads.Learnt
is-rule κs args asked x y u v p q = (alike p q, refl)

pub rule-place : Determines 0 rule-place-kinds.ps rule-place-kinds.r rule-place-reads.Asked rule-place-reads.Learnt
rule-place κs args asked x y u v p q = (alike p q, refl)

pub entry-of : Determines 0 entry-of-kinds.ps entry-of-kinds.r entry-of-reads.Asked entry-of-reads.Learnt
entry-of κs args asked x y u v p q = (alike p q, refl)

pub gap : Determines 0 gap-kinds.ps gap-kinds.r gap-reads.Asked gap-reads.Learnt
gap κs args asked x y u v p q = (alike p q, refl)

pub entry-gaps : Determines 0 entry-gaps-kinds.ps entry-gaps-kinds.r entry-gaps-reads.Asked entry-gaps-reads.Learnt
entry-gaps κs args asked x y u v p q = (alike p q, refl)

pub entry-place : Determines 0 entry-place-kinds.ps entry-place-kinds.r entry-place-reads.Asked entry-place-reads.Learnt
entry-place κs args asked x y u v p q = (alike p q, refl)

pub limit-number : Determines 0 limit-number-kinds.ps limit-number-kinds.r limit-number-reads.Asked limit-number-reads.Learnt
limit-number κs args asked x y u v p q = (alike p q, refl)

pub root-number : Determines 0 root-number-kinds.ps root-number-kinds.r root-number-reads.Asked root-number-reads.Learnt
root-number κs args asked x y u v p q = (alike p q, refl)
