-- The contracts of `views` determine what a call gives: one theorem for each public function. Assumes nothing.
use mathlib.Core.Path.{refl}
use Rattle.determined.specs.Determines.{Determines}
use Rattle.laws.proofs.One.{alike}
use Rattle.views.proofs.Told.{one_listed}
use Rattle.refusals.proofs.Once.{one_numbered}
use Rattle.views.proofs.root_named.Kinds as root-named-kinds
use Rattle.views.proofs.root_named.Reads as root-named-reads
use Rattle.views.proofs.root_name.Kinds as root-name-kinds
use Rattle.views.proofs.root_name.Reads as root-name-reads
use Rattle.views.proofs.rule.Kinds as rule-kinds
use Rattle.views.proofs.rule.Reads as rule-reads
use Rattle.views.proofs.profile.Kinds as profile-kinds
use Rattle.views.proofs.profile.Reads as profile-reads
use Rattle.views.proofs.UnlistedFromRefusal.from.Kinds as unlisted-from-refusal-from-kinds
use Rattle.views.proofs.UnlistedFromRefusal.from.Reads as unlisted-from-refusal-from-reads

pub root-named : Determines 2 root-named-kinds.ps root-named-kinds.r root-named-reads.Asked root-named-reads.Learnt
root-named κs args asked x y u v p q = (one_numbered x y (alike p q), refl)

pub root-name : Determines 2 root-name-kinds.ps root-name-kinds.r root-name-reads.Asked root-name-reads.Learnt
root-name κs args asked x y u v p q = (one_numbered x y (alike p.0 q.0), λ i. (v.0, (v.1.0, (alike p.1 q.1 i, v.1.1.1))))

pub rule : Determines 1 rule-kinds.ps rule-kinds.r rule-reads.Asked rule-reads.Learnt
rule κs args asked x y u v p q = (one_numbered x y (alike p q), refl)

pub profile : Determines 2 profile-kinds.ps profile-kinds.r profile-reads.Asked profile-reads.Learnt
profile κs args asked x y u v p q = (one_listed x y (alike p.0 q.0), λ i. (v.0, (alike p.1 q.1 i, v.1.1)))

pub unlisted-from-refusal-from : Determines 0 unlisted-from-refusal-from-kinds.ps unlisted-from-refusal-from-kinds.r unlisted-from-refusal-from-reads.Asked unlisted-from-refusal-from-reads.Learnt
unlisted-from-refusal-from κs args asked x y u v p q = (alike p q, refl)
