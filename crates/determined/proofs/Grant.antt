-- The contracts of `grant` determine what a call gives: one theorem for each public function. Assumes nothing.
use mathlib.Core.Path.{refl}
use Rattle.determined.specs.Determines.{Determines}
use Rattle.laws.proofs.One.{alike}
use Rattle.grant.proofs.cuts_of.Kinds as cuts-of-kinds
use Rattle.grant.proofs.cuts_of.Reads as cuts-of-reads
use Rattle.grant.proofs.come_back.Kinds as come-back-kinds
use Rattle.grant.proofs.come_back.Reads as come-back-reads
use Rattle.grant.proofs.inside_at.Kinds as inside-at-kinds
use Rattle.grant.proofs.inside_at.Reads as inside-at-reads
use Rattle.grant.proofs.fill.Kinds as fill-kinds
use Rattle.grant.proofs.fill.Reads as fill-reads

pub cuts-of : Determines 1 cuts-of-kinds.ps cuts-of-kinds.r cuts-of-reads.Asked cuts-of-reads.Learnt
cuts-of κs args asked x y u v p q = (λ i. record { root = alike p.root q.root i; firm = alike p.firm q.firm i }, refl)

pub inside-at : Determines 1 inside-at-kinds.ps inside-at-kinds.r inside-at-reads.Asked inside-at-reads.Learnt
inside-at κs args asked x y u v p q = (alike p q, refl)

pub fill : Determines 1 fill-kinds.ps fill-kinds.r fill-reads.Asked fill-reads.Learnt
fill κs args asked x y u v p q = (λ i. record { root = alike p.root q.root i; firm = alike p.firm q.firm i }, λ i. (alike p.memory q.memory i, v.1))

pub come-back : Determines 1 come-back-kinds.ps come-back-kinds.r come-back-reads.Asked come-back-reads.Learnt
come-back κs args asked x y u v p q = (λ i. record { root = alike p.root q.root i; firm = alike p.firm q.firm i }, λ i. (alike p.memory q.memory i, v.1))
