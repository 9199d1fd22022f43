-- The contracts of `log` determine what a call gives: one theorem for each public function. Assumes nothing.
use mathlib.Core.Path.{refl}
use Rattle.determined.specs.Determines.{Determines}
use Rattle.laws.proofs.One.{alike}
use Rattle.daylog.proofs.is_log.Kinds as is-log-kinds
use Rattle.daylog.proofs.is_log.Reads as is-log-reads
use Rattle.daylog.proofs.counted.Kinds as counted-kinds
use Rattle.daylog.proofs.counted.Reads as counted-reads
use Rattle.daylog.proofs.unflag.Kinds as unflag-kinds
use Rattle.daylog.proofs.unflag.Reads as unflag-reads
use Rattle.daylog.proofs.recent_entries.Kinds as recent-entries-kinds
use Rattle.daylog.proofs.recent_entries.Reads as recent-entries-reads
use Rattle.daylog.proofs.blank.Kinds as blank-kinds
use Rattle.daylog.proofs.blank.Reads as blank-reads
use Rattle.daylog.proofs.join.Kinds as join-kinds
use Rattle.daylog.proofs.join.Reads as join-reads
use Rattle.daylog.proofs.keep_last.Kinds as keep-last-kinds
use Rattle.daylog.proofs.keep_last.Reads as keep-last-reads
use Rattle.daylog.proofs.memos_of.Kinds as memos-of-kinds
use Rattle.daylog.proofs.memos_of.Reads as memos-of-reads
use Rattle.daylog.proofs.read_window.Kinds as read-window-kinds
use Rattle.daylog.proofs.read_window.Reads as read-window-reads
use Rattle.daylog.proofs.sum_in.Kinds as sum-in-kinds
use Rattle.daylog.proofs.sum_in.Reads as sum-in-reads
use Rattle.daylog.proofs.recall.Kinds as recall-kinds
use Rattle.daylog.proofs.recall.Reads as recall-reads

pub is-log : Determines 1 is-log-kinds.ps is-log-kinds.r is-log-reads.Asked is-log-reads.Learnt
is-log κs args asked x y u v p q = (alike p q, refl)

pub counted : Determines 1 counted-kinds.ps counted-kinds.r counted-reads.Asked counted-reads.Learnt
counted κs args asked x y u v p q = (alike p q, refl)

pub unflag : Determines 1 unflag-kinds.ps unflag-kinds.r unflag-reads.Asked unflag-reads.Learnt
unflag κs args asked x y u v p q = (refl, λ i. (alike p q i, v.1))

pub recent-entries : Determines 1 recent-entries-kinds.ps recent-entries-kinds.r recent-entries-reads.Asked recent-entries-reads.Learnt
recent-entries κs args asked x y u v p q = (alike p q, refl)

pub blank : Determines 1 blank-kinds.ps blank-kinds.r blank-reads.Asked blank-reads.Learnt
blank κs args asked x y u v p q = (refl, λ i. (alike p q i, v.1))

pub join : Determines 1 join-kinds.ps join-kinds.r join-reads.Asked join-reads.Learnt
join κs args asked x y u v p q = (refl, λ i. (alike p q i, v.1))

pub keep-last : Determines 1 keep-last-kinds.ps keep-last-kinds.r keep-last-reads.Asked keep-last-reads.Learnt
keep-last κs args asked x y u v p q = (refl, λ i. (alike p q i, v.1))

pub memos-of : Determines 0 memos-of-kinds.ps memos-of-kinds.r memos-of-reads.Asked memos-of-reads.Learnt
memos-of κs args asked x y u v p q = (alike p.1 q.1, refl)

pub read-window : Determines 1 read-window-kinds.ps read-window-kinds.r read-window-reads.Asked read-window-reads.Learnt
read-window κs args asked x y u v p q = (alike p q, refl)

pub sum-in : Determines 0 sum-in-kinds.ps sum-in-kinds.r sum-in-reads.Asked sum-in-reads.Learnt
sum-in κs args asked x y u v p q = (alike p q, refl)

pub recall : Determines 2 recall-kinds.ps recall-kinds.r recall-reads.Asked recall-reads.Learnt
recall κs args asked x y u v p q = (refl, λ i. (v.0, (v.1.0, (v.1.1.0, (alike p.2 q.2 i, v.1.1.1.1)))))
