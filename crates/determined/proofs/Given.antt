-- The contracts of `given` determine what a call gives: one theorem for each public function. Assumes nothing.
use mathlib.Core.Path.{refl}
use Rattle.determined.specs.Determines.{Determines}
use Rattle.laws.proofs.One.{alike}
use Rattle.given.proofs.roots.is_name_number.Kinds as is-name-number-kinds
use Rattle.given.proofs.roots.is_name_number.Reads as is-name-number-reads
use Rattle.given.proofs.roots.are_roots.Kinds as are-roots-kinds
use Rattle.given.proofs.roots.are_roots.Reads as are-roots-reads
use Rattle.given.proofs.test_rules.Kinds as test-rules-kinds
use Rattle.given.proofs.test_rules.Reads as test-rules-reads
use Rattle.given.proofs.rule_at.Kinds as rule-at-kinds
use Rattle.given.proofs.rule_at.Reads as rule-at-reads
use Rattle.given.proofs.windows.longest_window.Kinds as longest-window-kinds
use Rattle.given.proofs.windows.longest_window.Reads as longest-window-reads

pub is-name-number : Determines 0 is-name-number-kinds.ps is-name-number-kinds.r is-name-number-reads.Asked is-name-number-reads.Learnt
is-name-number κs args asked x y u v p q = (alike p q, refl)

pub are-roots : Determines 1 are-roots-kinds.ps are-roots-kinds.r are-roots-reads.Asked are-roots-reads.Learnt
are-roots κs args asked x y u v p q = (alike p q, refl)

pub test-rules : Determines 2 test-rules-kinds.ps test-rules-kinds.r test-rules-reads.Asked test-rules-reads.Learnt
test-rules κs args asked x y u v p q = (alike p q, refl)

pub rule-at : Determines 1 rule-at-kinds.ps rule-at-kinds.r rule-at-reads.Asked rule-at-reads.Learnt
rule-at κs args asked x y u v p q = (alike p q, refl)

pub longest-window : Determines 1 longest-window-kinds.ps longest-window-kinds.r longest-window-reads.Asked longest-window-reads.Learnt
longest-window κs args asked x y u v p q = (alike p q, refl)
