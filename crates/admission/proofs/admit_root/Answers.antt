-- `admission::admit_root` meets its contract: the tests come first, then the number of the root is put. Assumes nothing.
use Prim.Native.Nat.{ℕ, ◌+◌}
use mathlib.Core.Path.{◌≡◌, sym, ap, ◌∙◌}
use native.Mathlib.Omega.{arith}
use lib.ListN.{get_or}
use mathlib.Core.List.{List}
use Rattle.admission.proofs.Joining.{root-late, roots-full, no_wrap, few-in, units-full, root-joins}
use Rattle.admission.proofs.admit_root.Goals as goal

pub returns-then-seen-root : goal.returns-then-seen-root
returns-then-seen-root c = λ before held. root-late held _ _ c.requires.2.1 _ c.requires.3 c.if-seen-root.true

pub returns-then-root-ge64 : goal.returns-then-root-ge64
returns-then-root-ge64 c = λ before held. roots-full held _ _ c.requires.2.1 _ c.requires.3 c.if-root-ge64.true

-- what the root's number becomes
all-is : (counts : List ℕ) (root : ℕ) {more added : ℕ} → more ≡ added → get_or counts root 0 + more ≡ get_or counts root 0 + added
all-is counts root e = ap (λ (n : ℕ). get_or counts root 0 + n) e

pub overflow_add-all : goal.overflow_add-all
overflow_add-all c =
    omega (arith, no_wrap c.requires.0.1 c.args.rule _ c.requires.2.1 _ c.requires.3 c.if-root-ge64.false (all-is c.args.counts.now c.args.root c.requires.4))

pub is_over-requires : goal.is_over-requires
is_over-requires c =
    few-in c.requires.0.1 c.args.rule _ c.requires.2.1 _ c.requires.3 c.if-root-ge64.false (all-is c.args.counts.now c.args.root c.requires.4)

pub returns-then-is_over : goal.returns-then-is_over
returns-then-is_over c =
    λ before held.
    units-full held _ _ c.requires.2.1 _ c.requires.3 c.if-root-ge64.false (all-is c.args.counts.now c.args.root c.requires.4) (sym c.is_over.ensures ∙ c.if-is_over.true)

pub returns : goal.returns
returns c =
    λ before held.
    root-joins held _ _ c.requires.2.1 _ c.requires.3 c.if-root-ge64.false (all-is c.args.counts.now c.args.root c.requires.4) c.requires.1 c.if-seen-root.false
    (sym c.is_over.ensures ∙ c.if-is_over.false) c.seen_with.ensures
