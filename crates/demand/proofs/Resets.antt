-- Orders at one time: any two leave what the union of their sets leaves, so they may be exchanged and repeat without effect. Assumes nothing.
use Prim.Native.Nat.{ℕ, ◌<◌}
use mathlib.Core.Path.{◌≡◌, refl, sym, ap, ◌∙◌, subst}
use mathlib.Core.Bool.{Bool, true, false, not, cond, ◌&&◌, ◌||◌, and-or_distrib_left}
use lib.Dec.{leb, eqb}
use borrow.Author.Tests.{le-leb, not-false}
use native.Mathlib.Nat.{le_refl}
use native.Mathlib.Omega.{arith}
use mathlib.Core.Path.{fun_ext}
use Rattle.laws.proofs.Tests.{and_l}
use Rattle.measures.specs.Ranges.{is_in, times}
use Rattle.rules.specs.declared.Level.{Level}
use Rattle.rules.specs.declared.Level.TheVariants.{Firm, Root}
use Rattle.machine.specs.State.{State, roots_in}
use Rattle.machine.specs.Effects.{resets, effect_of, last_reset, zeroing, lifting}
use Rattle.machine.specs.Deeds.{resetting}
use Rattle.machine.specs.Calls.{order}
use Rattle.machine.specs.Refusals.{first_of, bad_time, is_root, refusal_of}
use Rattle.machine.specs.Step.{after}
use Rattle.machine.specs.Judge.{log_places, ordered, judged, unless, judge, step_in, step}
use Rattle.machine.proofs.Refusals.{orderable}
use Rattle.demand.specs.Resets.{Sets, sets_of, union, reset_to, NotRefused, after_order}
use Rattle.demand.proofs.Effects.{resets-join, order-sets, union-swap, union_self}

-- AN ACCEPTED ORDER leaves what its sets leave
pub order-left : (s : State) (t root reset : ℕ) → NotRefused s t root reset → after_order s t root reset ≡ reset_to t (sets_of root reset) s
unfolding step step_in judge unless judged ordered roots_in
order-left s t root reset h =
    ap (λ (n : ℕ). after (unless n (judged s (order t root reset))).deed s) h
    ∙ order-sets t root reset s (orderable log_places s t root reset h).1

-- at one time, an order that is accepted before a reset is accepted after it
accepted-after : (s : State) (t : ℕ) (sets : Sets) (root reset : ℕ) → NotRefused s t root reset → NotRefused (reset_to t sets s) t root reset
unfolding refusal_of bad_time is_root reset_to first_of
accepted-after s t sets root reset h = go _ (bad_time s.part t) refl h
  where
    good : bad_time s.part t ≡ false → bad_time (reset_to t sets s).part t ≡ false
    good e = rw (and_l (is_in times t) (leb s.part.clock t) (not-false _ e), le-leb t t (le_refl t))

    go : (rest : ℕ) (b : Bool) → bad_time s.part t ≡ b → cond b 12 rest ≡ 0 → cond (bad_time (reset_to t sets s).part t) 12 rest ≡ 0
    go rest true e k = omega arith
    go rest false e k = rw (good e) k

-- so the second of two orders is accepted
pub second-accepted : (s : State) (t root reset root' reset' : ℕ) → NotRefused s t root reset → NotRefused s t root' reset'
    → NotRefused (after_order s t root reset) t root' reset'
second-accepted s t root reset root' reset' h k =
    subst (λ (x : State). NotRefused x t root' reset') (sym (order-left s t root reset h)) (accepted-after s t (sets_of root reset) root' reset' k)

-- TWO ACCEPTED ORDERS AT ONE TIME leave what the union of their sets leaves
pub orders-join : (s : State) (t root reset root' reset' : ℕ) → NotRefused s t root reset → NotRefused s t root' reset'
    → after_order (after_order s t root reset) t root' reset' ≡ reset_to t (union (sets_of root reset) (sets_of root' reset')) s
orders-join s t root reset root' reset' h k =
    order-left (after_order s t root reset) t root' reset' (second-accepted s t root reset root' reset' h k)
    ∙ ap (reset_to t (sets_of root' reset')) (order-left s t root reset h)
    ∙ resets-join t (sets_of root reset) (sets_of root' reset') s

-- they may be exchanged, of one root or of two
pub orders-exchanged : (s : State) (t root reset root' reset' : ℕ) → NotRefused s t root reset → NotRefused s t root' reset'
    → after_order (after_order s t root reset) t root' reset' ≡ after_order (after_order s t root' reset') t root reset
orders-exchanged s t root reset root' reset' h k =
    orders-join s t root reset root' reset' h k
    ∙ ap (λ (sets : Sets). reset_to t sets s) (union-swap (sets_of root reset) (sets_of root' reset'))
    ∙ sym (orders-join s t root' reset' root reset k h)

-- whether an order is accepted does not depend on which of the known resets it asks for
pub accepted-any : (s : State) (t root reset reset' : ℕ) → leb reset' last_reset ≡ true → NotRefused s t root reset → NotRefused s t root reset'
unfolding refusal_of first_of
accepted-any s t root reset reset' known h = rw known (go (bad_time s.part t) (is_root s.part root) (leb reset last_reset) h)
  where
    number : Bool → Bool → ℕ
    number bad unknown = cond bad 12 (cond unknown 13 0)

    go : (bad isroot k : Bool) → number bad (not (isroot && k)) ≡ 0 → number bad (not (isroot && true)) ≡ 0
    go true isroot k h = h
    go false true k h = refl
    go false false k h = h

module _ (s : State) (t root : ℕ) where
  -- the same reset twice leaves what it left once
  pub once_more : (reset : ℕ) → NotRefused s t root reset → after_order (after_order s t root reset) t root reset ≡ after_order s t root reset
  once_more reset h =
      orders-join s t root reset root reset h h
      ∙ ap (λ (sets : Sets). reset_to t sets s) (union_self (sets_of root reset))
      ∙ sym (order-left s t root reset h)

  -- the sets of two resets make up those of a third where their rows of the table do
  makes : (first second third : ℕ) → ((effect_of first).zeroroot || (effect_of second).zeroroot) ≡ (effect_of third).zeroroot
      → ((effect_of first).zerofirm || (effect_of second).zerofirm) ≡ (effect_of third).zerofirm
      → ((effect_of first).liftroot || (effect_of second).liftroot) ≡ (effect_of third).liftroot
      → ((effect_of first).liftfirm || (effect_of second).liftfirm) ≡ (effect_of third).liftfirm
      → union (sets_of root first) (sets_of root second) ≡ sets_of root third
  unfolding union sets_of zeroing lifting
  makes first second third zr zf lr lf = λ i. record { zeroes = fun_ext zeroes i; lifts = fun_ext lifts i }
    where
      zeroes : (level : Level) → (zeroing (effect_of first) root level || zeroing (effect_of second) root level) ≡ zeroing (effect_of third) root level
      zeroes Firm = zf
      zeroes (Root r) = sym (and-or_distrib_left (eqb r root) (effect_of first).zeroroot (effect_of second).zeroroot) ∙ ap (λ (b : Bool). eqb r root && b) zr

      lifts : (level : Level) → (lifting (effect_of first) root level || lifting (effect_of second) root level) ≡ lifting (effect_of third) root level
      lifts Firm = lf
      lifts (Root r) = sym (and-or_distrib_left (eqb r root) (effect_of first).liftroot (effect_of second).liftroot) ∙ ap (λ (b : Bool). eqb r root && b) lr

  -- two whose sets make up those of a third leave what the third leaves
  together : (first second third : ℕ) → union (sets_of root first) (sets_of root second) ≡ sets_of root third → leb first last_reset ≡ true
      → leb second last_reset ≡ true → NotRefused s t root third → after_order (after_order s t root first) t root second ≡ after_order s t root third
  together first second third e k l h =
      orders-join s t root first root second (accepted-any s t root third first k h) (accepted-any s t root third second l h)
      ∙ ap (λ (sets : Sets). reset_to t sets s) e
      ∙ sym (order-left s t root third h)

  -- SYMBOL and then FIRM leaves what BOTH leaves, and so does FIRM and then SYMBOL
  pub symbol-firm : NotRefused s t root 3 → after_order (after_order s t root 1) t root 2 ≡ after_order s t root 3
  unfolding effect_of resets
  symbol-firm h = together 1 2 3 (makes 1 2 3 refl refl refl refl) refl refl h

  pub firm-symbol : NotRefused s t root 3 → after_order (after_order s t root 2) t root 1 ≡ after_order s t root 3
  unfolding effect_of resets
  firm-symbol h = together 2 1 3 (makes 2 1 3 refl refl refl refl) refl refl h

  -- T and then E leaves what 6 leaves, and so does E and then T
  pub t-e : NotRefused s t root 6 → after_order (after_order s t root 4) t root 5 ≡ after_order s t root 6
  unfolding effect_of resets
  t-e h = together 4 5 6 (makes 4 5 6 refl refl refl refl) refl refl h

  pub e-t : NotRefused s t root 6 → after_order (after_order s t root 5) t root 4 ≡ after_order s t root 6
  unfolding effect_of resets
  e-t h = together 5 4 6 (makes 5 4 6 refl refl refl refl) refl refl h
