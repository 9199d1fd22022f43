-- A call is answered by the number that it is refused with, or by the machine where there is none. Assumes nothing.
use Prim.Native.Nat.{ℕ, zero, suc}
use native.Mathlib.Omega.{arith}
use mathlib.Core.Path.{◌≡◌, refl, sym, ap, ◌∙◌}
use mathlib.Core.Logic.Iff
use mathlib.Core.Logic.{◌↔◌}
use mathlib.Core.Bool.{false, cond, false≢true}
use mathlib.Core.List.{List}
use lib.ListN.{get_or}
use lib.Dec.{eqb}
use borrow.Author.Tests.{ne_eqb}
use Rattle.machine.specs.State.{State}
use Rattle.machine.specs.Calls.{Call}
use Rattle.machine.specs.Refusals.{refusal_of}
use Rattle.machine.specs.Judge.{log_places, judged, unless, judge, step_in, step, numbers, is_refusal}
use Rattle.machine.specs.Answer.{Answer, Refused, Judged, Left, Standing}
use Rattle.state.specs.State.{decode}
use Rattle.calls.specs.Calls.{memory_refusal, call_answer, refusal_in}
use Rattle.promises.specs.Refusals.{refusal_row}
use Rattle.promises.proofs.Holds.{acts-answered, acts-unrefused}

module _ (xs : List ℕ) (call : Call) where
  abbrev answer_at : ℕ → Answer
  answer_at n = (unless n (judged (decode xs) call)).answer

  pub answer-by : call_answer xs call ≡ answer_at (refusal_in xs call)
  unfolding refusal_in call_answer step step_in judge unless
  answer-by = go (memory_refusal xs) (refusal_of log_places (decode xs) call)
    where
      go : (a b : ℕ) → cond (eqb a 0) (answer_at b) (Refused a) ≡ answer_at (cond (eqb a 0) b a)
      go zero b = refl
      go (suc a) b = rw (ne_eqb (suc a) 0 (λ e. omega arith))

  pub acted-answer : refusal_in xs call ≡ 0 → call_answer xs call ≡ (judged (decode xs) call).answer
  unfolding unless
  acted-answer e = answer-by ∙ ap answer_at e

  pub refused-by : (n : ℕ) → refusal_in xs call ≡ suc n → call_answer xs call ≡ Refused (suc n)
  unfolding unless
  refused-by n e = answer-by ∙ ap answer_at e

  pub by-refused : (n : ℕ) → call_answer xs call ≡ Refused n → refusal_in xs call ≡ n
  unfolding unless
  by-refused n e = go (refusal_in xs call) (sym answer-by ∙ e)
    where
      go : (a : ℕ) → answer_at a ≡ Refused n → a ≡ n
      go zero e = absurd (acts-unrefused (decode xs) call n e)
      go (suc a) e = cc

  -- one that is not answered by a refusal is answered by the machine
  pub taken : (a : Answer) → call_answer xs call ≡ a → is_refusal a ≡ false → (judged (decode xs) call).answer ≡ a
  unfolding unless is_refusal
  taken a e f = go (refusal_in xs call) (sym answer-by ∙ e)
    where
      go : (n : ℕ) → answer_at n ≡ a → (judged (decode xs) call).answer ≡ a
      go zero e = e
      go (suc n) e = absurd (false≢true (sym f ∙ sym (ap is_refusal e)))

  -- it is not refused exactly if no number is
  pub unrefused : (is_refusal (call_answer xs call) ≡ false) ↔ (refusal_in xs call ≡ 0)
  unfolding unless is_refusal
  unrefused = (λ e. go (refusal_in xs call) (sym (ap is_refusal answer-by) ∙ e), λ e. ap is_refusal (acted-answer e) ∙ acts-answered (decode xs) call)
    where
      go : (n : ℕ) → is_refusal (answer_at n) ≡ false → n ≡ 0
      go zero e = refl
      go (suc n) e = absurd (false≢true (sym e))

-- the row of a refusal is that of its number alone
pub row-refused : (a : Answer) (n : ℕ) → (numbers a ≡ refusal_row (suc n)) ↔ (a ≡ Refused (suc n))
unfolding numbers
row-refused a n = (λ e. go a (ap (λ (row : List ℕ). get_or row 0 0) e), λ e. ap numbers e)
  where
    go : (a : Answer) → get_or (numbers a) 0 0 ≡ suc n → a ≡ Refused (suc n)
    go (Refused k) e = ap Refused e
    go (Judged verdict grant roottrip firmtrip) e = absurd (omega arith)
    go (Left k) e = absurd (omega arith)
    go (Standing roots) e = absurd (omega arith)

-- so a call has a refusal's row exactly if it is refused by that number
pub row_by : (xs : List ℕ) (call : Call) (n : ℕ) → (numbers (call_answer xs call) ≡ refusal_row (suc n)) ↔ (refusal_in xs call ≡ suc n)
row_by xs call n = (
  λ e. by-refused xs call (suc n) ((row-refused (call_answer xs call) n).0 e),
  λ e. (row-refused (call_answer xs call) n).1 (refused-by xs call n e),
)

-- ---- an answer by a number, which is the machine's where the number is 0

module _ (s : State) (call : Call) (number : ℕ) (a : Answer) (by : a ≡ (unless number (judged s call)).answer) where
  -- its row is a refusal's exactly if that is the number
  pub row_number : (n : ℕ) → (numbers a ≡ refusal_row (suc n)) ↔ (number ≡ suc n)
  unfolding unless
  row_number n = Iff.trans (row-refused a n) (λ e. to number (sym by ∙ e), λ e. by ∙ ap (λ (k : ℕ). (unless k (judged s call)).answer) e)
    where
      to : (k : ℕ) → (unless k (judged s call)).answer ≡ Refused (suc n) → k ≡ suc n
      to zero e = absurd (acts-unrefused s call (suc n) e)
      to (suc k) e = cc

  -- and it is not refused exactly if there is none
  pub none_number : (is_refusal a ≡ false) ↔ (number ≡ 0)
  unfolding unless is_refusal
  none_number = (
    λ e. to number (sym (ap is_refusal by) ∙ e),
    λ e. ap is_refusal (by ∙ ap (λ (k : ℕ). (unless k (judged s call)).answer) e) ∙ acts-answered s call,
  )
    where
      to : (k : ℕ) → is_refusal (unless k (judged s call)).answer ≡ false → k ≡ 0
      to zero e = refl
      to (suc k) e = absurd (false≢true (sym e))
