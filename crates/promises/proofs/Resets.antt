-- Orders at one time, on lent memory: each leaves the state that the machine goes to, so what holds of the machine's states holds of the memory.
-- Assumes nothing.
use Prim.Native.Nat.{ℕ, zero, suc}
use mathlib.Core.Path.{◌≡◌, refl, sym, ap, ap₂, ◌∙◌, subst}
use mathlib.Core.Bool.{false, true, false≢true}
use mathlib.Core.List.{List, ◌++◌}
use lib.ListN.{take, drop, take-append-drop}
use lib.Dec.{leb}
use native.Mathlib.Omega.{arith}
use Rattle.machine.specs.Effects.{last_reset}
use Rattle.machine.specs.State.{State}
use Rattle.machine.specs.Calls.{Call, order}
use Rattle.machine.specs.Refusals.{refusal_of}
use Rattle.machine.specs.Judge.{log_places, judged, unless, judge, step_in, step, is_refusal}
use Rattle.machine.specs.Answer.{Refused}
use Rattle.state.specs.State.{size, encode, decode, stored}
use Rattle.state.specs.Sound.{SoundState}
use Rattle.state.proofs.Exactly.{restored}
use Rattle.calls.specs.Calls.{memory_refusal, call_answer, call_memory}
use Rattle.calls.proofs.Armed.{call-refused, call-taken}
use Rattle.demand.specs.Resets.{sets_of, union, reset_to, NotRefused, after_order}
use Rattle.demand.proofs.Resets.{accepted-any, second-accepted, orders-join, orders-exchanged, once_more, symbol-firm, firm-symbol, t-e, e-t}
use Rattle.promises.specs.Resets.{Accepted, after_one, after_two, EitherOrder}
use Rattle.promises.proofs.Holds.{Holds, ready-holds, call-answers, call-holds, acts-answered}

-- a memory that holds a state is its numbers and what stands past them
holds-is : {s : State} {past xs : List ℕ} → Holds s past xs → xs ≡ encode s ++ past
holds-is {xs = xs} h =
    sym (take-append-drop size xs) ∙ ap₂ (λ (a b : List ℕ). a ++ b) (restored xs h.sound ∙ ap encode h.state) h.rest

-- an accepted call met memory that holds a state, which the machine does not refuse
module _ (xs : List ℕ) (call : Call) (ok : Accepted xs call) where
  pub accepted-ready : memory_refusal xs ≡ 0
  unfolding is_refusal
  accepted-ready = go (memory_refusal xs) refl
    where
      go : (n : ℕ) → memory_refusal xs ≡ n → memory_refusal xs ≡ 0
      go zero e = e
      go (suc n) e = absurd (false≢true (sym ok ∙ sym (ap is_refusal (call-refused xs call (suc n) (sym e) (λ z. omega arith)).0)))

  pub accepted-machine : refusal_of log_places (decode xs) call ≡ 0
  unfolding is_refusal step step_in judge unless
  accepted-machine = go (refusal_of log_places (decode xs) call) refl
    where
      go : (n : ℕ) → refusal_of log_places (decode xs) call ≡ n → refusal_of log_places (decode xs) call ≡ 0
      go zero e = e
      go (suc n) e =
          absurd (false≢true (sym ok ∙ ap is_refusal (sym (call-taken xs call 0 (sym accepted-ready) refl)) ∙ ap (λ (k : ℕ). is_refusal (unless k (judged (decode xs) call)).answer) e))

-- and a call that the machine does not refuse is accepted on memory that holds the state
pub machine-accepted : {s : State} {past xs : List ℕ} → Holds s past xs → (call : Call) → refusal_of log_places s call ≡ 0 → Accepted xs call
unfolding step step_in judge unless
machine-accepted {s} h call e =
    ap is_refusal (call-answers h call) ∙ ap (λ (k : ℕ). is_refusal (unless k (judged s call)).answer) e ∙ acts-answered s call

module _ (xs : List ℕ) (time : ℕ) where
  abbrev s : State
  s = decode xs

  abbrev past : List ℕ
  past = drop size xs

  module _ (root reset root' reset' : ℕ) (ok : Accepted xs (order time root reset)) where
    first : Holds (after_order s time root reset) past (after_one xs time root reset)
    first = call-holds (ready-holds xs (accepted-ready xs (order time root reset) ok)) (order time root reset)

    second : Holds (after_order (after_order s time root reset) time root' reset') past (after_two xs time root reset root' reset')
    second = call-holds first (order time root' reset')

  not-refused : (root reset : ℕ) → Accepted xs (order time root reset) → NotRefused s time root reset
  not-refused root reset ok = accepted-machine xs (order time root reset) ok

  -- the numbers of the state that the machine goes to, and what stood past it
  two_is : (root reset root' reset' : ℕ) → Accepted xs (order time root reset) → (t : State) → after_order (after_order s time root reset) time root' reset' ≡ t
      → after_two xs time root reset root' reset' ≡ stored t xs
  unfolding stored
  two_is root reset root' reset' ok t e = holds-is (second root reset root' reset' ok) ∙ ap (λ (x : State). encode x ++ past) e

  one-is : (root reset : ℕ) → Accepted xs (order time root reset) → stored (after_order s time root reset) xs ≡ after_one xs time root reset
  unfolding stored
  one-is root reset ok = sym (holds-is (first root reset root reset ok))

  -- EITHER ORDER leaves the same memory
  pub either_order : EitherOrder xs time
  either_order = record {
    both =
        λ root reset root' reset' a b. machine-accepted (first root reset root' reset' a) (order time root' reset')
        (second-accepted s time root reset root' reset' (not-refused root reset a) (not-refused root' reset' b));
    union =
        λ root reset root' reset' a b. two_is root reset root' reset' a _
        (orders-join s time root reset root' reset' (not-refused root reset a) (not-refused root' reset' b));
    exchanged =
        λ root reset root' reset' a b. two_is root reset root' reset' a _
        (orders-exchanged s time root reset root' reset' (not-refused root reset a) (not-refused root' reset' b))
        ∙ sym (two_is root' reset' root reset b _ refl);
    repeated =
        λ root reset a. two_is root reset root reset a _ (once_more s time root reset (not-refused root reset a)) ∙ one-is root reset a;
    symbol_firm = λ root a. third root 1 2 3 a (symbol-firm s time root (not-refused root 3 a)) (known root 3 1 refl a);
    firm_symbol = λ root a. third root 2 1 3 a (firm-symbol s time root (not-refused root 3 a)) (known root 3 2 refl a);
    root_firm_unlocked = λ root a. third root 4 5 6 a (t-e s time root (not-refused root 6 a)) (known root 6 4 refl a);
    firm_root_unlocked = λ root a. third root 5 4 6 a (e-t s time root (not-refused root 6 a)) (known root 6 5 refl a);
  }
    where
      known : (root reset other : ℕ) → leb other last_reset ≡ true → Accepted xs (order time root reset) → Accepted xs (order time root other)
      known root reset other low a =
          machine-accepted (ready-holds xs (accepted-ready xs (order time root reset) a)) (order time root other)
          (accepted-any s time root reset other low (not-refused root reset a))

      third : (root one two both : ℕ) → Accepted xs (order time root both)
          → after_order (after_order s time root one) time root two ≡ after_order s time root both → Accepted xs (order time root one)
          → after_two xs time root one root two ≡ after_one xs time root both
      third root one two both a e b = two_is root one root two b _ e ∙ one-is root both a
