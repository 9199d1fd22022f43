-- What a call leaves of lent memory, whatever that holds. Assumes nothing.
use Prim.Native.Nat.{ℕ, zero, suc}
use native.Mathlib.Omega.{arith}
use mathlib.Core.Path.{◌≡◌, refl, sym, ap, ◌∙◌, subst⁻¹}
use mathlib.Core.Bool.{false≢true}
use mathlib.Core.List.{List}
use Rattle.machine.specs.State.{State}
use Rattle.machine.specs.Calls.{Call}
use Rattle.machine.specs.Judge.{log_places, step, is_refusal}
use Rattle.state.specs.State.{decode}
use Rattle.calls.specs.Calls.{memory_refusal}
use Rattle.calls.proofs.Armed.{call-refused}
use Rattle.demand.specs.Moves.{Moves}
use Rattle.demand.proofs.Moves.{moves}
use Rattle.promises.specs.Day.{lent_result}
use Rattle.promises.proofs.Holds.{ready-holds, call-answers, call-holds}

pub lent-moves : (memory : List ℕ) (call : Call) → Moves (decode memory) call (lent_result memory call)
unfolding step is_refusal
lent-moves memory call = go (memory_refusal memory) refl
  where
    go : (n : ℕ) → memory_refusal memory ≡ n → Moves (decode memory) call (lent_result memory call)
    go zero e =
        let h = ready-holds memory e in
        subst⁻¹ (Moves (decode memory) call) (λ i. record { answer = call-answers h call i; after = (call-holds h call).state i })
        (moves log_places (decode memory) call)
    go (suc n) e =
        let r = call-refused memory call (suc n) (sym e) (λ z. omega arith) in
        let same = sym (ap decode r.1) in
        record {
          refused = λ z. same;
          asked = λ z. same;
          looked = λ z. same;
          clock = λ z. absurd (false≢true (sym z ∙ sym (ap is_refusal r.0)));
          profile = ap (λ (s : State). s.part.profile) same;
        }
