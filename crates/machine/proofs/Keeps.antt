-- What a deed leaves: always the profile and the rules of the accounts, and what nothing does leaves all. Assumes nothing.
use Prim.Native.Nat.{ℕ, zero, suc}
use mathlib.Core.Path.{◌≡◌, refl, ap, ◌∙◌}
use mathlib.Core.List.{List, map, map-map}
use Rattle.rules.specs.declared.Account.{Account}
use Rattle.machine.specs.State.{State, account_rule, Fitting}
use Rattle.machine.specs.Deeds.{Deed, nothing, passing, filling, resetting, locking_out, sending, closing, clock_after}
use Rattle.machine.specs.Order.{wiped}
use Rattle.machine.specs.Offers.{credited}
use Rattle.machine.specs.Register.{register_after}
use Rattle.machine.specs.Calls.{Call, remaining, status}
use Rattle.machine.specs.Refusals.{refusal_of}
use Rattle.machine.specs.Step.{accounts_after, locks_after, log_after, part_after, after}
use Rattle.machine.specs.Judge.{judged, unless, judge, step_in}

-- totals change, and no rule does
pub same-rules : (deed : Deed) (accounts : List Account) → map account_rule (accounts_after deed accounts) ≡ map account_rule accounts
unfolding accounts_after credited wiped
same-rules nothing accounts = refl
same-rules (passing time) accounts = refl
same-rules (filling source o n) accounts = rw map-map
same-rules (resetting time root effect) accounts = rw map-map
same-rules (locking_out time level) accounts = refl
same-rules (sending time sent) accounts = refl
same-rules (closing time identity) accounts = refl

pub fitting-after : (deed : Deed) (s : State) → Fitting s.part → Fitting (part_after deed s)
unfolding Fitting part_after
fitting-after deed s h = same-rules deed s.part.accounts ∙ h

-- NO CALL CHANGES THE PROFILE
pub step-profile : (room : ℕ) (s : State) (call : Call) → (step_in room s call).after.part.profile ≡ s.part.profile
unfolding step_in after part_after
step-profile room s call = refl

-- doing nothing leaves the state as it was
pub nothing-same : (s : State) → after nothing s ≡ s
unfolding after part_after clock_after accounts_after locks_after log_after register_after
nothing-same s = refl

-- and that is what a refusal does, Remaining, and Status
pub refused-same : (room : ℕ) (s : State) (call : Call) (n : ℕ) → refusal_of room s call ≡ suc n → (step_in room s call).after ≡ s
unfolding step_in judge unless
refused-same room s call n e = ap (λ (k : ℕ). after (unless k (judged s call)).deed s) e ∙ nothing-same s

pub remaining-same : (room : ℕ) (s : State) (time rule unit : ℕ) → (step_in room s (remaining time rule unit)).after ≡ s
unfolding step_in judge unless judged
remaining-same room s time rule unit = go (refusal_of room s (remaining time rule unit))
  where
    go : (n : ℕ) → after (unless n (judged s (remaining time rule unit))).deed s ≡ s
    go zero = nothing-same s
    go (suc n) = nothing-same s

pub status-same : (room : ℕ) (s : State) → (step_in room s status).after ≡ s
unfolding step_in judge unless judged refusal_of
status-same room s = nothing-same s
