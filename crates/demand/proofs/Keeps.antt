-- Each deed keeps the invariant. Assumes nothing.
use Prim.Native.Nat.{◌≤◌}
use mathlib.Core.Path.{ap, ◌∙◌}
use native.Mathlib.Nat.{le_refl}
use mathlib.Core.List.{List, ◌∷◌}
use Rattle.machine.specs.State.{Profile, State, roots_in}
use Rattle.machine.specs.Deeds.{Deed, nothing, passing, filling, resetting, locking_out, sending, closing, clock_after}
use Rattle.machine.specs.Step.{part_after, after}
use Rattle.machine.proofs.Keeps.{same-rules}
use Rattle.machine.proofs.Meets.{Meets, registered-after}
use Rattle.demand.specs.Away.{sent_in}
use Rattle.demand.specs.Answers.{since}
use Rattle.demand.proofs.Orders.{opened_after, orders-kept}
use Rattle.demand.proofs.Invariant.{clock_in, Inv}
use Rattle.demand.proofs.Amounts.{right-after, kept-after}
use Rattle.demand.proofs.Trips.{tripped-after, by_user-after}

-- no deed goes back in time
later : (s : State) (deed : Deed) → Meets s deed → s.part.clock ≤ clock_after deed s.part.clock
unfolding Meets clock_after
later s nothing m = le_refl s.part.clock
later s (passing time) m = m.after
later s (filling source o n) m = m.time.after
later s (resetting time root effect) m = m.after
later s (locking_out time level) m = m.0.after
later s (sending time sent) m = m.time.after
later s (closing time identity) m = m.after

-- each deed keeps the invariant
pub deed-keeps : (p : Profile) (s : State) (h : List Deed) (i : Inv p s h) (deed : Deed) → Meets s deed → Inv p (after deed s) (deed ∷ h)
unfolding after part_after roots_in since clock_in sent_in
deed-keeps p s h i deed m = record {
  profile = i.profile;
  same = same-rules deed s.part.accounts ∙ i.same;
  right = right-after p s h i deed (later s deed m);
  kept = kept-after p s h i deed m;
  tripped = λ level. tripped-after p s h i deed level m ∙ rw (i.tripped level);
  by_user = λ level. by_user-after p s h i deed level ∙ rw (i.by_user level);
  clock = ap (clock_after deed) i.clock;
  registered = registered-after s i.registered deed m;
  opened = λ identity. opened_after identity s deed ∙ rw (i.opened identity);
  orders = λ identity o. orders-kept identity s deed m (i.orders identity) o;
}
