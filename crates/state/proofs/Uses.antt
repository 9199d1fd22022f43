-- The use of the log: the entries inside the longest window and the places kept for orders sent away. Assumes nothing.
use Prim.Native.Nat.{ℕ, ◌+◌, ◌≤◌}
use native.Mathlib.Omega.{arith}
use mathlib.Core.Path.{◌≡◌}
use mathlib.Core.Bool.{Bool, true, false, cond}
use lib.ListN.{length}
use lib.Dec.{leb, ltb}
use borrow.Author.Tests.{lt-ltb, le-ltb, ltb-true, le-leb, leb-true}
use Rattle.laws.proofs.Tests.{same_test}
use Rattle.rules.specs.Valid.{has_rate}
use Rattle.machine.specs.State.{State, rules_in, roots_in}
use Rattle.machine.specs.Entries.{recent, is_recent}
use Rattle.machine.specs.Offers.{longest}
use Rattle.machine.specs.Refusals.{used}
use Rattle.machine.specs.Judge.{log_places}
use Rattle.machine.specs.Register.{is_sent, kept_places}
use Rattle.machine.proofs.Lists.{sum-most, keep-le}
use Rattle.machine.proofs.Windows.{rate-longest}
use Rattle.machine.proofs.Register.{sent-in}
use Rattle.state.specs.Inner.Laid.{Fits}

module _ {s : State} (f : Fits s) where
  -- at most 1,024 places are kept
  pub kept-most : kept_places s.part.register ≤ 1024
  unfolding kept_places
  kept-most = omega (arith, sum-most (is_sent (roots_in s)) (λ sent. sent.reports) 16 (λ sent h. (sent-in (roots_in s) sent h).reports.1) s.part.register f.sent, f.few)

  -- none without a rate rule, else both together
  pub used-none : longest (rules_in s) ≡ 0 → (time : ℕ) → 0 ≡ used s time
  unfolding used
  used-none e time = rw ((rate-longest (roots_in s) (rules_in s) f.valid).0, le-ltb 0 (longest (rules_in s)) (omega (arith, e)))

  pub used-both : (longest (rules_in s) ≡ 0 → ⊥) → (time : ℕ) → length (recent (longest (rules_in s)) time s.log) + kept_places s.part.register ≡ used s time
  unfolding used
  used-both some time = rw ((rate-longest (roots_in s) (rules_in s) f.valid).0, lt-ltb 0 (longest (rules_in s)) (omega (arith, some)))

  -- no more than all entries and the kept places
  pub used-most : (time : ℕ) → used s time ≤ length s.log + kept_places s.part.register
  unfolding used recent
  used-most time = go (has_rate (rules_in s))
    where
      go : (b : Bool) → cond b (length (recent (longest (rules_in s)) time s.log) + kept_places s.part.register) 0
          ≤ length s.log + kept_places s.part.register
      go true = omega (arith, keep-le (is_recent (longest (rules_in s)) time) s.log)
      go false = omega arith

  pub window-most : longest (rules_in s) ≤ 86_400_000
  window-most = (rate-longest (roots_in s) (rules_in s) f.valid).1

-- at most 512 is below 513
pub most-below : (n : ℕ) → ltb n 513 ≡ leb n log_places
most-below n = same_test (ltb n 513) (leb n log_places) (λ h. le-leb n log_places (omega (arith, ltb-true n 513 h))) (λ h. lt-ltb n 513 (omega (arith, leb-true n log_places h)))
