-- The verdict, the trips and how the roots stand, in the demand's words. Assumes nothing.
use Prim.Native.Nat.{ℕ, zero, suc, ◌<◌}
use mathlib.Core.Path.{◌≡◌, refl, sym, ◌∙◌}
use mathlib.Core.Logic.{◌↔◌}
use mathlib.Core.Bool.{Bool, true, false, cond, ◌&&◌, false≢true, or-true}
use mathlib.Core.List.{List, Memᴰ}
use borrow.Author.Tests.{eqb-true, eq-eqb}
use native.Mathlib.Omega.{arith}
use Rattle.laws.proofs.Tests.{and_l, and_r}
use Rattle.laws.specs.Folds.{any_of}
use Rattle.bits.specs.Locks.{here, first}
use Rattle.rules.specs.Rules.{level_of}
use Rattle.rules.specs.declared.Level.{Level}
use Rattle.rules.specs.declared.Level.TheVariants.{Firm, Root}
use Rattle.rules.specs.declared.Rule.{Rule}
use Rattle.machine.specs.Deeds.{Deed}
use Rattle.machine.specs.Offers.{same_level}
use Rattle.demand.specs.History.{lifts}
use Rattle.demand.specs.Locked.{trips_on, locks_out, rule_trips, locks, LockedBy}
use Rattle.demand.specs.Answers.{one, tripped_in, by_user_in, locked_in, verdict_in, standing_in}
use Rattle.demand.specs.Words.{VerdictBy, TripsBy, Many, Lowest, StandingBy}
use Rattle.demand.proofs.Lists.{any-by}
use Rattle.demand.proofs.Since.{since-by}
use Rattle.demand.proofs.Theorem.{no-lift, locked-by}

pub verdict-by : (rules : List Rule) (root : ℕ) (deeds : List Deed) → VerdictBy rules root deeds (verdict_in rules root deeds)
unfolding verdict_in
verdict-by rules root deeds = go (locked_in rules Firm deeds) refl (locked_in rules (Root root) deeds) refl
  where
    firm : (locked_in rules Firm deeds ≡ true) ↔ LockedBy rules Firm deeds
    firm = locked-by rules Firm deeds

    its : (locked_in rules (Root root) deeds ≡ true) ↔ LockedBy rules (Root root) deeds
    its = locked-by rules (Root root) deeds

    go : (f : Bool) → locked_in rules Firm deeds ≡ f → (r : Bool) → locked_in rules (Root root) deeds ≡ r
        → VerdictBy rules root deeds (cond f 1 (cond r 2 0))
    go true ef r er = record {
      is_one = (λ e. firm.0 ef, λ l. refl);
      is_two = (λ e. absurd (omega arith), λ l. absurd (l.0 (firm.0 ef)));
    }
    go false ef true er = record {
      is_one = (λ e. absurd (omega arith), λ l. absurd (false≢true (sym ef ∙ firm.1 l)));
      is_two = (λ e. (λ l. false≢true (sym ef ∙ firm.1 l), its.0 er), λ l. refl);
    }
    go false ef false er = record {
      is_one = (λ e. absurd (omega arith), λ l. absurd (false≢true (sym ef ∙ firm.1 l)));
      is_two = (λ e. absurd (omega arith), λ l. absurd (false≢true (sym er ∙ its.1 l.1)));
    }

same-level : (a b : Level) → (same_level a b ≡ true) ↔ (a ≡ b)
unfolding same_level
same-level a b = (to a b, λ e. rw e (self b))
  where
    self : (b : Level) → same_level b b ≡ true
    self Firm = refl
    self (Root r) = eq-eqb r r refl

    to : (a b : Level) → same_level a b ≡ true → a ≡ b
    to Firm Firm e = refl
    to Firm (Root r) e = absurd (false≢true e)
    to (Root r) Firm e = absurd (false≢true e)
    to (Root r) (Root q) e = rw (eqb-true r q e)

-- the test of a level's trips means that a rule of the level trips
pub trips-by : (rules : List Rule) (level : Level) (deed : Deed) (earlier : List Deed)
    → (rule_trips rules level deed earlier ≡ true) ↔ TripsBy rules level deed earlier
unfolding rule_trips
trips-by rules level deed earlier = (
  λ e. let w = any.0 e in (w.0, w.1, (of w.0).0 (and_l _ _ w.2), and_r (same_level (level_of w.0.scope) level) _ w.2),
  λ w. any.1 (w.0, w.1, rw ((of w.0).1 w.2, w.3)),
)
  where
    any : (any_of (λ rule. same_level (level_of rule.scope) level && trips_on rule deed earlier) rules ≡ true)
        ↔ ((rule : Rule) × Memᴰ rule rules × ((same_level (level_of rule.scope) level && trips_on rule deed earlier) ≡ true))
    any = any-by (λ rule. same_level (level_of rule.scope) level && trips_on rule deed earlier) rules

    of : (rule : Rule) → (same_level (level_of rule.scope) level ≡ true) ↔ (level_of rule.scope ≡ level)
    of rule = same-level (level_of rule.scope) level

-- the lowest number that a test passes
lowest-first : (n : ℕ) (P : ℕ → Type 0) (test : ℕ → Bool) → ((r : ℕ) → (test r ≡ true) ↔ P r) → Lowest P n (first (λ r. one (test r)) n)
unfolding first here
lowest-first zero P test by = record { within = omega arith; holds = λ l. absurd (omega arith); none = λ r l. absurd (omega arith) }
lowest-first (suc n) P test by = go (test 0) refl (lowest-first n (λ r. P (suc r)) (λ r. test (suc r)) (λ r. by (suc r)))
  where
    below : {t : ℕ} → test 0 ≡ false → Lowest (λ r. P (suc r)) n t → (r : ℕ) → r < suc t → P r → ⊥
    below e ih zero l p = false≢true (sym e ∙ (by 0).1 p)
    below e ih (suc r) l p = ih.none r (omega arith) p

    go : {t : ℕ} (b : Bool) → test 0 ≡ b → Lowest (λ r. P (suc r)) n t → Lowest P (suc n) (here (one b) t)
    go true e ih = record { within = omega arith; holds = λ l. (by 0).0 e; none = λ r l. absurd (omega arith) }
    go false e ih = record { within = omega (arith, ih.within); holds = λ l. ih.holds (omega arith); none = below e ih }

-- the roots stand as the deeds leave them
pub standing_by : (rules : List Rule) (deeds : List Deed) → StandingBy rules deeds (standing_in rules deeds)
unfolding standing_in Many locks
standing_by rules deeds = record {
  tripped = (λ r. tripped_in rules (Root r) deeds, λ r. since-by (lifts (Root r)) (rule_trips rules (Root r)) (trip-lifts (Root r)) deeds, refl);
  user = (λ r. by_user_in (Root r) deeds, λ r. since-by (lifts (Root r)) (λ deed earlier. locks_out (Root r) deed) (lockout-lifts (Root r)) deeds, refl);
  locked = (λ r. locked_in rules (Root r) deeds, λ r. locked-by rules (Root r) deeds, refl);
  lowest = lowest-first 64 (λ r. LockedBy rules (Root r) deeds) (λ r. locked_in rules (Root r) deeds) (λ r. locked-by rules (Root r) deeds);
}
  where
    trip-lifts : (level : Level) (deed : Deed) (earlier : List Deed) → rule_trips rules level deed earlier ≡ true → lifts level deed ≡ false
    trip-lifts level deed earlier e = no-lift rules level deed earlier (rw e)

    lockout-lifts : (level : Level) (deed : Deed) (earlier : List Deed) → locks_out level deed ≡ true → lifts level deed ≡ false
    lockout-lifts level deed earlier e = no-lift rules level deed earlier (rw e (or-true (rule_trips rules level deed earlier)))
