-- After each deed the marks are those that the deeds leave. Assumes nothing.
use Prim.Native.Nat.{ℕ}
use mathlib.Core.Path.{◌≡◌, refl, sym, ◌∙◌}
use mathlib.Core.Bool.{Bool, true, false, not, ◌&&◌, ◌||◌, and-false}
use mathlib.Core.List.{List}
use lib.Dec.{eqb}
use borrow.Author.Tests.{eqb-true, ne_eqb}
use Rattle.rules.specs.Rules.{level_of, covers}
use Rattle.rules.specs.declared.Level.{Level}
use Rattle.rules.specs.declared.Level.TheVariants.{Root}
use Rattle.rules.specs.declared.Scope.{Scope}
use Rattle.rules.specs.declared.Scope.TheVariants.{EveryFill, WholeRoot, OneUnit}
use Rattle.rules.specs.declared.Rule.{Rule}
use Rattle.rules.specs.declared.Account.{Account}
use Rattle.machine.specs.State.{Profile, State}
use Rattle.machine.specs.declared.Offer.{Offer}
use Rattle.machine.specs.declared.Effect.{Effect}
use Rattle.machine.specs.Effects.{lifting}
use Rattle.machine.specs.Deeds.{Source, Deed, nothing, passing, filling, resetting, locking_out, sending, closing}
use Rattle.machine.specs.Locks.{is_tripped, is_by_user}
use Rattle.machine.specs.Offers.{covers_offer, same_level, level_trips}
use Rattle.machine.specs.Step.{locks_after}
use Rattle.machine.proofs.Meets.{Meets}
use Rattle.demand.specs.History.{lifts}
use Rattle.demand.specs.Locked.{trips_on, locks_out, rule_trips}
use Rattle.demand.proofs.Lists.{any_none}
use Rattle.demand.proofs.Marks.{Only, lifted-tripped, lifted-by_user, tripped-tripped, tripped-by_user, locked_out-tripped, locked_out-by_user}
use Rattle.demand.proofs.Invariant.{Inv}
use Rattle.demand.proofs.Looked.{trips-same}

module _ (p : Profile) (s : State) (h : List Deed) (i : Inv p s h) where
  abbrev accounts : List Account
  accounts = s.part.accounts

  -- only a fill trips rules
  no-trip : (level : Level) (deed : Deed) → ((rule : Rule) → trips_on rule deed h ≡ false) → rule_trips p.rules level deed h ≡ false
  unfolding rule_trips
  no-trip level deed none =
      any_none (λ (rule : Rule). same_level (level_of rule.scope) level && trips_on rule deed h)
      (λ rule. rw (none rule) (and-false (same_level (level_of rule.scope) level))) p.rules

  -- two tests never hold together
  never : (a b : Bool) → (a ≡ true → b ≡ false) → (a && b) ≡ false
  never true b f = f refl
  never false b f = refl

  -- a number that is another root is not the offer's
  apart : (o : Offer) (q r : ℕ) → (r ≡ o.root → ⊥) → eqb q r ≡ true → eqb q o.root ≡ false
  apart o q r f e = ne_eqb q o.root (λ p. f (sym (eqb-true q r e) ∙ p))

  -- a rule of a root covers no offer for another
  other-root : (o : Offer) (scope : Scope) (r : ℕ) → (r ≡ o.root → ⊥) → (same_level (level_of scope) (Root r) && covers scope o.root o.unit) ≡ false
  unfolding same_level level_of covers
  other-root o EveryFill r f = refl
  other-root o (WholeRoot q) r f = never (eqb q r) (eqb q o.root) (apart o q r f)
  other-root o (OneUnit q u) r f = never (eqb q r) (eqb q o.root && eqb u o.unit) (λ e. rw (apart o q r f e))

  -- so a fill trips no other root than its own
  trips-only : (source : Source) (o : Offer) (n : ℕ) → Only o.root (level_trips source s.log o n accounts)
  unfolding level_trips covers_offer
  trips-only source o n r f = any_none _ (λ (a : Account). rw (other-root o a.rule.scope r f)) accounts

  -- a reset lifts the locks of no other root than its order's
  lifting-only : (effect : Effect) (root : ℕ) → Only root (lifting effect root)
  unfolding lifting
  lifting-only effect root r f = rw (ne_eqb r root f)

  -- what each deed leaves of a level's trip, and of its lockout by the user
  pub tripped-after : (deed : Deed) (level : Level) → Meets s deed
      → is_tripped (locks_after deed s) level ≡ (not (lifts level deed) && (rule_trips p.rules level deed h || is_tripped s.part.locks level))
  unfolding locks_after lifts trips_on Meets
  tripped-after nothing level m = rw (no-trip level nothing (λ rule. refl))
  tripped-after (passing time) level m = rw (no-trip level (passing time) (λ rule. refl))
  tripped-after (filling source o n) level m =
      tripped-tripped s.part.locks o.root (level_trips source s.log o n accounts) (trips-only source o n) level
      ∙ rw (trips-same p s h i o m.unit source n level m.time.after)
  tripped-after (resetting time root effect) level m =
      rw (no-trip level (resetting time root effect) (λ rule. refl))
      (lifted-tripped s.part.locks root (lifting effect root) (lifting-only effect root) level)
  tripped-after (locking_out time named) level m =
      rw (no-trip level (locking_out time named) (λ rule. refl)) (locked_out-tripped s.part.locks named level)
  tripped-after (sending time sent) level m = rw (no-trip level (sending time sent) (λ rule. refl))
  tripped-after (closing time identity) level m = rw (no-trip level (closing time identity) (λ rule. refl))

  pub by_user-after : (deed : Deed) (level : Level)
      → is_by_user (locks_after deed s) level ≡ (not (lifts level deed) && (locks_out level deed || is_by_user s.part.locks level))
  unfolding locks_after lifts locks_out
  by_user-after nothing level = refl
  by_user-after (passing time) level = refl
  by_user-after (filling source o n) level =
      tripped-by_user s.part.locks o.root (level_trips source s.log o n accounts) (trips-only source o n) level
  by_user-after (resetting time root effect) level =
      lifted-by_user s.part.locks root (lifting effect root) (lifting-only effect root) level
  by_user-after (locking_out time named) level = locked_out-by_user s.part.locks named level
  by_user-after (sending time sent) level = refl
  by_user-after (closing time identity) level = refl
