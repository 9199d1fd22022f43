-- Demand 3: what holds of every run, said of its calls and their answers alone. Assumes nothing.
use Rattle.std.specs.Prelude.{ℕ, ◌<◌, ◌≡◌, ◌↔◌, true}
use mathlib.Core.List.{List, Memᴰ}
use Rattle.measures.specs.Ranges.{totals}
use Rattle.rules.specs.Rules.{ceiling}
use Rattle.rules.specs.Allowance.{All}
use Rattle.rules.specs.Units.{is_unit_of, of_unit}
use Rattle.rules.specs.declared.Level.{Level}
use Rattle.rules.specs.declared.Rule.{Rule}
use Rattle.machine.specs.State.{Profile, State}
use Rattle.machine.specs.Deeds.{Deed}
use Rattle.machine.specs.Locks.{is_locked}
use Rattle.machine.specs.Register.{is_open, sent_at}
use Rattle.demand.specs.Run.{Event}
use Rattle.demand.specs.History.{deeds_of}
use Rattle.demand.specs.Sums.{Within}
use Rattle.demand.specs.Away.{sends, closes, sent_in}
use Rattle.demand.specs.Locked.{Since, LockedBy}
use Rattle.demand.specs.Answers.{locked_in, clock_of, Told, Each}

-- every limit of a profile lies below what totals are held at, as those of every profile do that Arm accepts
abbrev pub Ranged : Profile → Type 0
Ranged p = All (λ rule. ceiling rule.limit < totals.most) p.rules

-- what is promised of a unit that was armed with these rules, by its state now and its history since
pub record Demand3 (rules : List Rule) (now : State) (history : List Event) : Type 0 where
  -- the fills that any rule counts stay within its limit and what came back from away markets, for each unit that it counts for: a root rule without
  -- unit fields holds for each of the four units by itself, a rule of one unit for that unit, a firm rule for all units together
  pub sums :
      (rule : Rule) → Memᴰ rule rules → (unit : ℕ) → is_unit_of rule.scope unit ≡ true → Within (of_unit rule unit) (deeds_of history)
  -- the firm, and every root, is locked exactly if a trip or a lockout locked it and no reset has lifted that since
  pub locks_exactly : (level : Level) → (is_locked now.part.locks level ≡ true) ↔ LockedBy rules level (deeds_of history)
  -- and so it was at each earlier moment: the test that the answers are told by means just this
  pub meaning : (level : Level) (deeds : List Deed) → (locked_in rules level deeds ≡ true) ↔ LockedBy rules level deeds
  -- an order sent away is open exactly if it was sent and no closing since has closed it, and what is left of it is what was reported since leaves
  pub opened :
      (identity : ℕ)
      → (is_open now.part.register identity ≡ true) ↔ Since (closes identity) (λ deed earlier. sends identity deed) (deeds_of history)
  pub orders :
      (identity : ℕ) → is_open now.part.register identity ≡ true → sent_at now.part.register identity ≡ sent_in identity (deeds_of history)
  -- every answer that is no refusal is told by the calls and answers before it
  pub answers : Each (Told rules) history
  -- the clock is the time of the last accepted call with a time, Remaining apart
  pub clock : now.part.clock ≡ clock_of history
