-- When a state is sound, sentence by sentence. Assumes nothing.
use Rattle.std.specs.Prelude.{◌≤◌, ◌<◌, ◌^◌, ◌≡◌, true, false, length}
use Rattle.laws.specs.Folds.{every}
use Rattle.measures.specs.Ranges.{In, times}
use Rattle.rules.specs.Valid.{has_rate, is_total}
use Rattle.machine.specs.State.{Profile, State, rules_in, roots_in, Fitting}
use Rattle.machine.specs.Entries.{is_entry, are_ordered, is_flagged}
use Rattle.machine.specs.Register.{register_places, is_sent, are_different}
use Rattle.machine.specs.Refusals.{used}
use Rattle.machine.specs.Judge.{log_places}

-- a sound state, where `Given` tells which profiles some accepted text gives
pub record SoundIn (Given : Profile → Type 0) (s : State) : Type 0 where
  -- the clock is a time
  pub clock : In times s.part.clock
  -- firm, roots and rules are such as some accepted profile gives, and the accounts are theirs
  pub given : Given s.part.profile
  pub fitting : Fitting s.part
  -- each total is at most 10^18, and a rate rule has none
  pub totals : every (λ a. is_total a.rule a.total) s.part.accounts ≡ true
  -- no bit stands for a root beyond the last
  pub tripped : s.part.locks.tripped < 2 ^ roots_in s
  pub by_user : s.part.locks.by_user < 2 ^ roots_in s
  -- entries number 0 to 512, or 0 if no rule is a rate rule
  pub number : length s.log ≤ log_places
  pub none : has_rate (rules_in s) ≡ false → length s.log ≡ 0
  -- in order of time, none later than the clock, all fields in range
  pub ordered : are_ordered 0 s.part.clock s.log ≡ true
  pub entries : every (is_entry (roots_in s)) s.log ≡ true
  -- each with at least one flag at 1
  pub flagged : every is_flagged s.log ≡ true
  -- at most 64 orders sent away, their fields in range and their identities different
  pub few : length s.part.register ≤ register_places
  pub registered : every (is_sent (roots_in s)) s.part.register ≡ true
  pub different : are_different s.part.register ≡ true
  -- a use, at the clock, of at most 512
  pub in_use : used s s.part.clock ≤ log_places
