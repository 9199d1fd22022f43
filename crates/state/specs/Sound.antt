-- When a memory is sound: as document 01 says it, and as the test that the code runs. Assumes nothing.
use Rattle.std.specs.Prelude.{ℕ, ◌<◌, ◌^◌, ◌≡◌, Bool, ◌&&◌, ◌||◌, List, length, get_or, take, eqb, leb, ltb}
use Rattle.laws.specs.Folds.{every}
use Rattle.measures.specs.Ranges.{is_in, times}
use Rattle.rules.specs.Valid.{has_rate, is_total}
use Rattle.machine.specs.State.{Profile, State, rules_in, roots_in}
use Rattle.machine.specs.Entries.{are_ordered, is_flagged}
use Rattle.machine.specs.Sound.{SoundIn}
use Rattle.profile.specs.Profile.{outcome_of}
use Rattle.given.specs.Given.{is_made}
use Rattle.state.specs.State.{size, numbers_shape, encode, decode}
use Rattle.machine.specs.Register.{are_different}
use Rattle.machine.specs.Refusals.{used}
use Rattle.machine.specs.Judge.{log_places}

-- some accepted profile gives this firm, these roots and these rules
unfoldable pub Given : Profile → Type 0
Given p = (text : List ℕ) × (((i : ℕ) → get_or text i 0 < 256) × (outcome_of text ≡ record { profile = p; refusal = 0; line = 0 }))

-- a sound state, whose profile some accepted text gives: machine/specs/Sound says the sentences
abbrev pub SoundState : State → Type 0
SoundState s = SoundIn Given s

-- a sound memory: its numbers are those of a sound state. So the mark is 1, marks and flags are 0 or 1, and places not used hold 0
unfoldable pub Sound : List ℕ → Type 0
Sound xs = (s : State) × (SoundState s × (take size xs ≡ encode s))

-- what soundness asks of a state whose numbers stand in the map
unfoldable pub is_sound_state : State → Bool
is_sound_state s =
    is_in times s.part.clock && is_made s.part.profile && every (λ a. is_total a.rule a.total) s.part.accounts
    && ltb s.part.locks.tripped (2 ^ roots_in s)
    && ltb s.part.locks.by_user (2 ^ roots_in s)
    && (has_rate (rules_in s) || eqb (length s.log) 0)
    && (are_ordered 0 s.part.clock s.log && every is_flagged s.log)
    && are_different s.part.register
    && leb (used s s.part.clock) log_places

-- the test that the code runs: the memory is as the map says, and the state is sound
unfoldable pub is_sound : List ℕ → Bool
is_sound xs = leb size (length xs) && numbers_shape.test xs && is_sound_state (decode xs)
