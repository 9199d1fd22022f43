-- A unit's profile written out again: what the call answers, what arming with the text gives, and how long the text may be. Assumes nothing.
use Rattle.std.specs.Prelude.{ℕ, ◌≤◌, ◌<◌, ◌≡◌, List, ◌++◌, length, drop}
use Rattle.machine.specs.State.{armed}
use Rattle.profile.specs.Profile.{outcome_of}
use Rattle.profile.specs.Reading.{Accepted}
use Rattle.writing.specs.Writing.{text_of, text_most}
use Rattle.state.specs.State.{size, decode, stored}
use Rattle.calls.specs.Calls.{mark_of, arm_answer, arm_memory}
use Rattle.views.specs.Views.{Listed, Short, profile_answer, profile_room}

-- the text of the profile that a memory holds
abbrev pub text_in : List ℕ → List ℕ
text_in memory = text_of (decode memory).part.profile

-- memory that may be armed: it is long enough and its mark is 0, as cleared memory's is
abbrev pub MayBeArmed : List ℕ → Type 0
MayBeArmed fresh = (size ≤ length fresh) × (mark_of fresh ≡ 0)

-- what is promised of the profile of a memory that meets no refusal
pub record WrittenOut (memory : List ℕ) : Type 0 where
  -- with room for it the size is answered and the text stands in front; bytes past it are untouched
  pub written : (room : List ℕ) → length (text_in memory) ≤ length room
      → (profile_answer memory room ≡ Listed (length (text_in memory))) × (profile_room memory room ≡ text_in memory ++ drop (length (text_in memory)) room)
  -- in less room nothing is written, and the size that is needed is answered with 1
  pub short : (room : List ℕ) → length room < length (text_in memory)
      → (profile_answer memory room ≡ Short (length (text_in memory))) × (profile_room memory room ≡ room)
  -- the text is never too long for Arm: it has at most 12,544 bytes
  pub few : length (text_in memory) ≤ text_most
  -- memory that is armed with the text has the same firm, rules and roots, with nothing counted and nothing locked
  pub accepted : (fresh : List ℕ) → MayBeArmed fresh
      → arm_answer fresh (text_in memory)
      ≡ Accepted (decode memory).part.profile.firm (length (decode memory).part.profile.rules) (length (decode memory).part.profile.roots)
  pub armed_so : (fresh : List ℕ) → MayBeArmed fresh → arm_memory fresh (text_in memory) ≡ stored (armed (decode memory).part.profile) fresh
  -- number by number the memory that any other text leaves which gives this profile, such as the one that the unit was armed with
  pub same : (fresh text : List ℕ) → MayBeArmed fresh → outcome_of text ≡ record { profile = (decode memory).part.profile; refusal = 0; line = 0 }
      → arm_memory fresh (text_in memory) ≡ arm_memory fresh text
  -- and written again it is the same text
  pub again : (fresh : List ℕ) → MayBeArmed fresh → text_in (arm_memory fresh (text_in memory)) ≡ text_in memory
