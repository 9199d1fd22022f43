-- A unit's profile written out again gives the same unit. Assumes nothing.
use Prim.Native.Nat.{ℕ, suc, ◌≤◌, ◌<◌}
use mathlib.Core.Path.{◌≡◌, sym, ap, ◌∙◌}
use mathlib.Core.Bool.{true}
use mathlib.Core.List.{List, ◌++◌}
use lib.ListN.{length, drop}
use native.Mathlib.Nat.{suc-ne-zero}
use borrow.Author.Tests.{eq-eqb, ne_eqb, le-ltb, lt-ltb}
use Rattle.machine.specs.State.{Profile, State, armed}
use Rattle.machine.specs.Refusals.{first_of}
use Rattle.given.specs.Given.{is_made}
use Rattle.profile.specs.Profile.{Outcome, outcome_of, reading_of}
use Rattle.profile.specs.Reading.{Accepted}
use Rattle.writing.specs.Writing.{text_of}
use Rattle.writing.proofs.ReadBack.{text-bound, read_back}
use Rattle.state.specs.State.{size, decode, stored}
use Rattle.state.proofs.Exactly.{given-is-made, sound-decode, sound-state-fits}
use Rattle.state.proofs.Stored.{decode-stored}
use Rattle.calls.specs.Calls.{is_short, mark_of, arm_refusal, arm_answer, arm_memory, memory_refusal}
use Rattle.calls.proofs.Armed.{sound-memory}
use Rattle.views.specs.Views.{Listed, Short, NotListed, asked, list_answer, list_room, profile_answer, profile_room}
use Rattle.promises.specs.Written.{text_in, MayBeArmed, WrittenOut}
use Rattle.promises.proofs.Fresh.{fresh-sound, accepted-made}

-- memory that may be armed takes a text that gives a profile, and holds its armed state then
module _ (fresh text : List ℕ) (may : MayBeArmed fresh) (p : Profile) (gives : outcome_of text ≡ record { profile = p; refusal = 0; line = 0 }) where
  takes : arm_answer fresh text ≡ Accepted p.firm (length p.rules) (length p.roots)
  unfolding arm_answer arm_refusal is_short first_of reading_of
  takes = rw (le-ltb _ _ may.0, eq-eqb _ _ may.1, gives)

  holds : arm_memory fresh text ≡ stored (armed p) fresh
  unfolding arm_memory arm_refusal is_short first_of
  holds = rw (le-ltb _ _ may.0, eq-eqb _ _ may.1, gives)

-- a memory that meets a refusal is answered just that, and the room is untouched
pub written-refused : (memory room : List ℕ) (n : ℕ) → memory_refusal memory ≡ suc n → (profile_answer memory room ≡ NotListed (suc n)) × (profile_room memory room ≡ room)
unfolding profile_answer profile_room asked
written-refused memory room n e = (rw (e, ne_eqb (suc n) 0 (suc-ne-zero n)), rw (e, ne_eqb (suc n) 0 (suc-ne-zero n)))

-- WRITTEN OUT AGAIN: of every memory that meets no refusal
pub written_out : (memory : List ℕ) → memory_refusal memory ≡ 0 → WrittenOut memory
unfolding profile_answer profile_room asked list_answer list_room armed
written_out memory ready = record {
  written = λ room h. (rw (ready, le-ltb _ _ h), rw (ready, le-ltb _ _ h));
  short = λ room h. (rw (ready, lt-ltb _ _ h), rw (ready, lt-ltb _ _ h));
  few = text-bound p made;
  accepted = λ fresh may. takes fresh (text_of p) may p back;
  armed_so = λ fresh may. holds fresh (text_of p) may p back;
  same = λ fresh text may gives. holds fresh (text_of p) may p back ∙ sym (holds fresh text may p gives);
  again = λ fresh may.
      ap text_in (holds fresh (text_of p) may p back)
      ∙ ap (λ (s : State). text_of s.part.profile) (decode-stored (armed p) (sound-state-fits (armed p) (fresh-sound p made)) fresh);
}
  where
    p : Profile
    p = (decode memory).part.profile

    made : is_made p ≡ true
    made = given-is-made p (sound-decode memory (sound-memory memory ready)).given

    back : outcome_of (text_of p) ≡ record { profile = p; refusal = 0; line = 0 }
    back = read_back p made

-- the profile of a unit that was just armed is written as the text of what was read
pub taken-text : (fresh text : List ℕ) → MayBeArmed fresh → (outcome_of text).refusal ≡ 0 → text_in (arm_memory fresh text) ≡ text_of (outcome_of text).profile
unfolding arm_memory arm_refusal is_short first_of armed
taken-text fresh text may ok =
    let p = (outcome_of text).profile in
    let left : arm_memory fresh text ≡ stored (armed p) fresh = rw (le-ltb _ _ may.0, eq-eqb _ _ may.1, ok) in
    ap text_in left
    ∙ ap (λ (s : State). text_of s.part.profile) (decode-stored (armed p) (sound-state-fits (armed p) (fresh-sound p (accepted-made text ok))) fresh)
