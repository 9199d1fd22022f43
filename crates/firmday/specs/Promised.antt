-- What is promised of two firms on one state, whatever was asked for either since no firm was armed. Assumes nothing.
use Rattle.std.specs.Prelude.{ℕ, ◌+◌, ◌≤◌, ◌<◌, ◌≡◌, ◌⊎◌, Bool, not, List, ◌++◌, length, get_or, drop}
use Rattle.tables.specs.Inner.Tables.{zeros}
use Rattle.machine.specs.Answer.{Refused}
use Rattle.machine.specs.declared.Offer.{Offer}
use Rattle.machine.specs.State.{State}
use Rattle.machine.specs.Calls.{Call, offer, send}
use Rattle.machine.specs.Refusals.{used}
use Rattle.machine.specs.Judge.{Result}
use Rattle.demand.specs.Run.{run_of}
use Rattle.demand.specs.Demand.{Demand3}
use Rattle.demand.specs.Answers.{Each}
use Rattle.demand.specs.Words.{Words}
use Rattle.demand.specs.Moves.{Moves}
use Rattle.profile.specs.Reading.{Refused as NotRead}
use Rattle.state.specs.State.{size, decode}
use Rattle.std.specs.declared.result.Result.TheVariants.{Ok}
use Rattle.firms.specs.Seats.{empty, taken, vacant, seat_of, own_places}
use Rattle.firms.specs.Runs.{Day, no_day, NeverRefused}
use Rattle.firms.specs.Sound.{Fair}
use Rattle.seats.specs.Memory.{state_size, seat_part, decode_seats, SoundMemory, firm_refusal, firm_answer, firm_memory, arm_answer, arm_memory, clear_firm_answer, clear_firm_memory, clear_all_answer, clear_all_memory}
use Rattle.firmday.specs.Day.{Asking, number_of, memory_at, day_at}

-- memory on which no firm is armed: it is long enough, and both marks are 0, whatever else it holds
pub record Unarmed (memory : List ℕ) : Type 0 where
  pub long : state_size ≤ length memory
  pub first : get_or memory 0 0 ≡ 0
  pub second : get_or memory size 0 ≡ 0

-- a firm's day in this memory: the profile of its last arming, and its calls with their answers since, the newest first
abbrev pub day_on : Bool → List ℕ → List Asking → Day
day_on firm before asked = day_at firm before asked no_day

-- a firm is armed, and its state is this one
abbrev pub Armed : Bool → List ℕ → State → Type 0
Armed firm memory s = seat_of firm (decode_seats memory) ≡ taken s

-- what a call of a firm is answered, and the state that the memory holds for it after
abbrev pub lent_result : Bool → List ℕ → Call → Result
lent_result firm memory c = record {
  answer = firm_answer memory (number_of firm) c;
  after = decode (seat_part (number_of firm) (firm_memory memory (number_of firm) c));
}

-- what is promised of a firm that is armed, by its day and its state now
pub record FirmPromised (firm : Bool) (memory : List ℕ) (day : Day) (s : State) : Type 0 where
  -- its profile is that of its last arming
  pub profile : s.part.profile ≡ day.profile
  -- demand 3, of the profile's rules, its calls and answers since, and its state now
  pub demand : Demand3 day.profile.rules s day.events
  -- demand 3 in words, of each of these calls and answers
  pub words : Each (Words day.profile.rules) day.events
  -- and what one call more leaves
  pub moves : (c : Call) → Moves s c (lent_result firm memory c)
  -- none of these calls was refused because the memory is short (1), not sound (2), or the firm not armed (4)
  pub not_short : NeverRefused 1 day.events
  pub not_unsound : NeverRefused 2 day.events
  pub not_unarmed : NeverRefused 4 day.events
  -- and the next is refused by none of these, nor by its firm number (13): a 13 is the call's own
  pub ready : firm_refusal memory (number_of firm) ≡ 0
  -- a second arming is refused with 3, whatever its text, and changes nothing
  pub armed_once :
      (text : List ℕ) → (arm_answer memory (number_of firm) text ≡ NotRead 3 0) × (arm_memory memory (number_of firm) text ≡ memory)
  -- 192 places are its own: an offer below them, and a sending within them, is never refused with 15
  pub own_offers : (o : Offer) → used s o.time < own_places → firm_answer memory (number_of firm) (offer o) ≡ Refused 15 → ⊥
  pub own_sendings :
      (o : Offer) (identity reports : ℕ) → used s o.time + reports ≤ own_places
      → firm_answer memory (number_of firm) (send o identity reports) ≡ Refused 15 → ⊥
  -- a day without 15 is, answer for answer, a day of the machine with one firm and 512 places
  pub as_alone : NeverRefused 15 day.events → (calls : List Call) × ((run_of day.profile calls).history ≡ day.events)
  -- beside it, the part of a firm that is not armed is zeros
  pub beside : seat_of (not firm) (decode_seats memory) ≡ empty → seat_part (number_of (not firm)) memory ≡ zeros size
  -- clearing either firm is done: its part becomes zeros, and the other's stays number by number, as what is past the state does
  pub clears : (cleared : Bool) → clear_firm_answer memory (number_of cleared) ≡ Ok tt
  pub zeroed : (cleared : Bool) → seat_part (number_of cleared) (clear_firm_memory memory (number_of cleared)) ≡ zeros size
  pub stays :
      (cleared : Bool)
      → seat_part (number_of (not cleared)) (clear_firm_memory memory (number_of cleared)) ≡ seat_part (number_of (not cleared)) memory
  pub past_stays : (cleared : Bool) → drop state_size (clear_firm_memory memory (number_of cleared)) ≡ drop state_size memory

-- what is promised of the state, from memory on which no firm was armed, after all that was asked for both firms
pub record Promised (before : List ℕ) (asked : List Asking) (memory : List ℕ) : Type 0 where
  -- each firm that is armed has all of the above, by its own day
  pub firms : (firm : Bool) (s : State) → Armed firm memory s → FirmPromised firm memory (day_on firm before asked) s
  -- the memory is sound, or no firm is armed
  pub sound : SoundMemory memory ⊎ (decode_seats memory ≡ vacant)
  -- no firm's use passes 320
  pub fair : Fair (decode_seats memory)
  -- the numbers past the state are as they were
  pub past : drop state_size memory ≡ drop state_size before
  -- clearing the state leaves zeros, and what is past it as it was
  pub clears_all : clear_all_answer memory ≡ Ok tt
  pub zeros : clear_all_memory memory ≡ zeros state_size ++ drop state_size before

-- what is promised of every day of two firms
unfoldable pub DayPromised : List ℕ → List Asking → Type 0
DayPromised before asked = Promised before asked (memory_at before asked)
