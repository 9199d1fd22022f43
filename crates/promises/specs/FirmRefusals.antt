-- When each call of a firm is refused, on memory that two firms share: number by number, in the order in which the calls look for them. Assumes
-- nothing.
use Rattle.std.specs.Prelude.{ℕ, suc, ◌*◌, ◌-◌, ◌<◌, ◌≡◌, ◌↔◌, ◌⊎◌, false, cond, List, [], ◌∷◌, length, get_or, take}
use Rattle.text.specs.Text.{lines}
use Rattle.line.specs.Line.{firm_in, malformed}
use Rattle.profile.specs.Profile.{start_of, firm_beside}
use Rattle.machine.specs.State.{Profile, State}
use Rattle.machine.specs.Calls.{Call}
use Rattle.machine.specs.Refusals.{used}
use Rattle.machine.specs.Judge.{numbers, is_refusal}
use Rattle.state.specs.State.{size}
use Rattle.state.specs.Sound.{Given}
use Rattle.firms.specs.Seats.{taken, Seats, facing, room_beside}
use Rattle.firms.specs.Sound.{SoundSeats}
use Rattle.seats.specs.Memory.{state_size, encode_seats, SoundMemory, firm_of, firm_answer, firm_memory, arm_answer, arm_memory, use_answer, clear_firm_answer, clear_firm_memory, clear_all_answer, clear_all_memory}
use Rattle.std.specs.declared.result.Result.TheVariants.{Ok, Err}
use Rattle.capi.specs.Rows.{arm_row, clear_row}
use Rattle.promises.specs.Refusals.{refusal_row, ◌when◌else◌, none, BadTime, refusals_of, Unsized, profile_of, Faultless, first_line, start_in, FirstFault, accepted_row}

-- ---- the memory and the firm

-- 1: the state memory is short
abbrev pub ShortState : List ℕ → Type 0
ShortState xs = length xs < state_size

-- 13: the firm's number is neither 0 nor 1
abbrev pub NoFirm : ℕ → Type 0
NoFirm firm = 1 < firm

-- the mark of a firm: 0 if it is not armed
abbrev pub firm_mark : List ℕ → ℕ → ℕ
firm_mark xs firm = get_or xs (firm * size) 0

-- the memory holds these seats, and they are sound
abbrev pub HoldsSeats : Seats → List ℕ → Type 0
HoldsSeats u xs = SoundSeats Given u × (take state_size xs ≡ encode_seats u)

-- it holds sound seats in which the firm is armed, and P holds of the places that the log has for it and of its part
pub record HoldingFirm (xs : List ℕ) (firm : ℕ) (P : ℕ → State → Type 0) : Type 0 where
  pub seats : Seats
  pub holds : HoldsSeats seats xs
  pub own : State
  pub seated : (facing (firm_of firm) seats).first ≡ taken own
  pub so : P (room_beside (facing (firm_of firm) seats).second) own

-- ---- the calls of an armed firm

-- every call of a firm looks for 1, 13, 4 and 2, and then for its own numbers
abbrev pub memory_then : List ℕ → ℕ → (ℕ → Type 0) → ℕ → Type 0
memory_then xs firm after =
    1 when ShortState xs else 13 when NoFirm firm else 4 when (firm_mark xs firm ≡ 0) else 2 when (SoundMemory xs → ⊥) else after

-- these are the call's numbers by the firm's part, with the places that the other leaves
abbrev pub firm_refusals : List ℕ → ℕ → Call → ℕ → Type 0
firm_refusals xs firm call = memory_then xs firm (λ n. HoldingFirm xs firm (λ places s. refusals_of places s call none n))

-- a firm's call is refused with a number exactly if these give it, and not refused exactly if they give none
pub record FirmCallRefusals (xs : List ℕ) (firm : ℕ) (call : Call) : Type 0 where
  pub refused : (n : ℕ) → (numbers (firm_answer xs firm call) ≡ refusal_row (suc n)) ↔ firm_refusals xs firm call (suc n)
  pub accepted : (is_refusal (firm_answer xs firm call) ≡ false) ↔ firm_refusals xs firm call 0

-- the use of the log is asked for at a time, whose number is 12
abbrev pub use_refusals : List ℕ → ℕ → ℕ → ℕ → Type 0
use_refusals xs firm time = memory_then xs firm (λ n. HoldingFirm xs firm (λ places s. (12 when BadTime s time else none) n))

-- it is refused with a number exactly if these give it, and else tells the firm's use at that time and the places that the log has for it
pub record UseRefusals (xs : List ℕ) (firm time : ℕ) : Type 0 where
  pub refused : (n : ℕ) → (use_answer xs firm time ≡ Err (suc n)) ↔ use_refusals xs firm time (suc n)
  pub told : use_refusals xs firm time 0 → HoldingFirm xs firm (λ places s. use_answer xs firm time ≡ Ok (record { used = used s time; places = places }))

-- ---- arming a firm

-- arming looks for 1, 13, 3 by the firm's mark, 2 if the other is marked and the state is not sound, and then for the text's numbers
abbrev pub unarmed_then : List ℕ → ℕ → (ℕ → Type 0) → ℕ → Type 0
unarmed_then xs firm after =
    1 when ShortState xs else 13 when NoFirm firm else 3 when (firm_mark xs firm ≡ 0 → ⊥) else
    2 when ((firm_mark xs (1 - firm) ≡ 0 → ⊥) × (SoundMemory xs → ⊥)) else after

-- of the text's numbers 5 alone comes without a line
abbrev pub firm_arm_refusals : List ℕ → ℕ → List ℕ → ℕ → Type 0
firm_arm_refusals xs firm text = unarmed_then xs firm (5 when Unsized text else none)

-- the name of the other firm, 0 if it is not armed
abbrev pub OtherName : List ℕ → ℕ → ℕ → Type 0
OtherName xs firm name =
    ((firm_mark xs (1 - firm) ≡ 0) × (name ≡ 0))
    ⊎ ((firm_mark xs (1 - firm) ≡ 0 → ⊥) × HoldingFirm xs (1 - firm) (λ places s. s.part.profile.firm ≡ name))

-- before the first line, beside a firm of this name: the firm that the lines have to name is that of line 1, and none if the other has its name
abbrev pub start_beside : ℕ → List ℕ → Profile
start_beside other text = start_of (firm_beside other text)

-- P holds of the other's name
abbrev pub Beside : List ℕ → ℕ → (ℕ → Type 0) → Type 0
Beside xs firm P = (other : ℕ) × (OtherName xs firm other × P other)

pub record FirmArmRefusals (xs : List ℕ) (firm : ℕ) (text : List ℕ) : Type 0 where
  -- a refusal without a line is the one that these give
  pub refused : (n : ℕ) → (arm_row (arm_answer xs firm text) ≡ refusal_row (suc n)) ↔ firm_arm_refusals xs firm text (suc n)
  -- one with a line is that of the first faulty line, by 6 to 11
  pub faulty :
      (n line : ℕ)
      → (arm_row (arm_answer xs firm text) ≡ suc n ∷ suc line ∷ 0 ∷ 0 ∷ 0 ∷ [])
      ↔ (firm_arm_refusals xs firm text 0 × Beside xs firm (λ other. FirstFault (start_beside other text) text (suc n) (suc line)))
  -- and the text is accepted, with the profile of its lines, exactly if none of these holds
  pub accepted :
      (arm_row (arm_answer xs firm text) ≡ accepted_row (profile_of (start_in text) (lines text)))
      ↔ (firm_arm_refusals xs firm text 0 × Beside xs firm (λ other. Faultless (start_beside other text) (lines text)))

-- what 7 says beside the other
pub record OtherNamed (xs : List ℕ) (firm : ℕ) (text : List ℕ) : Type 0 where
  -- beside no name, or one that line 1 does not have, a text is read as by itself
  pub another : (other : ℕ) → (other ≡ 0) ⊎ (firm_in (first_line text) ≡ other → ⊥) → start_beside other text ≡ start_in text
  -- where the other is armed under the name of line 1, that line has 6 if it is malformed, and else 7, before its 8 to 11
  pub same :
      firm_arm_refusals xs firm text 0 → (firm_mark xs (1 - firm) ≡ 0 → ⊥) → OtherName xs firm (firm_in (first_line text))
      → arm_row (arm_answer xs firm text) ≡ cond (malformed (first_line text)) 6 7 ∷ 1 ∷ 0 ∷ 0 ∷ 0 ∷ []

-- ---- clearing

-- one firm: 1, 13, and 2 for a state that is not sound, one in which no firm is armed among them
abbrev pub clear_firm_refusals : List ℕ → ℕ → ℕ → Type 0
clear_firm_refusals xs firm = 1 when ShortState xs else 13 when NoFirm firm else 2 when (SoundMemory xs → ⊥) else none

-- clearing a firm has the number that these give, and clearing all has 1 alone; 0 is done
pub record ClearFirmRefusals (xs : List ℕ) (firm : ℕ) : Type 0 where
  pub one : (n : ℕ) → (clear_row (clear_firm_answer xs firm) ≡ refusal_row n) ↔ clear_firm_refusals xs firm n
  pub all : (n : ℕ) → (clear_row (clear_all_answer xs) ≡ refusal_row n) ↔ (1 when ShortState xs else none) n

-- ---- what a refusal leaves

-- a refusal changes no lent number
pub record FirmRefusedKeeps (xs : List ℕ) (firm : ℕ) : Type 0 where
  pub arm : (text : List ℕ) (n line : ℕ) → arm_row (arm_answer xs firm text) ≡ suc n ∷ line ∷ 0 ∷ 0 ∷ 0 ∷ [] → arm_memory xs firm text ≡ xs
  pub call : (call : Call) (n : ℕ) → numbers (firm_answer xs firm call) ≡ refusal_row (suc n) → firm_memory xs firm call ≡ xs
  pub clear : (n : ℕ) → clear_row (clear_firm_answer xs firm) ≡ refusal_row (suc n) → clear_firm_memory xs firm ≡ xs
  pub clear_all : (n : ℕ) → clear_row (clear_all_answer xs) ≡ refusal_row (suc n) → clear_all_memory xs ≡ xs
