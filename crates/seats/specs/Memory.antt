-- The state in lent memory: its two seats side by side, each zeros or the numbers of an armed state. Assumes nothing.
use Rattle.std.specs.Prelude.{ℕ, ◌+◌, ◌*◌, ◌-◌, ◌≡◌, Bool, true, false, not, cond, ◌&&◌, ◌||◌, List, [], ◌∷◌, ◌++◌, length, get_or, take, drop, eqb, leb, ltb, Result}
use Rattle.tables.specs.Inner.Tables.{zeros, all_zero}
use Rattle.std.specs.declared.result.Result.TheVariants.{Ok, Err}
use Rattle.refusals.specs.declared.Refusal.{Refusal}
use Rattle.refusals.specs.Numbers.{refusal_number}
use Rattle.machine.specs.Answer.{Answer, Refused, answer_told}
use Rattle.machine.specs.State.{State, rules_in}
use Rattle.machine.specs.Step.{after}
use Rattle.machine.specs.Calls.{Call}
use Rattle.machine.specs.Refusals.{first_of, bad_time, used}
use Rattle.machine.specs.Judge.{judge, log_places, is_refusal}
use Rattle.state.specs.State.{size, encode, decode, stored}
use Rattle.state.specs.Sound.{Given, is_sound}
use Rattle.firms.specs.Seats.{Seat, empty, taken, Seats, vacant, facing, room_beside}
use Rattle.firms.specs.Doings.{arm, call, clear, Reply, refused, done, answered, is_taken, name_of, joins, reply_to, after_doing}
use Rattle.profile.specs.Profile.{Outcome, outcome_beside, reading_of}
use Rattle.profile.specs.Reading.{Reading, Refused as NotRead}
use Rattle.seats.specs.declared.offers.Called.{Called as WasCalled}
use Rattle.seats.specs.declared.Using.{Using}
use Rattle.firms.specs.Sound.{SoundSeats}

-- how many numbers the state takes
abbrev pub state_size : ℕ
state_size = 5526

-- the numbers of a firm's seat
abbrev pub seat_part : ℕ → List ℕ → List ℕ
seat_part firm xs = take size (drop (firm * size) xs)

unfoldable pub encode_seat : Seat → List ℕ
encode_seat empty = zeros size
encode_seat (taken s) = encode s

unfoldable pub decode_seat : List ℕ → Seat
decode_seat xs = cond (eqb (get_or xs 0 0) 0) empty (taken (decode xs))

unfoldable pub encode_seats : Seats → List ℕ
encode_seats u = encode_seat u.first ++ encode_seat u.second

-- memory that holds a state, with what it held past it
unfoldable pub stored_seats : Seats → List ℕ → List ℕ
stored_seats u xs = encode_seats u ++ drop state_size xs

unfoldable pub decode_seats : List ℕ → Seats
decode_seats xs = record { first = decode_seat (seat_part 0 xs); second = decode_seat (seat_part 1 xs) }

-- a sound state: its numbers are those of sound seats of which one at least is taken
unfoldable pub SoundMemory : List ℕ → Type 0
SoundMemory xs = (u : Seats) × (SoundSeats Given u × (((is_taken u.first || is_taken u.second) ≡ true) × (take state_size xs ≡ encode_seats u)))

-- ---- the test that the code runs

-- the numbers of one seat
unfoldable pub is_seat : List ℕ → Bool
is_seat xs = cond (eqb (get_or xs 0 0) 0) (all_zero xs) (is_sound xs)

-- two armed firms: the names differ, the log has room for the entries of both, and their uses are within it
unfoldable pub fit_together : State → State → Bool
fit_together s r =
    not (eqb s.part.profile.firm r.part.profile.firm) && leb (length s.log + length r.log) log_places
    && leb (used s s.part.clock + used r r.part.clock) log_places

-- at least one is armed, and two fit together
unfoldable pub fit_by : Seat → Seat → Bool
fit_by empty empty = false
fit_by empty (taken r) = true
fit_by (taken s) empty = true
fit_by (taken s) (taken r) = fit_together s r

unfoldable pub seats_fit : Seats → Bool
seats_fit u = fit_by u.first u.second

unfoldable pub is_sound_memory : List ℕ → Bool
is_sound_memory xs = leb state_size (length xs) && is_seat (seat_part 0 xs) && is_seat (seat_part 1 xs) && seats_fit (decode_seats xs)

-- ---- the calls

-- 1, 13 for a firm number above 1, 4 for a firm not armed, 2 for a state that is not sound
unfoldable pub firm_refusal : List ℕ → ℕ → ℕ
firm_refusal xs firm =
    first_of
    ((ltb (length xs) state_size, 1) ∷ (ltb 1 firm, 13) ∷ (eqb (get_or xs (firm * size) 0) 0, 4) ∷ (not (is_sound_memory xs), 2) ∷ [])

unfoldable pub answer_in : Reply → Answer
answer_in (answered a) = a
answer_in (refused n) = Refused n
answer_in done = Refused 0

-- firm 0 or firm 1
abbrev pub firm_of : ℕ → Bool
firm_of firm = eqb firm 1

unfoldable pub firm_answer : List ℕ → ℕ → Call → Answer
firm_answer xs firm c =
    cond (eqb (firm_refusal xs firm) 0) (answer_in (reply_to (firm_of firm) (decode_seats xs) (call c))) (Refused (firm_refusal xs firm))

-- a refusal changes nothing; any other answer leaves what the state's meaning leaves
unfoldable pub firm_memory : List ℕ → ℕ → Call → List ℕ
firm_memory xs firm c =
    cond (is_refusal (firm_answer xs firm c)) xs (stored_seats (after_doing (firm_of firm) (decode_seats xs) (call c)) xs)

-- ---- how much of the log a firm uses

-- 12 for a time that its calls would refuse; else its use at that time, and the places that it may use in all
unfoldable pub use_in : State → ℕ → ℕ → Result Using ℕ
use_in s places time = cond (bad_time s.part time) (Err 12) (Ok (record { used = used s time; places = places }))

unfoldable pub use_answer : List ℕ → ℕ → ℕ → Result Using ℕ
use_answer xs firm time =
    cond (eqb (firm_refusal xs firm) 0)
    (use_in (decode (seat_part firm xs)) (room_beside (facing (firm_of firm) (decode_seats xs)).second) time)
    (Err (firm_refusal xs firm))

-- ---- clearing

-- one firm: 1, 13, then 2 for a state that is not sound, or in which no firm is armed
unfoldable pub clear_refusal : List ℕ → ℕ → ℕ
clear_refusal xs firm = first_of ((ltb (length xs) state_size, 1) ∷ (ltb 1 firm, 13) ∷ (not (is_sound_memory xs), 2) ∷ [])

unfoldable pub clear_firm_answer : List ℕ → ℕ → Result (Unit {0}) ℕ
clear_firm_answer xs firm = cond (eqb (clear_refusal xs firm) 0) (Ok tt) (Err (clear_refusal xs firm))

unfoldable pub clear_firm_memory : List ℕ → ℕ → List ℕ
clear_firm_memory xs firm = cond (eqb (clear_refusal xs firm) 0) (stored_seats (after_doing (firm_of firm) (decode_seats xs) clear) xs) xs

-- the whole state, whatever the memory held
unfoldable pub clear_all_answer : List ℕ → Result (Unit {0}) ℕ
clear_all_answer xs = cond (ltb (length xs) state_size) (Err 1) (Ok tt)

unfoldable pub clear_all_memory : List ℕ → List ℕ
clear_all_memory xs = cond (ltb (length xs) state_size) xs (stored_seats vacant xs)

-- ---- arming

-- 1, 13, 3 for a firm that is armed, then 2 beside a seat that is marked, in a state that is not sound
unfoldable pub arm_refusal : List ℕ → ℕ → ℕ
arm_refusal xs firm =
    first_of
    ((ltb (length xs) state_size, 1)
    ∷ (ltb 1 firm, 13)
    ∷ (not (eqb (get_or xs (firm * size) 0) 0), 3)
    ∷ (not (eqb (get_or xs (size - firm * size) 0) 0) && not (is_sound_memory xs), 2)
    ∷ [])

-- what a text gives beside the other's name
unfoldable pub given_to : List ℕ → ℕ → List ℕ → Outcome
given_to xs firm text = outcome_beside (name_of (facing (firm_of firm) (decode_seats xs)).second) text

-- then 5, and the first faulty line, by 6 to 11
unfoldable pub arm_answer : List ℕ → ℕ → List ℕ → Reading
arm_answer xs firm text = cond (eqb (arm_refusal xs firm) 0) (reading_of (given_to xs firm text)) (NotRead (arm_refusal xs firm) 0)

-- an accepted text leaves what the state's meaning leaves; a seat whose mark is 0 was empty, whatever else it held
unfoldable pub arm_memory : List ℕ → ℕ → List ℕ → List ℕ
arm_memory xs firm text =
    cond (eqb (arm_refusal xs firm) 0)
    (cond (eqb (given_to xs firm text).refusal 0) (stored_seats (after_doing (firm_of firm) (decode_seats xs) (arm (given_to xs firm text).profile)) xs) xs) xs

-- ---- a call on a firm's own seat

-- what it is answered, and whether an entry joined the log
pub record Called : Type 0 where
  pub answer : Answer
  pub joined : Bool

-- what it is answered and leaves, with this room, and whether an entry joined the log
pub record Done (room : ℕ) (c : Call) (xs ys : List ℕ) (r : Called) : Type 0 where
  pub answer : r.answer ≡ (judge room (decode xs) c).answer
  pub joined : r.joined ≡ joins (rules_in (decode xs)) (judge room (decode xs) c).deed
  pub memory : ys ≡ stored (after (judge room (decode xs) c).deed (decode xs)) xs

-- an answer by which no entry joined
abbrev pub quiet : Answer → Called
quiet a = record { answer = a; joined = false }

-- what the code answers, in these words: by a refusal no entry joins
abbrev pub called_told : Result WasCalled Refusal → Called
called_told (Ok c) = record { answer = answer_told (Ok c.accepted); joined = c.joined }
called_told (Err r) = quiet (Refused (refusal_number r))
