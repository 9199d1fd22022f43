-- What is done for a firm: arming, calls and clearing, with what each is answered and leaves. Assumes nothing.
use Rattle.std.specs.Prelude.{ℕ, zero, suc, Bool, true, false, not, cond, ◌&&◌, List, [], ◌∷◌, ltb, eqb}
use Rattle.rules.specs.Valid.{has_rate}
use Rattle.rules.specs.declared.Rule.{Rule}
use Rattle.machine.specs.Answer.{Answer, Refused}
use Rattle.machine.specs.State.{Profile, State, rules_in, armed}
use Rattle.machine.specs.Calls.{Call}
use Rattle.machine.specs.Deeds.{Deed, nothing, passing, filling, resetting, locking_out, sending, closing}
use Rattle.machine.specs.Refusals.{first_of}
use Rattle.machine.specs.Step.{after}
use Rattle.machine.specs.Judge.{Judgement, judge}
use Rattle.firms.specs.Seats.{Seat, empty, taken, Seats, vacant, facing, room_beside, left_by}

-- arming with a profile that the text gives, a call, and clearing the firm
pub data Doing : Type 0 where
  arm : Profile → Doing
  call : Call → Doing
  clear : Doing

-- a refusal by its number, or done; or what a call is answered
pub data Reply : Type 0 where
  refused : ℕ → Reply
  done : Reply
  answered : Answer → Reply

unfoldable pub is_taken : Seat → Bool
is_taken empty = false
is_taken (taken s) = true

-- all that a firm can tell of the other: whether it is armed, its name, and the room that it leaves
pub record Beside : Type 0 where
  pub armed : Bool
  pub name : ℕ
  pub room : ℕ

unfoldable pub name_of : Seat → ℕ
name_of empty = 0
name_of (taken s) = s.part.profile.firm

unfoldable pub beside_of : Seat → Beside
beside_of other = record { armed = is_taken other; name = name_of other; room = room_beside other }

-- an entry joins the log by a deed of a firm with these rules
unfoldable pub joins : List Rule → Deed → Bool
joins rules nothing = false
joins rules (passing time) = false
joins rules (filling source o n) = has_rate rules && ltb 0 n
joins rules (resetting time root effect) = false
joins rules (locking_out time level) = false
joins rules (sending time sent) = false
joins rules (closing time identity) = false

-- what the firm is answered, what it leaves of its own seat, and whether an entry joined the log
pub record Outcome : Type 0 where
  pub reply : Reply
  pub seat : Seat
  pub joined : Bool

-- a refusal leaves all as it was
unfoldable pub stays : Reply → Seat → Outcome
stays reply seat = record { reply = reply; seat = seat; joined = false }

-- 3: the firm is armed; 7: the other has the profile's name
unfoldable pub arm_refusal : Beside → Seat → Profile → ℕ
arm_refusal beside seat p = first_of ((is_taken seat, 3) ∷ (beside.armed && eqb p.firm beside.name, 7) ∷ [])

unfoldable pub armed_by : ℕ → Seat → Profile → Outcome
armed_by zero seat p = record { reply = done; seat = taken (armed p); joined = false }
armed_by (suc n) seat p = stays (refused (suc n)) seat

-- a call: 4 for a firm that is not armed; else it is judged by the machine, on a log with the room that the other leaves
unfoldable pub called_by : Judgement → State → Outcome
called_by judgement s = record {
  reply = answered judgement.answer;
  seat = taken (after judgement.deed s);
  joined = joins (rules_in s) judgement.deed;
}

unfoldable pub call_at : ℕ → Seat → Call → Outcome
call_at room empty c = stays (answered (Refused 4)) empty
call_at room (taken s) c = called_by (judge room s c) s

-- clearing a firm: 2 where no firm is armed
unfoldable pub clear_at : Bool → Seat → Outcome
clear_at armed (taken s) = record { reply = done; seat = empty; joined = false }
clear_at true empty = stays done empty
clear_at false empty = stays (refused 2) empty

unfoldable pub at_seat : Beside → Seat → Doing → Outcome
at_seat beside seat (arm p) = armed_by (arm_refusal beside seat p) seat p
at_seat beside seat (call c) = call_at beside.room seat c
at_seat beside seat clear = clear_at beside.armed seat

-- what is done for the firm in the first seat: when an entry joins the log, the other's old ones leave too
unfoldable pub outcome_of : Seats → Doing → Outcome
outcome_of u doing = at_seat (beside_of u.second) u.first doing

unfoldable pub after_first : Seats → Doing → Seats
after_first u doing = record { first = (outcome_of u doing).seat; second = left_by (outcome_of u doing).joined u.second }

-- and for any firm
abbrev pub reply_to : Bool → Seats → Doing → Reply
reply_to firm u doing = (outcome_of (facing firm u) doing).reply

abbrev pub after_doing : Bool → Seats → Doing → Seats
after_doing firm u doing = facing firm (after_first (facing firm u) doing)
