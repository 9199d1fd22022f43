-- What the calls answer on lent memory, and the memory that they leave. Assumes nothing.
use Rattle.std.specs.Prelude.{ℕ, ◌+◌, ◌≡◌, Bool, false, not, cond, ◌&&◌, List, [], ◌∷◌, ◌++◌, length, get_or, drop, leb, ltb, eqb}
use Rattle.text.specs.Text.{bytes}
use Rattle.tables.specs.Inner.Tables.{zeros}
use Rattle.profile.specs.Profile.{outcome_of, reading_of}
use Rattle.profile.specs.Reading.{Reading, Refused as NotRead}
use Rattle.state.specs.State.{size, decode, stored}
use Rattle.machine.specs.State.{State, rules_in, armed}
use Rattle.rules.specs.Valid.{has_rate}
use Rattle.machine.specs.Calls.{Call}
use Rattle.machine.specs.Refusals.{first_of, bad_time, is_root, used, offer_faults, refusal_of}
use Rattle.machine.specs.Judge.{step, log_places, is_refusal}
use Rattle.machine.specs.Locks.{verdict_of}
use Rattle.state.specs.Sound.{is_sound}
use Rattle.measures.specs.Ranges.{is_in, units, premiums, offers}
use Rattle.machine.specs.declared.Offer.{Offer}
use Rattle.grant.specs.Inner.Grant.{Fillable}
use Rattle.machine.specs.Answer.{Answer, Refused}
use Rattle.std.specs.Prelude.{Result}
use Rattle.std.specs.declared.result.Result.TheVariants.{Ok, Err}

-- 1: the memory is short
unfoldable pub is_short : List ℕ → Bool
is_short xs = ltb (length xs) size

-- the armed mark
abbrev pub mark_of : List ℕ → ℕ
mark_of xs = get_or xs 0 0

-- Arm checks 1, 3, then the text: 5, then the first faulty line, by 6 to 11
unfoldable pub arm_refusal : List ℕ → ℕ
arm_refusal xs = first_of ((is_short xs, 1) ∷ (not (eqb (mark_of xs) 0), 3) ∷ [])

unfoldable pub arm_answer : List ℕ → List ℕ → Reading
arm_answer xs text = cond (eqb (arm_refusal xs) 0) (reading_of (outcome_of text)) (NotRead (arm_refusal xs) 0)

unfoldable pub arm_memory : List ℕ → List ℕ → List ℕ
arm_memory xs text =
    cond (eqb (arm_refusal xs) 0) (cond (eqb (outcome_of text).refusal 0) (stored (armed (outcome_of text).profile) xs) xs) xs

-- Clear sets the state to zeros, whatever it held
unfoldable pub clear_answer : List ℕ → Result (Unit {0}) ℕ
clear_answer xs = cond (is_short xs) (Err 1) (Ok tt)

unfoldable pub clear_memory : List ℕ → List ℕ
clear_memory xs = cond (is_short xs) xs (zeros size ++ drop size xs)

-- the other state calls check 1, 4, 2, then what the machine refuses
unfoldable pub memory_refusal : List ℕ → ℕ
memory_refusal xs = first_of ((is_short xs, 1) ∷ (eqb (mark_of xs) 0, 4) ∷ (not (is_sound xs), 2) ∷ [])

-- the memory's refusal; where it meets none, a number
abbrev pub memory_or : List ℕ → ℕ → ℕ
memory_or xs number = cond (eqb (memory_refusal xs) 0) number (memory_refusal xs)

-- the refusal that a call meets, 0 for none: that of the memory, else that of the machine
unfoldable pub refusal_in : List ℕ → Call → ℕ
refusal_in xs call = memory_or xs (refusal_of log_places (decode xs) call)

-- the part of it that every call with a time has in front: that of the memory, else 12
unfoldable pub timed_refusal : List ℕ → ℕ → ℕ
timed_refusal xs time = memory_or xs (first_of ((bad_time (decode xs).part time, 12) ∷ []))

unfoldable pub call_answer : List ℕ → Call → Answer
call_answer xs call = cond (eqb (memory_refusal xs) 0) (step (decode xs) call).answer (Refused (memory_refusal xs))

-- a refusal changes nothing; any other answer leaves the machine's state
unfoldable pub call_memory : List ℕ → Call → List ℕ
call_memory xs call = cond (is_refusal (call_answer xs call)) xs (stored (step (decode xs) call).after xs)

-- an offer's refusal by its numbers, before the log is looked at
unfoldable pub offer_refusal : List ℕ → Offer → ℕ
offer_refusal xs o = memory_or xs (first_of (offer_faults (decode xs).part o))

-- the profile has a rate rule, and the use at a time with so many places more passes the log's places
unfoldable pub is_short_of : State → ℕ → ℕ → Bool
is_short_of s time places = has_rate (rules_in s) && ltb log_places (used s time + places)

-- a sound memory, and an offer that its numbers do not refuse
pub record Met (xs : List ℕ) (o : Offer) : Type 0 where
  pub ready : memory_refusal xs ≡ 0
  pub timely : bad_time (decode xs).part o.time ≡ false
  pub known : not (is_root (decode xs).part o.root && is_in units o.unit) ≡ false
  pub priced : not (is_in premiums o.premium && is_in offers o.contracts) ≡ false

-- and that is not locked out
pub record Granting (xs : List ℕ) (o : Offer) : Type 0 where
  pub met : Met xs o
  pub asked : Fillable xs o
  pub free : verdict_of (decode xs).part.locks o.root ≡ 0

-- words said: 1 for room below 20 bytes, else they stand in front and the room after them is untouched
unfoldable pub say_answer : List ℕ → List ℕ → Result ℕ ℕ
say_answer words room = cond (ltb (length room) 20) (Err 1) (Ok (length words))

unfoldable pub say_memory : List ℕ → List ℕ → List ℕ
say_memory words room = cond (ltb (length room) 20) room (words ++ drop (length words) room)

-- Text for verdict 1 or 2; it checks 13, then 1
unfoldable pub text_answer : ℕ → List ℕ → Result ℕ ℕ
text_answer verdict room =
    cond (eqb verdict 1) (say_answer (bytes "f: RiskMgmtFirmLevel") room)
    (cond (eqb verdict 2) (say_answer (bytes "s: RiskMgmtSymLevel") room) (Err 13))

unfoldable pub text_memory : ℕ → List ℕ → List ℕ
text_memory verdict room =
    cond (eqb verdict 1) (say_memory (bytes "f: RiskMgmtFirmLevel") room)
    (cond (eqb verdict 2) (say_memory (bytes "s: RiskMgmtSymLevel") room) room)
