-- A day of a state on lent memory: what is asked for each firm, the memory that it leaves, and a firm's calls with their answers. Assumes nothing.
use Rattle.std.specs.Prelude.{ℕ, Bool, true, false, cond, List, [], ◌∷◌, ◌++◌, eqb}
use Rattle.machine.specs.State.{Profile}
use Rattle.machine.specs.Calls.{Call}
use Rattle.profile.specs.Profile.{outcome_of}
use Rattle.profile.specs.Reading.{Reading, Accepted, Refused as NotRead}
use Rattle.firms.specs.Doings.{arm as arming, call as calling, clear as clearing, Reply, refused, done}
use Rattle.std.specs.Prelude.{Result}
use Rattle.std.specs.declared.result.Result.TheVariants.{Ok, Err}
use Rattle.firms.specs.Runs.{Asked, of, clear_all as all_cleared, is_same, Day}
use Rattle.seats.specs.Memory.{arm_answer, arm_memory, firm_answer, firm_memory, clear_firm_memory, clear_all_memory}

-- what is asked for firm 0 (false) or firm 1 (true): arming with a text, a call, clearing the firm; and clearing the state
pub data Asking : Type 0 where
  arm : Bool → List ℕ → Asking
  call : Bool → Call → Asking
  clear : Bool → Asking
  clear_all : Asking

unfoldable pub number_of : Bool → ℕ
number_of false = 0
number_of true = 1

-- the memory after what is asked, and after all of it, the first first
unfoldable pub memory_after : List ℕ → Asking → List ℕ
memory_after xs (arm firm text) = arm_memory xs (number_of firm) text
memory_after xs (call firm c) = firm_memory xs (number_of firm) c
memory_after xs (clear firm) = clear_firm_memory xs (number_of firm)
memory_after xs clear_all = clear_all_memory xs

unfoldable pub memory_at : List ℕ → List Asking → List ℕ
memory_at xs [] = xs
memory_at xs (a ∷ rest) = memory_at (memory_after xs a) rest

-- a firm's day, as the memory answers it: its calls and their answers since it was armed, the newest first, and the text's profile
unfoldable pub armed_day : Reading → Profile → Day → Day
armed_day (Accepted firm rules roots) p day = record { profile = p; events = [] }
armed_day (NotRead number line) p day = day

unfoldable pub day_after : Bool → List ℕ → Asking → Day → Day
day_after firm xs (arm other text) day = cond (is_same firm other) (armed_day (arm_answer xs (number_of other) text) (outcome_of text).profile day) day
day_after firm xs (call other c) day =
    cond (is_same firm other)
    (record { profile = day.profile; events = record { call = c; answer = firm_answer xs (number_of other) c } ∷ day.events }) day
day_after firm xs (clear other) day = day
day_after firm xs clear_all day = day

unfoldable pub day_at : Bool → List ℕ → List Asking → Day → Day
day_at firm xs [] day = day
day_at firm xs (a ∷ rest) day = day_at firm (memory_after xs a) rest (day_after firm xs a day)

-- ---- the same in the state's meaning: a text that is refused by itself asks nothing of the state

unfoldable pub asked : Asking → List Asked
asked (arm firm text) = cond (eqb (outcome_of text).refusal 0) (of firm (arming (outcome_of text).profile) ∷ []) []
asked (call firm c) = of firm (calling c) ∷ []
asked (clear firm) = of firm clearing ∷ []
asked clear_all = all_cleared ∷ []

unfoldable pub asked_all : List Asking → List Asked
asked_all [] = []
asked_all (a ∷ rest) = asked a ++ asked_all rest

-- ---- what is answered, as the state's meaning puts it

unfoldable pub read_reply : Reading → Reply
read_reply (Accepted firm rules roots) = done
read_reply (NotRead number line) = refused number

unfoldable pub clear_reply : Result (Unit {0}) ℕ → Reply
clear_reply (Ok tt) = done
clear_reply (Err number) = refused number
