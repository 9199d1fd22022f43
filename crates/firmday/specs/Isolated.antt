-- Isolation: what one firm is answered does not depend on the other, but for three answers, each with its condition. Assumes nothing.
use Rattle.std.specs.Prelude.{ℕ, ◌<◌, ◌≡◌, ◌⊎◌, Bool, true, cond, List, [], ◌∷◌, get_or}
use Rattle.machine.specs.Answer.{Answer, Refused}
use Rattle.machine.specs.Calls.{Call}
use Rattle.text.specs.Text.{lines}
use Rattle.line.specs.Line.{firm_in}
use Rattle.profile.specs.Profile.{outcome_of, reading_of}
use Rattle.profile.specs.Reading.{Reading, Refused as NotRead}
use Rattle.std.specs.Prelude.{Result}
use Rattle.std.specs.declared.result.Result.TheVariants.{Ok, Err}
use Rattle.firms.specs.Seats.{Seat, empty, facing, seat_of, use_of, own_places}
use Rattle.firms.specs.Doings.{is_taken, name_of}
use Rattle.firms.specs.Runs.{is_same}
use Rattle.seats.specs.Memory.{decode_seats, firm_answer, arm_answer, clear_firm_answer, clear_all_answer}
use Rattle.firmday.specs.Day.{Asking, arm, call, clear, clear_all, number_of, memory_after}

-- ---- what a firm does, and what it is answered

-- it is asked for this firm, or for the whole state, which is nobody's own doing
unfoldable pub concerns : Bool → Asking → Bool
concerns firm (arm other text) = is_same firm other
concerns firm (call other c) = is_same firm other
concerns firm (clear other) = is_same firm other
concerns firm clear_all = true

-- what concerns a firm, the first first
unfoldable pub own_of : Bool → List Asking → List Asking
own_of firm [] = []
own_of firm (a ∷ rest) = cond (concerns firm a) (a ∷ own_of firm rest) (own_of firm rest)

-- what is asked, and the memory that it is asked on
pub record Moment : Type 0 where
  pub memory : List ℕ
  pub asking : Asking

-- the moments that concern a firm, the first first
unfoldable pub moments_of : Bool → List ℕ → List Asking → List Moment
moments_of firm xs [] = []
moments_of firm xs (a ∷ rest) =
    cond (concerns firm a) (record { memory = xs; asking = a } ∷ moments_of firm (memory_after xs a) rest) (moments_of firm (memory_after xs a) rest)

-- the answer to an arming, to a call, or to a clearing
pub data Answered : Type 0 where
  read : Reading → Answered
  judged : Answer → Answered
  cleared : Result (Unit {0}) ℕ → Answered

unfoldable pub answer_on : List ℕ → Asking → Answered
answer_on xs (arm firm text) = read (arm_answer xs (number_of firm) text)
answer_on xs (call firm c) = judged (firm_answer xs (number_of firm) c)
answer_on xs (clear firm) = cleared (clear_firm_answer xs (number_of firm))
answer_on xs clear_all = cleared (clear_all_answer xs)

abbrev pub answer_at : Moment → Answered
answer_at m = answer_on m.memory m.asking

-- ---- the three exceptions, where a firm does the same on one memory and on another

-- the seat beside a firm's
abbrev pub beside_in : Bool → List ℕ → Seat
beside_in firm xs = (facing firm (decode_seats xs)).second

-- the firm that line 1 of a text names
abbrev pub named_in : List ℕ → ℕ
named_in text = firm_in (get_or (lines text) 0 [])

-- 7 with line 1, where the other has the name of the text; on the other memory it has not, and the text is judged by itself
pub record OtherNamed (firm : Bool) (xs ys : List ℕ) (text : List ℕ) : Type 0 where
  pub told : arm_answer xs (number_of firm) text ≡ NotRead 7 1
  pub same : named_in text ≡ name_of (beside_in firm xs)
  pub differs : named_in text ≡ name_of (beside_in firm ys) → ⊥
  pub itself : arm_answer ys (number_of firm) text ≡ reading_of (outcome_of text)
  pub never : arm_answer ys (number_of firm) text ≡ NotRead 7 1 → ⊥

-- 2 at clearing a firm that is not armed, where the other is not armed either; on the other memory it is
pub record NoneArmed (firm : Bool) (xs ys : List ℕ) : Type 0 where
  pub told : clear_firm_answer xs (number_of firm) ≡ Err 2
  pub own : (seat_of firm (decode_seats xs) ≡ empty) × (seat_of firm (decode_seats ys) ≡ empty)
  pub none : beside_in firm xs ≡ empty
  pub other : is_taken (beside_in firm ys) ≡ true
  pub done : clear_firm_answer ys (number_of firm) ≡ Ok tt

-- 15, where the other uses more than 192 places, and more than on the other memory
pub record OtherAbove (firm : Bool) (xs ys : List ℕ) (c : Call) : Type 0 where
  pub told : firm_answer xs (number_of firm) c ≡ Refused 15
  pub above : own_places < use_of (beside_in firm xs)
  pub less : use_of (beside_in firm ys) < use_of (beside_in firm xs)
  pub never : firm_answer ys (number_of firm) c ≡ Refused 15 → ⊥

-- the firm is told of the other by its answer on the first memory
unfoldable pub ToldOfOther : Bool → List ℕ → List ℕ → Asking → Type 0
ToldOfOther firm xs ys (arm other text) = OtherNamed firm xs ys text
ToldOfOther firm xs ys (call other c) = OtherAbove firm xs ys c
ToldOfOther firm xs ys (clear other) = NoneArmed firm xs ys
ToldOfOther firm xs ys clear_all = ⊥

-- ---- two histories

-- the same answers, moment by moment, up to the first that differs, and that one is one of the three
unfoldable pub SameUntil : Bool → List Moment → List Moment → Type 0
SameUntil firm [] [] = Unit {0}
SameUntil firm [] (k ∷ ks) = ⊥
SameUntil firm (m ∷ ms) [] = ⊥
SameUntil firm (m ∷ ms) (k ∷ ks) =
    ((answer_at m ≡ answer_at k) × SameUntil firm ms ks)
    ⊎ (ToldOfOther firm m.memory k.memory m.asking ⊎ ToldOfOther firm k.memory m.memory k.asking)

-- what a firm is answered in one history and in another
unfoldable pub Isolated : Bool → List ℕ → List Asking → List ℕ → List Asking → Type 0
Isolated firm xs qs ys rs = SameUntil firm (moments_of firm xs qs) (moments_of firm ys rs)
