-- When each call is refused: number by number, in document 01's words and in the order in which the calls look for them. `refusal_row n` is the row
-- of numbers of a refusal; the rows of all answers are `numbers`, `arm_row`, `clear_row` and `text_row`. Assumes nothing.
use Rattle.std.specs.Prelude.{ℕ, suc, ◌+◌, ◌≤◌, ◌<◌, ◌≡◌, ◌↔◌, ◌⊎◌, Bool, true, false, length, get_or, take}
use mathlib.Core.List.{List, [], ◌∷◌, ◌++◌, Memᴰ}
use Rattle.measures.specs.Ranges.{Range, In, times, units, premiums, offers, identities, reports_asked}
use Rattle.rules.specs.Valid.{has_rate}
use Rattle.rules.specs.declared.Level.TheVariants.{Firm, Root}
use Rattle.text.specs.Text.{lines}
use Rattle.line.specs.Line.{malformed, other_firm, out_of_range, level_clash, unit_clash, type_in, limit_in, time_in, root_in, is_firm_level, call_put, month, firm_in, rule_of}
use Rattle.profile.specs.Profile.{joined, too_many, start_of}
use Rattle.machine.specs.declared.Offer.{Offer}
use Rattle.machine.specs.State.{Profile, State, rules_in, roots_in}
use Rattle.rules.specs.Units.{units_of}
use Rattle.machine.specs.Remaining.{rule_numbered}
use Rattle.machine.specs.Calls.{Call, order, lockout, offer, remaining, status, send, report, close}
use Rattle.machine.specs.Locks.{is_locked}
use Rattle.machine.specs.Offers.{grant_of}
use Rattle.machine.specs.Effects.{last_reset}
use Rattle.machine.specs.Refusals.{first_of, used}
use Rattle.machine.specs.Register.{register_places, is_open, sent_at}
use Rattle.machine.specs.Judge.{log_places, numbers, is_refusal}
use Rattle.state.specs.State.{size, encode}
use Rattle.state.specs.Sound.{SoundState, Sound}
use Rattle.calls.specs.Calls.{mark_of, arm_answer, arm_memory, clear_answer, clear_memory, call_answer, call_memory, text_answer, text_memory}
use Rattle.capi.specs.Rows.{arm_row, clear_row, text_row}

-- a refusal gives its number, and zeros in the other answers
abbrev pub refusal_row : ℕ → List ℕ
refusal_row n = n ∷ 0 ∷ 0 ∷ 0 ∷ 0 ∷ []

-- ---- the memory

-- 1: the state memory is short
abbrev pub Short : List ℕ → Type 0
Short xs = length xs < size

-- it is not short, and the mark is 0
abbrev pub Unmarked : List ℕ → Type 0
Unmarked xs = (size ≤ length xs) × (mark_of xs ≡ 0)

-- it is not short, and the mark is not 0
abbrev pub Marked : List ℕ → Type 0
Marked xs = (size ≤ length xs) × (mark_of xs ≡ 0 → ⊥)

-- it holds this sound state: `Sound` is that it holds some
abbrev pub HoldsState : State → List ℕ → Type 0
HoldsState s xs = SoundState s × (take size xs ≡ encode s)

-- it holds a sound state of which something is so
abbrev pub Holding : List ℕ → (State → Type 0) → Type 0
Holding xs P = (s : State) × (HoldsState s xs × P s)

-- ---- the order of the numbers

-- a number is given if its sentence holds, and else what comes after it decides: so each number is given exactly if its sentence is the first that
-- holds, and `none` gives 0
infixr 1 ◌when◌else◌
abbrev pub ◌when◌else◌ : ℕ → Type 0 → (ℕ → Type 0) → ℕ → Type 0
◌when◌else◌ number sentence after n = ((n ≡ number) × sentence) ⊎ ((sentence → ⊥) × after n)

abbrev pub none : ℕ → Type 0
none n = n ≡ 0

-- ---- the calls on an armed unit

-- 12: a time out of range or below the clock
abbrev pub BadTime : State → ℕ → Type 0
BadTime s time = (times.most < time) ⊎ (time < s.part.clock)

-- 13: a root, a unit or an identity that is not known
abbrev pub NoRoot : State → ℕ → Type 0
NoRoot s root = roots_in s ≤ root

abbrev pub NoUnit : ℕ → Type 0
NoUnit unit = units.most < unit

abbrev pub NoIdentity : ℕ → Type 0
NoIdentity identity = identities.most < identity

-- 14: a premium, contracts or a number of reports out of its range
abbrev pub NotIn : Range → ℕ → Type 0
NotIn range n = In range n → ⊥

-- 18: an order of this identity is open away
abbrev pub Open : State → ℕ → Type 0
Open s identity = is_open s.part.register identity ≡ true

-- 19: more contracts are reported than the order has open, or none of its reports is left
abbrev pub Overdrawn : State → ℕ → ℕ → Type 0
Overdrawn s identity n = ((sent_at s.part.register identity).contracts.0 < n) ⊎ ((sent_at s.part.register identity).reports ≡ 0)

-- 15: the fill or the order is not locked out, the profile has a rate rule, and the log's places for the firm are fewer than its use at that time
-- and what is asked for
pub record NoPlaces (places : ℕ) (s : State) (o : Offer) (asked : ℕ) : Type 0 where
  pub firm_free : is_locked s.part.locks Firm ≡ false
  pub root_free : is_locked s.part.locks (Root o.root) ≡ false
  pub rated : has_rate (rules_in s) ≡ true
  pub full : places < used s o.time + asked

-- what each call on a sound state is refused for, in the order in which it looks, and what may come after, by the places that the log has for the
-- firm. At level 1 of a lockout the root must be 0; what remains is asked for a unit of the rule; an offer that would be granted something needs one
-- place, an order sent away as many as it has reports
unfoldable pub refusals_of : ℕ → State → Call → (ℕ → Type 0) → ℕ → Type 0
refusals_of places s (order time root reset) after = 12 when BadTime s time else 13 when (NoRoot s root ⊎ (last_reset < reset)) else after
refusals_of places s (lockout time level root) after =
    12 when BadTime s time else 13 when ((1 < level) ⊎ ((level ≡ 0) × NoRoot s root) ⊎ ((level ≡ 1) × (0 < root))) else after
refusals_of places s (offer o) after =
    12 when BadTime s o.time else 13 when (NoRoot s o.root ⊎ NoUnit o.unit) else 14 when (NotIn premiums o.premium ⊎ NotIn offers o.contracts) else
    15 when ((0 < grant_of s.log o s.part.accounts) × NoPlaces places s o 1) else after
refusals_of places s (remaining time rule unit) after =
    12 when BadTime s time else
    13 when ((length (rules_in s) ≤ rule) ⊎ (Memᴰ unit (units_of (rule_numbered (rules_in s) rule).scope) → ⊥)) else after
refusals_of places s status after = after
refusals_of places s (send o identity reports) after =
    12 when BadTime s o.time else 13 when (NoRoot s o.root ⊎ NoUnit o.unit ⊎ NoIdentity identity) else
    14 when (NotIn premiums o.premium ⊎ NotIn offers o.contracts ⊎ NotIn reports_asked reports) else
    17 when (register_places ≤ length s.part.register) else 18 when Open s identity else 15 when NoPlaces places s o reports else after
refusals_of places s (report time identity n) after =
    12 when BadTime s time else 13 when NoIdentity identity else 14 when NotIn offers n else
    18 when (Open s identity → ⊥) else 19 when Overdrawn s identity n else after
refusals_of places s (close time identity) after =
    12 when BadTime s time else 13 when NoIdentity identity else 18 when (Open s identity → ⊥) else after

-- before these it looks for 1, 4 and 2
abbrev pub call_refusals : List ℕ → Call → ℕ → Type 0
call_refusals xs call =
    1 when Short xs else 4 when (mark_of xs ≡ 0) else 2 when (Sound xs → ⊥) else (λ n. Holding xs (λ s. refusals_of log_places s call none n))

-- a call on an armed unit is refused with a number exactly if these give it, and not refused exactly if they give none
pub record CallRefusals (xs : List ℕ) (call : Call) : Type 0 where
  pub refused : (n : ℕ) → (numbers (call_answer xs call) ≡ refusal_row (suc n)) ↔ call_refusals xs call (suc n)
  pub accepted : (is_refusal (call_answer xs call) ≡ false) ↔ call_refusals xs call 0

-- ---- Arm

-- the profile of lines, one rule a line, for a firm
unfoldable pub profile_of : Profile → List (List ℕ) → Profile
profile_of p [] = p
profile_of p (line ∷ more) = profile_of (joined p (rule_of line)) more

-- the faults of a line, by number, after the lines of a profile: malformed; firm differs from line 1; limit or window out of range; root and T
-- clash; unit fields clash; one rule or root too many
abbrev pub faults : Profile → List ℕ → List (Bool × ℕ)
faults p line =
    (malformed line, 6)
    ∷ (other_firm p.firm line, 7)
    ∷ (out_of_range (type_in line) (limit_in line) (time_in line), 8)
    ∷ (level_clash (root_in line) (is_firm_level line), 9)
    ∷ (unit_clash (is_firm_level line) (call_put line) (month line), 10)
    ∷ (too_many p (rule_of line), 11)
    ∷ []

-- no line has a fault, each after those before it
unfoldable pub Faultless : Profile → List (List ℕ) → Type 0
Faultless p [] = Unit {0}
Faultless p (line ∷ more) = (first_of (faults p line) ≡ 0) × Faultless (joined p (rule_of line)) more

-- 5: the text is empty or longer than 65,536 bytes
abbrev pub Unsized : List ℕ → Type 0
Unsized text = (length text ≡ 0) ⊎ (65_536 < length text)

abbrev pub first_line : List ℕ → List ℕ
first_line text = get_or (lines text) 0 []

-- before the first line: the firm of that line, no root and no rule
abbrev pub start_in : List ℕ → Profile
start_in text = start_of (firm_in (first_line text))

-- the first faulty line of a text that is read from a start, counted from 1, and the lowest number that applies to it
pub record FirstFault (start : Profile) (text : List ℕ) (number place : ℕ) : Type 0 where
  pub before : List (List ℕ)
  pub line : List ℕ
  pub behind : List (List ℕ)
  pub parts : lines text ≡ before ++ (line ∷ behind)
  pub placed : place ≡ length before + 1
  pub fine : Faultless start before
  pub fault : first_of (faults (profile_of start before) line) ≡ number

-- the row of an accepted profile: its firm, rules and roots
abbrev pub accepted_row : Profile → List ℕ
accepted_row p = 0 ∷ 0 ∷ p.firm ∷ length p.rules ∷ length p.roots ∷ []

-- Arm looks for 1, 3, 5, then the first faulty line, by 6 to 11; a refusal gives the line with 6 to 11, and 0 for it with the others
pub record ArmRefusals (xs text : List ℕ) : Type 0 where
  pub one : (arm_row (arm_answer xs text) ≡ refusal_row 1) ↔ Short xs
  pub three : (arm_row (arm_answer xs text) ≡ refusal_row 3) ↔ Marked xs
  pub five : (arm_row (arm_answer xs text) ≡ refusal_row 5) ↔ (Unmarked xs × Unsized text)
  pub faulty :
      (number line : ℕ) → 6 ≤ number
      → (arm_row (arm_answer xs text) ≡ number ∷ line ∷ 0 ∷ 0 ∷ 0 ∷ [])
      ↔ (Unmarked xs × (1 ≤ length text) × (length text ≤ 65_536) × FirstFault (start_in text) text number line)
  -- and it is accepted, with the profile of its lines, exactly if none of these holds
  pub accepted :
      (arm_row (arm_answer xs text) ≡ accepted_row (profile_of (start_in text) (lines text)))
      ↔ (Unmarked xs × (1 ≤ length text) × (length text ≤ 65_536) × Faultless (start_in text) (lines text))

-- ---- Clear and Text

-- Clear looks for 1 alone
pub record ClearRefusals (xs : List ℕ) : Type 0 where
  pub one : (clear_row (clear_answer xs) ≡ refusal_row 1) ↔ Short xs
  pub accepted : (clear_row (clear_answer xs) ≡ refusal_row 0) ↔ (size ≤ length xs)

-- Text looks for 13, then 1
pub record TextRefusals (verdict : ℕ) (room : List ℕ) : Type 0 where
  pub thirteen : (text_row (text_answer verdict room) ≡ refusal_row 13) ↔ ((verdict ≡ 1 → ⊥) × (verdict ≡ 2 → ⊥))
  pub one : (text_row (text_answer verdict room) ≡ refusal_row 1) ↔ (((verdict ≡ 1) ⊎ (verdict ≡ 2)) × (length room < 20))

-- ---- what a refusal leaves

-- a refusal changes no lent number or byte
pub record RefusedKeeps : Type 0 where
  pub arm : (xs text : List ℕ) (n line : ℕ) → arm_row (arm_answer xs text) ≡ suc n ∷ line ∷ 0 ∷ 0 ∷ 0 ∷ [] → arm_memory xs text ≡ xs
  pub clear : (xs : List ℕ) (n : ℕ) → clear_row (clear_answer xs) ≡ refusal_row (suc n) → clear_memory xs ≡ xs
  pub call : (xs : List ℕ) (call : Call) (n : ℕ) → numbers (call_answer xs call) ≡ refusal_row (suc n) → call_memory xs call ≡ xs
  pub text : (verdict : ℕ) (room : List ℕ) (n : ℕ) → text_row (text_answer verdict room) ≡ refusal_row (suc n) → text_memory verdict room ≡ room
