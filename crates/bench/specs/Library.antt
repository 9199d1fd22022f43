-- A library for lent memory, as any functions at all, what it is for one to meet the contracts of `calls`, and what it answers to a day of calls.
-- Assumes nothing.
use Rattle.std.specs.Prelude.{ℕ, ◌≤◌, ◌≡◌, Bool, true, List, [], ◌∷◌, length}
use Rattle.machine.specs.Judge.{is_refusal}
use Rattle.profile.specs.Reading.{Reading, Accepted, Refused as NotRead}
use Rattle.profile.specs.Profile.{outcome_of}
use Rattle.state.specs.State.{size}
use Rattle.text.specs.Text.{bytes}
use Rattle.machine.specs.State.{State}
use Rattle.machine.specs.declared.Offer.{Offer}
use Rattle.machine.specs.Answer.{Answer, Judged}
use Rattle.calls.specs.Calls.{mark_of, arm_answer, arm_memory, clear_answer, clear_memory, call_answer, call_memory, text_answer, text_memory}
use Rattle.std.specs.Prelude.{Result}
use Rattle.demand.specs.Run.{Event}
use Rattle.demand.specs.Demand.{Demand3}
use Rattle.bench.specs.Lent.{Memory, Text, Verdict, Called, Offered, called}

-- an answer, and the memory after it
pub record Reply (A : Type 0) : Type 0 where
  pub answer : A
  pub memory : Memory

-- what Text answers, and its room after it
pub record Saying : Type 0 where
  pub answer : Result ℕ ℕ
  pub room : Text

-- the eleven calls: Arm on a memory and a text; Clear; order, lockout, offer, Remaining, Status, send, report and close, as they are called; Text for a verdict, in a room
pub record Library : Type 0 where
  pub arm : Memory → Text → Reply Reading
  pub clear : Memory → Reply (Result (Unit {0}) ℕ)
  pub call : Memory → Called → Reply Answer
  pub text : Verdict → Text → Saying

-- it meets the contracts: each answer, and each memory and room after, is as they say
pub record Meets (l : Library) : Type 0 where
  pub arm_answers : (m : Memory) (t : Text) → (l.arm m t).answer ≡ arm_answer m.now t.now
  pub arm_leaves : (m : Memory) (t : Text) → (l.arm m t).memory.now ≡ arm_memory m.now t.now
  pub clear_answers : (m : Memory) → (l.clear m).answer ≡ clear_answer m.now
  pub clear_leaves : (m : Memory) → (l.clear m).memory.now ≡ clear_memory m.now
  pub call_answers : (m : Memory) (c : Called) → (l.call m c).answer ≡ call_answer m.now c.call
  pub call_leaves : (m : Memory) (c : Called) → (l.call m c).memory.now ≡ call_memory m.now c.call
  pub text_answers : (v : Verdict) (room : Text) → (l.text v room).answer ≡ text_answer v.number room.now
  pub text_leaves : (v : Verdict) (room : Text) → (l.text v room).room.now ≡ text_memory v.number room.now

-- a memory that may be armed: it is long enough, and its mark is 0
pub record Unarmed (m : Memory) : Type 0 where
  pub long : size ≤ length m.now
  pub mark : mark_of m.now ≡ 0

-- what is answered to calls, one after the other
unfoldable pub answers_by : Library → Memory → List Called → List Answer
answers_by l m [] = []
answers_by l m (c ∷ day) = (l.call m c).answer ∷ answers_by l (l.call m c).memory day

-- the refusal in Arm's answer, 0 if there is none
unfoldable pub arm_refusal_in : Reading → ℕ
arm_refusal_in (Accepted firm rules roots) = 0
arm_refusal_in (NotRead number line) = number

-- the calls and answers of a day, the newest first, before them those of an earlier part of it
unfoldable pub history_by : Library → Memory → List Called → List Event → List Event
history_by l m [] before = before
history_by l m (c ∷ day) before = history_by l (l.call m c).memory day (record { call = c.call; answer = (l.call m c).answer } ∷ before)

-- its days meet demand 3, whatever it keeps in its memory: after an Arm that it accepts, the calls and its answers are such as demand 3 asks for, with
-- some state
abbrev pub MeetsDemand3 : Library → Type 0
MeetsDemand3 l =
    (m : Memory) (t : Text) (firm rules roots : ℕ) → (l.arm m t).answer ≡ Accepted firm rules roots → (day : List Called)
    → (now : State) × Demand3 (outcome_of t.now).profile.rules now (history_by l (l.arm m t).memory day [])

-- ---- libraries that document 01 shuts out

-- one that refuses everything: each text, or each call
abbrev pub RefusesTexts : Library → Type 0
RefusesTexts l = (m : Memory) (t : Text) → arm_refusal_in (l.arm m t).answer ≡ 0 → ⊥

abbrev pub RefusesCalls : Library → Type 0
RefusesCalls l = (m : Memory) (c : Called) → is_refusal (l.call m c).answer ≡ true

-- one that grants a fixed number to each offer that is neither refused nor locked out
abbrev pub GrantsAlways : Library → ℕ → Type 0
GrantsAlways l g = (m : Memory) (o : Offered) (grant : ℕ) (root firm : Bool) → (l.call m (called o)).answer ≡ Judged 0 grant root firm → grant ≡ g

-- one that stores nothing: Arm leaves the memory as it was, or each offer does
abbrev pub ArmStoresNothing : Library → Type 0
ArmStoresNothing l = (m : Memory) (t : Text) → (l.arm m t).memory.now ≡ m.now

abbrev pub StoresNoFill : Library → Type 0
StoresNoFill l = (m : Memory) (o : Offered) → (l.call m (called o)).memory.now ≡ m.now

-- one that counts the first fill alone, and keeps its clock right: an offer that comes after two others, none of them early, is answered as after
-- the first of them alone
abbrev pub CountsFirstOnly : Library → Type 0
CountsFirstOnly l =
    (m : Memory) (first second third : Offered) → first.offer.time ≤ second.offer.time → second.offer.time ≤ third.offer.time
    → (l.call (l.call (l.call m (called first)).memory (called second)).memory (called third)).answer
    ≡ (l.call (l.call m (called first)).memory (called third)).answer

-- what the first fill alone is tried with: a profile of one rule, 100 contracts in all, and an offer of 40
abbrev pub hundred : List ℕ
hundred = bytes "ABCD,abs_vol,XYZ,100"

abbrev pub forty : Offer
forty = record { time = 0; root = 0; unit = 0; premium = 10_000; contracts = 40 }

-- the memory that a library's Arm leaves; what an offer is answered on a memory, and the memory after it
abbrev pub armed_by : Library → Memory → Text → Memory
armed_by l m t = (l.arm m t).memory

abbrev pub answer_to : Library → Offered → Memory → Answer
answer_to l o m = (l.call m (called o)).answer

abbrev pub memory_left_by : Library → Offered → Memory → Memory
memory_left_by l o m = (l.call m (called o)).memory
