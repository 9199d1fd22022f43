-- No library that meets the contracts refuses everything, grants a fixed number, stores nothing, counts the first fill alone, or invents what
-- Remaining or Status say. Assumes nothing.
use Prim.Native.Nat.{ℕ, zero, suc, ◌^◌}
use native.Mathlib.Omega.{arith}
use mathlib.Core.Path.{◌≡◌, refl, sym, ap, ◌∙◌, subst}
use mathlib.Core.Logic.{◌↔◌}
use mathlib.Core.Bool.{Bool, true, false, false≢true}
use mathlib.Core.List.{List, [], ◌∷◌}
use Rattle.rules.specs.Allowance.{Largest, KeepsAll}
use Rattle.tables.specs.Inner.Tables.{zeros}
use Rattle.laws.specs.Folds.{every}
use Rattle.machine.specs.State.{State, armed as just_armed}
use Rattle.machine.specs.Calls.{offer, remaining, status}
use Rattle.machine.specs.Locks.{verdict_of}
use Rattle.machine.specs.Offers.{grant_of, covering}
use Rattle.machine.specs.Remaining.{account_for, left_of, standing}
use Rattle.machine.specs.Judge.{filled, offered as offered_so, judged, step, is_refusal}
use Rattle.shapes.proofs.Tables.{length-zeros}
use Rattle.profile.specs.Profile.{outcome_of}
use Rattle.state.specs.State.{size, decode}
use Rattle.machine.specs.declared.Offer.{Offer}
use Rattle.machine.specs.Answer.{Refused, Judged, Left, Standing as Stand}
use Rattle.machine.proofs.Grants.{grant-largest}
use Rattle.calls.specs.Calls.{memory_refusal, call_answer, refusal_in}
use Rattle.calls.proofs.Armed.{refusal-unarmed}
use Rattle.promises.proofs.Holds.{ready-holds, holds-ready}
use Rattle.promises.proofs.Answered.{acted-answer, refused-by, by-refused, taken}
use Rattle.bench.specs.Lent.{Memory, Text, Verdict, numbers_in, Called, Offered, called}
use Rattle.bench.specs.Library.{Library, Meets, Unarmed, answers_by, RefusesTexts, RefusesCalls, GrantsAlways, ArmStoresNothing, StoresNoFill, CountsFirstOnly, hundred, forty}
use Rattle.laws.proofs.One.{alike}
use Rattle.bench.proofs.Words.{below-zeros, tested-below}
use Rattle.bench.proofs.Computed.{hundred-read, forties}
use Rattle.bench.proofs.Runs.{arm-accepted, arm-leaves, call-leaves, armed-answers}

-- a grant at verdict 0 is the machine's
granted : (s : State) (o : Offer) (verdict grant : ℕ) (root firm : Bool) → (offered_so s o verdict).answer ≡ Judged 0 grant root firm
    → grant_of s.log o s.part.accounts ≡ grant
unfolding offered_so filled
granted s o zero grant root firm e = cc
granted s o (suc n) grant root firm e = let z : suc n ≡ 0 = cc in absurd (omega arith)

-- 40 is not 20
forty-twenty : Judged 0 40 false false ≡ Judged 0 20 true false → ⊥
forty-twenty e = let z : ◌≡◌ {A = ℕ} 40 20 = cc in omega arith

-- memory of zeros may be armed
abbrev blank : Memory
blank = record { now = zeros size; words = below-zeros size }

blank-unarmed : Unarmed blank
unfolding zeros
blank-unarmed = record { long = omega (arith, length-zeros size); mark = refl }

-- the limit of 100, and the offer of 40
pub limit : Text
unfolding every
limit = record { now = hundred; bytes = tested-below 256 hundred refl }

pub offered : Offered
unfolding every
offered = record { offer = forty; words = tested-below (2 ^ 64) (numbers_in (offer forty)) refl }

module _ (l : Library) (meets : Meets l) where
  -- ---- what holds on every memory

  -- a call is refused with a number exactly if that number's condition is the first that holds
  pub refused-exactly : (m : Memory) (c : Called) (n : ℕ) → ((l.call m c).answer ≡ Refused (suc n)) ↔ (refusal_in m.now c.call ≡ suc n)
  refused-exactly m c n = (
    λ e. by-refused m.now c.call (suc n) (sym (meets.call_answers m c) ∙ e),
    λ e. meets.call_answers m c ∙ refused-by m.now c.call n e,
  )

  -- a grant is the largest number up to the offer that keeps every limit of a rule that covers it
  pub grant-is-largest : (m : Memory) (o : Offered) (grant : ℕ) (root firm : Bool) → (l.call m (called o)).answer ≡ Judged 0 grant root firm
      → Largest (KeepsAll (covering (decode m.now).log o.offer (decode m.now).part.accounts) o.offer.premium) o.offer.contracts grant
  unfolding judged is_refusal
  grant-is-largest m o grant root firm e =
      let s = decode m.now in
      let asked = o.offer in
      let t = taken m.now (offer asked) (Judged 0 grant root firm) (sym (meets.call_answers m (called o)) ∙ e) refl in
      subst (Largest (KeepsAll (covering s.log asked s.part.accounts) asked.premium) asked.contracts)
      (granted s asked (verdict_of s.part.locks asked.root) grant root firm t) (grant-largest s.log asked s.part.accounts)

  -- the memory after a call is sound, and stands for the state that the machine leaves
  pub stores : (m : Memory) (c : Called) → memory_refusal m.now ≡ 0
      → (memory_refusal (l.call m c).memory.now ≡ 0) × (decode (l.call m c).memory.now ≡ (step (decode m.now) c.call).after)
  stores m c ready = let h = call-leaves l meets m (ready-holds m.now ready) c in (holds-ready h, h.state)

  -- arming with an accepted text leaves a sound memory, which stands for the freshly armed state
  pub arm-stores : (m : Memory) (t : Text) → Unarmed m → (outcome_of t.now).refusal ≡ 0
      → (memory_refusal (l.arm m t).memory.now ≡ 0) × (decode (l.arm m t).memory.now ≡ just_armed (outcome_of t.now).profile)
  arm-stores m t u ok = let h = arm-leaves l meets m t u ok in (holds-ready h, h.state)

  -- Remaining is the limit less the counted amount, or 0 if that is below 0
  pub remaining-is : (m : Memory) (c : Called) (time rule unit : ℕ) → c.call ≡ remaining time rule unit → refusal_in m.now (remaining time rule unit) ≡ 0
      → (l.call m c).answer ≡ Left (left_of (decode m.now) time (account_for (decode m.now).part rule unit))
  unfolding judged
  remaining-is m c time rule unit is e = meets.call_answers m c ∙ ap (call_answer m.now) is ∙ acted-answer m.now (remaining time rule unit) e

  -- Status is how the two words stand
  pub status-is : (m : Memory) (c : Called) → c.call ≡ status → refusal_in m.now status ≡ 0
      → (l.call m c).answer ≡ Stand (standing (decode m.now).part.locks)
  unfolding judged
  status-is m c is e = meets.call_answers m c ∙ ap (call_answer m.now) is ∙ acted-answer m.now status e

  -- ---- three offers of 40 under a limit of 100, on any memory that may be armed

  module _ (m : Memory) (u : Unarmed m) where
    abbrev armed : Memory
    armed = (l.arm m limit).memory

    abbrev one-fill : Memory
    one-fill = (l.call armed (called offered)).memory

    abbrev two-fills : Memory
    two-fills = (l.call one-fill (called offered)).memory

    answers : answers_by l armed (called offered ∷ called offered ∷ called offered ∷ [])
        ≡ Judged 0 40 false false ∷ Judged 0 40 false false ∷ Judged 0 20 true false ∷ []
    unfolding limit offered
    answers = armed-answers l meets m limit u hundred-read _ ∙ forties

    pub first : (l.call armed (called offered)).answer ≡ Judged 0 40 false false
    unfolding answers_by
    first = let e = answers in cc

    pub second : (l.call one-fill (called offered)).answer ≡ Judged 0 40 false false
    unfolding answers_by
    second = let e = answers in cc

    pub third : (l.call two-fills (called offered)).answer ≡ Judged 0 20 true false
    unfolding answers_by
    third = let e = answers in cc

  -- ---- shut out

  -- a library that refuses every text, or every call
  pub not-refusing-all : (RefusesTexts l → ⊥) × (RefusesCalls l → ⊥)
  unfolding is_refusal limit
  not-refusing-all = (
    λ all. all blank limit (arm-accepted l meets blank limit blank-unarmed hundred-read),
    λ all. false≢true (sym (ap is_refusal (first blank blank-unarmed)) ∙ all (armed blank blank-unarmed) (called offered)),
  )

  -- one with a fixed grant
  pub not-a-fixed-grant : (g : ℕ) → GrantsAlways l g → ⊥
  not-a-fixed-grant g all =
      let a : 40 ≡ g = all _ offered 40 false false (first blank blank-unarmed) in
      let b : 20 ≡ g = all _ offered 20 true false (third blank blank-unarmed) in
      omega arith

  -- one that stores nothing: no profile, or no fill
  pub not-storing-nothing : (ArmStoresNothing l → ⊥) × (StoresNoFill l → ⊥)
  unfolding limit
  not-storing-nothing = (
    λ none.
        let ready : memory_refusal blank.now ≡ 0 =
        subst (λ (ys : List ℕ). memory_refusal ys ≡ 0) (none blank limit) (arm-stores blank limit blank-unarmed hundred-read).0 in
        let unarmed : 4 ≡ memory_refusal blank.now = refusal-unarmed blank.now blank-unarmed.long blank-unarmed.mark in
        omega arith,
    λ none.
        let before = one-fill blank blank-unarmed in
        let after = two-fills blank blank-unarmed in
        let same = meets.call_answers after (called offered) ∙ ap (λ (ys : List ℕ). call_answer ys (called offered).call) (none before offered)
        ∙ sym (meets.call_answers before (called offered)) in
        forty-twenty (sym (second blank blank-unarmed) ∙ sym same ∙ third blank blank-unarmed),
  )

  -- one that counts the first fill alone
  pub not-counting-only-the-first : CountsFirstOnly l → ⊥
  not-counting-only-the-first only =
      forty-twenty (sym (second blank blank-unarmed) ∙ sym (only (armed blank blank-unarmed) offered offered offered (omega arith) (omega arith)) ∙ third blank blank-unarmed)

-- an invented Remaining or Status, or any other invention: two libraries that meet the contracts answer alike and leave the same memory
module _ (l k : Library) (meets : Meets l) (too : Meets k) where
  pub same_answer : (m : Memory) (c : Called) → (l.call m c).answer ≡ (k.call m c).answer
  same_answer m c = alike (meets.call_answers m c) (too.call_answers m c)

  pub not-inventing-remaining : (m : Memory) (c : Called) (time rule unit : ℕ) → c.call ≡ remaining time rule unit → (l.call m c).answer ≡ (k.call m c).answer
  not-inventing-remaining m c time rule unit is = same_answer m c

  pub not-inventing-status : (m : Memory) (c : Called) → c.call ≡ status → (l.call m c).answer ≡ (k.call m c).answer
  not-inventing-status m c is = same_answer m c

  pub same_memory : (m : Memory) (c : Called) → (l.call m c).memory.now ≡ (k.call m c).memory.now
  same_memory m c = alike (meets.call_leaves m c) (too.call_leaves m c)

  pub same-clear : (m : Memory) → ((l.clear m).answer ≡ (k.clear m).answer) × ((l.clear m).memory.now ≡ (k.clear m).memory.now)
  same-clear m = (alike (meets.clear_answers m) (too.clear_answers m), alike (meets.clear_leaves m) (too.clear_leaves m))

  pub same_text : (v : Verdict) (room : Text) → ((l.text v room).answer ≡ (k.text v room).answer) × ((l.text v room).room.now ≡ (k.text v room).room.now)
  same_text v room = (alike (meets.text_answers v room) (too.text_answers v room), alike (meets.text_leaves v room) (too.text_leaves v room))

  pub same-arm-answer : (m : Memory) (t : Text) → (l.arm m t).answer ≡ (k.arm m t).answer
  same-arm-answer m t = alike (meets.arm_answers m t) (too.arm_answers m t)

  pub same-arm-memory : (m : Memory) (t : Text) → (l.arm m t).memory.now ≡ (k.arm m t).memory.now
  same-arm-memory m t = alike (meets.arm_leaves m t) (too.arm_leaves m t)
