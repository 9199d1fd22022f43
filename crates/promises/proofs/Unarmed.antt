-- Memory that is not armed lets nothing through, and memory that lets something through has rules. Assumes nothing.
use Prim.Native.Nat.{ℕ, zero, suc, ◌≤◌, ◌<◌}
use native.Mathlib.Omega.{arith}
use mathlib.Core.Path.{◌≡◌, refl, sym, ap, ◌∙◌, subst}
use mathlib.Core.Bool.{Bool, true, false, cond, false≢true}
use mathlib.Core.List.{List, [], ◌∷◌, ◌++◌}
use lib.ListN.{length, get_or, drop, length-append}
use lib.Dec.{eqb, leb}
use borrow.Author.Tests.{eq-eqb, ne_eqb, le-ltb, leb-true, leb-false}
use Rattle.tables.specs.Inner.Tables.{zeros}
use Rattle.shapes.proofs.Tables.{length-zeros}
use Rattle.profile.specs.Profile.{Outcome, outcome_of, reading_of}
use Rattle.profile.specs.Reading.{Accepted, Refused as NotRead}
use Rattle.profile.proofs.Laws.{accepted-some, reading-accepted, reading-refused}
use Rattle.machine.specs.State.{armed}
use Rattle.state.specs.State.{size, decode, stored}
use Rattle.state.proofs.Exactly.{made-parts, decode-made}
use Rattle.machine.specs.Calls.{Call}
use Rattle.machine.specs.Refusals.{first_of}
use Rattle.calls.specs.Calls.{is_short, mark_of, arm_refusal, arm_answer, arm_memory, clear_memory, memory_refusal, call_answer, call_memory}
use Rattle.machine.specs.Judge.{is_refusal}
use Rattle.calls.proofs.Cases.{clear-done}
use Rattle.calls.proofs.Armed.{refusal-short, refusal-unarmed, sound-memory, call-refused}
use Rattle.promises.specs.Day.{Day, after_call_on, day_from, calls_on, AlwaysRefused, Idle}
use Rattle.promises.proofs.Holds.{Holds, arm-accepts, arm-holds}

-- a memory refusal is answered as it is, and changes nothing
refusal-answered : (memory : List ℕ) (call : Call) (n : ℕ) → n ≡ memory_refusal memory → (n ≡ 0 → ⊥)
    → (is_refusal (call_answer memory call) ≡ true) × (call_memory memory call ≡ memory)
unfolding is_refusal
refusal-answered memory call n e h =
    let r = call-refused memory call n e h in (sym (ap is_refusal r.0), sym r.1)

-- NOTHING PASSES UNARMED MEMORY: while the mark is 0, every call but Arm, Clear and Text is refused and changes nothing, whatever else the memory
-- holds and however long it is
pub unarmed-refuses : (memory : List ℕ) (call : Call) → mark_of memory ≡ 0
    → (is_refusal (call_answer memory call) ≡ true) × (call_memory memory call ≡ memory)
unarmed-refuses memory call m = go (leb size (length memory)) refl
  where
    go : (b : Bool) → leb size (length memory) ≡ b → (is_refusal (call_answer memory call) ≡ true) × (call_memory memory call ≡ memory)
    go true e = refusal-answered memory call 4 (refusal-unarmed memory (leb-true _ _ e) m) (λ z. omega arith)
    go false e = refusal-answered memory call 1 (refusal-short memory (leb-false _ _ e)) (λ z. omega arith)

-- WHAT PASSES HAS RULES: memory on which any call but Arm, Clear and Text is answered with something else than a refusal holds at least one rule
pub armed-has-rules : (memory : List ℕ) (call : Call) → is_refusal (call_answer memory call) ≡ false
    → 0 < length (decode memory).part.profile.rules
armed-has-rules memory call answered = go (memory_refusal memory) refl
  where
    go : (n : ℕ) → memory_refusal memory ≡ n → 0 < length (decode memory).part.profile.rules
    go zero e = (made-parts (decode memory).part.profile (decode-made memory (sound-memory memory e))).some
    go (suc n) e =
        absurd (false≢true (sym answered ∙ (refusal-answered memory call (suc n) (sym e) (λ z. omega arith)).0))

-- and so does what Arm accepts
pub arm-has-rules : (memory text : List ℕ) (firm rules roots : ℕ) → arm_answer memory text ≡ Accepted firm rules roots → 0 < rules
arm-has-rules memory text firm rules roots ok =
    let counted = reading-accepted (outcome_of text) firm rules roots (arm-accepts memory text firm rules roots ok).1 in
    omega (arith, counted.2, accepted-some text counted.0)

-- ---- memory that is idle

-- where a text is refused, or what comes before it, nothing is written
pub nothing_written : (o : Outcome) (free : Bool) (before number line : ℕ) (written memory : List ℕ)
    → cond free (reading_of o) (NotRead before 0) ≡ NotRead number line → cond free (cond (eqb o.refusal 0) written memory) memory ≡ memory
nothing_written o true before number line written memory h = rw (ne_eqb o.refusal 0 (reading-refused o number line h).0)
nothing_written o false before number line written memory h = refl

-- a refused Arm changes nothing
pub refused-arm-same : (memory text : List ℕ) (number line : ℕ) → arm_answer memory text ≡ NotRead number line → arm_memory memory text ≡ memory
unfolding arm_answer arm_memory
refused-arm-same memory text number line e =
    nothing_written (outcome_of text) (eqb (arm_refusal memory) 0) (arm_refusal memory) number line (stored (armed (outcome_of text).profile) memory) memory e

module _ (memory : List ℕ) (long : size ≤ length memory) (mark : mark_of memory ≡ 0) where
  idle-calls : (day : Day) → day.memory ≡ memory → AlwaysRefused 4 day.history → (calls : List Call)
      → AlwaysRefused 4 (day_from day calls).history × ((day_from day calls).memory ≡ memory)
  unfolding day_from after_call_on AlwaysRefused
  idle-calls day m r [] = (r, m)
  idle-calls day m r (call ∷ calls) =
      let four = call-refused memory call 4 (refusal-unarmed memory long mark) (λ z. omega arith) in
      idle-calls (after_call_on day call) (ap (λ (xs : List ℕ). call_memory xs call) m ∙ sym four.1)
      ((ap (λ (xs : List ℕ). call_answer xs call) m ∙ sym four.0, r)) calls

  idle-arm : arm_refusal memory ≡ 0
  unfolding arm_refusal is_short first_of
  idle-arm = rw (le-ltb _ _ long, eq-eqb _ _ mark)

  idle-judged : (text : List ℕ) → arm_answer memory text ≡ reading_of (outcome_of text)
  unfolding arm_answer
  idle-judged text = rw idle-arm

  -- a text that is read without a fault is accepted, and its profile is armed
  module _ (text : List ℕ) (ok : (outcome_of text).refusal ≡ 0) where
    pub unarmed-accepts : arm_answer memory text
        ≡ Accepted (outcome_of text).profile.firm (length (outcome_of text).profile.rules) (length (outcome_of text).profile.roots)
    unfolding reading_of
    unarmed-accepts = idle-judged text ∙ rw ok

    pub unarmed-armed : Holds (armed (outcome_of text).profile) (drop size memory) (arm_memory memory text)
    unarmed-armed = arm-holds memory text _ _ _ unarmed-accepts

  -- memory of at least the state's size whose mark is 0 is idle
  pub unarmed-idle : Idle memory
  unfolding calls_on AlwaysRefused
  unarmed-idle = record {
    refused = λ calls. (idle-calls (record { memory = memory; history = [] }) refl tt calls).0;
    unchanged = λ calls. (idle-calls (record { memory = memory; history = [] }) refl tt calls).1;
    judged = idle-judged;
    unarmed = refused-arm-same memory;
  }

-- zeros in front of anything, as Clear leaves them
zero-first : (n : ℕ) (rest : List ℕ) → 0 < n → get_or (zeros n ++ rest) 0 0 ≡ 0
unfolding zeros
zero-first zero rest h = absurd (omega arith)
zero-first (suc n) rest h = refl

-- Clear leaves idle memory, whatever the memory held
pub cleared-idle : (memory : List ℕ) → size ≤ length memory → Idle (clear_memory memory)
cleared-idle memory long =
    subst Idle (clear-done memory long).1
    (unarmed-idle (zeros size ++ drop size memory) (omega (arith, length-append (zeros size) (drop size memory), length-zeros size))
    (zero-first size (drop size memory) (omega arith)))
