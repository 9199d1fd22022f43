-- There is a library that meets the contracts: their own functions, since these leave memory of 64-bit numbers. Assumes nothing.
use Prim.Native.Nat.{ℕ, zero, suc, ◌^◌}
use native.Mathlib.Omega.{arith}
use mathlib.Core.Path.{◌≡◌, refl, sym, subst}
use mathlib.Core.Bool.{Bool, true, false, cond}
use mathlib.Core.List.{List, ◌++◌}
use lib.ListN.{length, drop}
use lib.Dec.{eqb, ltb}
use borrow.Author.Tests.{eqb-true}
use Rattle.profile.specs.Profile.{outcome_of}
use Rattle.laws.specs.Folds.{every}
use Rattle.text.specs.Text.{bytes}
use Rattle.tables.specs.Inner.Tables.{zeros}
use Rattle.state.specs.State.{size, stored, decode}
use Rattle.machine.specs.State.{State, armed}
use Rattle.machine.specs.Calls.{Call}
use Rattle.machine.specs.Refusals.{refusal_of}
use Rattle.machine.specs.Judge.{log_places}
use Rattle.state.specs.Sound.{SoundState}
use Rattle.state.proofs.Exactly.{made-parts, given-is-made}
use Rattle.calls.specs.Calls.{is_short, arm_refusal, arm_answer, arm_memory, clear_answer, clear_memory, memory_refusal, call_answer, call_memory, say_memory, text_answer, text_memory}
use Rattle.calls.proofs.Armed.{call-refused}
use Rattle.calls.proofs.Steps.{done, refused, acts, after-sound}
use Rattle.promises.proofs.Fresh.{fresh-sound, accepted-made}
use Rattle.promises.proofs.Holds.{acts-answered}
use Rattle.bench.specs.Lent.{Below}
use Rattle.bench.specs.Library.{Library, Meets}
use Rattle.bench.proofs.Words.{below-append, below-drop, below-zeros, tested-below, stored-words}

sound-words : (s : State) → SoundState s → (xs : List ℕ) → Below (2 ^ 64) xs → Below (2 ^ 64) (stored s xs)
sound-words s k xs p = stored-words s k (made-parts s.part.profile (given-is-made s.part.profile k.given)) xs p

arm-words : (xs text : List ℕ) → Below (2 ^ 64) xs → Below (2 ^ 64) (arm_memory xs text)
unfolding arm_memory
arm-words xs text p = go (eqb (arm_refusal xs) 0) (eqb (outcome_of text).refusal 0) refl
  where
    go : (a b : Bool) → eqb (outcome_of text).refusal 0 ≡ b
        → Below (2 ^ 64) (cond a (cond b (stored (armed (outcome_of text).profile) xs) xs) xs)
    go true true e =
        sound-words (armed (outcome_of text).profile) (fresh-sound (outcome_of text).profile (accepted-made text (eqb-true _ 0 e))) xs p
    go true false e = p
    go false b e = p

call-words : (xs : List ℕ) (call : Call) → Below (2 ^ 64) xs → Below (2 ^ 64) (call_memory xs call)
call-words xs call p = go (memory_refusal xs) refl
  where
    -- the memory is as it was, or holds the state after
    kept : xs ≡ call_memory xs call → Below (2 ^ 64) (call_memory xs call)
    kept e = subst (Below (2 ^ 64)) e p

    ready : memory_refusal xs ≡ 0 → (n : ℕ) → refusal_of log_places (decode xs) call ≡ n → Below (2 ^ 64) (call_memory xs call)
    ready r zero e =
        subst (Below (2 ^ 64)) (acts xs r call e (acts-answered (decode xs) call)).1
        (sound-words (done xs call) (after-sound xs r call e) xs p)
    ready r (suc n) e = kept (refused xs r call n e).1

    go : (n : ℕ) → memory_refusal xs ≡ n → Below (2 ^ 64) (call_memory xs call)
    go zero e = ready e (refusal_of log_places (decode xs) call) refl
    go (suc n) e = kept (call-refused xs call (suc n) (sym e) (λ z. omega arith)).1

clear-words : (xs : List ℕ) → Below (2 ^ 64) xs → Below (2 ^ 64) (clear_memory xs)
unfolding clear_memory
clear-words xs p = go (is_short xs)
  where
    go : (b : Bool) → Below (2 ^ 64) (cond b xs (zeros size ++ drop size xs))
    go true = p
    go false = below-append (2 ^ 64) (zeros size) (drop size xs) (below-zeros size) (below-drop (2 ^ 64) size xs p)

-- words of bytes, said in a room of bytes
say-bytes : (words room : List ℕ) → Below 256 words → Below 256 room → Below 256 (say_memory words room)
unfolding say_memory
say-bytes words room w p = go (ltb (length room) 20)
  where
    go : (b : Bool) → Below 256 (cond b room (words ++ drop (length words) room))
    go true = p
    go false = below-append 256 words (drop (length words) room) w (below-drop 256 (length words) room p)

text-bytes : (verdict : ℕ) (room : List ℕ) → Below 256 room → Below 256 (text_memory verdict room)
unfolding text_memory every
text-bytes verdict room p = go (eqb verdict 1) (eqb verdict 2)
  where
    go : (a b : Bool)
        → Below 256 (cond a (say_memory (bytes "f: RiskMgmtFirmLevel") room) (cond b (say_memory (bytes "s: RiskMgmtSymLevel") room) room))
    go true b = say-bytes (bytes "f: RiskMgmtFirmLevel") room (tested-below 256 (bytes "f: RiskMgmtFirmLevel") refl) p
    go false true = say-bytes (bytes "s: RiskMgmtSymLevel") room (tested-below 256 (bytes "s: RiskMgmtSymLevel") refl) p
    go false false = p

as_contracted : Library
as_contracted = record {
  arm = λ m t. record { answer = arm_answer m.now t.now; memory = record { now = arm_memory m.now t.now; words = arm-words m.now t.now m.words } };
  clear = λ m. record { answer = clear_answer m.now; memory = record { now = clear_memory m.now; words = clear-words m.now m.words } };
  call = λ m c. record { answer = call_answer m.now c.call; memory = record { now = call_memory m.now c.call; words = call-words m.now c.call m.words } };
  text = λ v room. record { answer = text_answer v.number room.now; room = record { now = text_memory v.number room.now; bytes = text-bytes v.number room.now room.bytes } };
}

-- SOME LIBRARY MEETS THE CONTRACTS
pub contracts-met : (l : Library) × Meets l
unfolding as_contracted
contracts-met = (
  as_contracted,
  record {
    arm_answers = λ m t. refl;
    arm_leaves = λ m t. refl;
    clear_answers = λ m. refl;
    clear_leaves = λ m. refl;
    call_answers = λ m c. refl;
    call_leaves = λ m c. refl;
    text_answers = λ v room. refl;
    text_leaves = λ v room. refl;
  },
)
