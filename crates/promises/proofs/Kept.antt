-- The refusals of Clear and Text, and that a refusal changes nothing that is lent. Assumes nothing.
use Prim.Native.Nat.{ℕ, suc, ◌≤◌, ◌<◌}
use native.Mathlib.Omega.{arith}
use mathlib.Core.Path.{◌≡◌, refl, sym, ap, ◌∙◌}
use mathlib.Core.Logic.{◌⊎◌, inl, inr}
use mathlib.Core.Bool.{Bool, true, false, cond}
use mathlib.Core.List.{List, ◌++◌}
use lib.ListN.{length, get_or, drop}
use lib.Dec.{eqb, ltb}
use borrow.Author.Tests.{ltb-true, ltb-false, lt-ltb, le-ltb, eqb-true, eqb-false, ne_eqb}
use Rattle.text.specs.Text.{bytes}
use Rattle.tables.specs.Inner.Tables.{zeros}
use Rattle.machine.specs.Judge.{is_refusal}
use Rattle.state.specs.State.{size}
use Rattle.calls.specs.Calls.{is_short, arm_answer, clear_answer, clear_memory, call_answer, call_memory, say_answer, say_memory, text_answer, text_memory}
use Rattle.std.specs.declared.result.Result.TheVariants.{Ok, Err}
use Rattle.capi.specs.Rows.{clear_row, text_row}
use Rattle.promises.specs.Refusals.{refusal_row, ClearRefusals, TextRefusals, RefusedKeeps}
use Rattle.promises.proofs.Unarmed.{refused-arm-same}
use Rattle.promises.proofs.Answered.{row-refused}
use Rattle.promises.proofs.Arming.{arm-row}

-- the first number of a row
abbrev refusal_of : List ℕ → ℕ
refusal_of row = get_or row 0 0

-- ---- Clear

pub clear-refusals : (xs : List ℕ) → ClearRefusals xs
unfolding clear_answer is_short clear_row
clear-refusals xs = record {
  one = (λ e. one (ltb (length xs) size) refl (ap refusal_of e), λ h. rw (lt-ltb _ _ h));
  accepted = (λ e. done (ltb (length xs) size) refl (ap refusal_of e), λ h. rw (le-ltb _ _ h));
}
  where
    one : (b : Bool) → ltb (length xs) size ≡ b → refusal_of (clear_row (cond b (Err 1) (Ok tt))) ≡ 1 → length xs < size
    one true e z = ltb-true _ _ e
    one false e z = absurd (omega arith)

    done : (b : Bool) → ltb (length xs) size ≡ b → refusal_of (clear_row (cond b (Err 1) (Ok tt))) ≡ 0 → size ≤ length xs
    done true e z = absurd (omega arith)
    done false e z = ltb-false _ _ e

-- ---- Text

-- the number for a room that is short or not, and Text's for verdict 1, 2 or another
abbrev short_number : Bool → ℕ
short_number c = cond c 1 0

abbrev text_number : Bool → Bool → Bool → ℕ
text_number a b c = cond a (short_number c) (cond b (short_number c) 13)

-- words of any length
say-number : (words room : List ℕ) → refusal_of (text_row (say_answer words room)) ≡ short_number (ltb (length room) 20)
unfolding say_answer text_row
say-number words room = go (ltb (length room) 20)
  where
    go : (b : Bool) → refusal_of (text_row (cond b (Err 1) (Ok (length words)))) ≡ short_number b
    go true = refl
    go false = refl

module _ (verdict : ℕ) (room : List ℕ) where
  -- Text's number, by its verdict and its room
  text-number : refusal_of (text_row (text_answer verdict room)) ≡ text_number (eqb verdict 1) (eqb verdict 2) (ltb (length room) 20)
  unfolding text_answer text_row
  text-number = go (eqb verdict 1) (eqb verdict 2)
    where
      go : (a b : Bool)
          → refusal_of (text_row (cond a (say_answer (bytes "f: RiskMgmtFirmLevel") room) (cond b (say_answer (bytes "s: RiskMgmtSymLevel") room) (Err 13))))
          ≡ text_number a b (ltb (length room) 20)
      go true b = say-number (bytes "f: RiskMgmtFirmLevel") room
      go false true = say-number (bytes "s: RiskMgmtSymLevel") room
      go false false = refl

  pub text-refusals : TextRefusals verdict room
  unfolding text_answer say_answer text_row
  text-refusals = record {
    thirteen = (
      λ e. thirteen (eqb verdict 1) (eqb verdict 2) (ltb (length room) 20) refl refl (sym text-number ∙ ap refusal_of e),
      λ h. rw (ne_eqb verdict 1 h.0, ne_eqb verdict 2 h.1),
    );
    one = (
      λ e. one (eqb verdict 1) (eqb verdict 2) (ltb (length room) 20) refl refl refl (sym text-number ∙ ap refusal_of e),
      λ h. short h.0 h.1,
    );
  }
    where
      thirteen : (a b c : Bool) → eqb verdict 1 ≡ a → eqb verdict 2 ≡ b → text_number a b c ≡ 13
          → (verdict ≡ 1 → ⊥) × (verdict ≡ 2 → ⊥)
      thirteen true b true p q z = absurd (omega arith)
      thirteen true b false p q z = absurd (omega arith)
      thirteen false true true p q z = absurd (omega arith)
      thirteen false true false p q z = absurd (omega arith)
      thirteen false false c p q z = (eqb-false _ _ p, eqb-false _ _ q)

      one : (a b c : Bool) → eqb verdict 1 ≡ a → eqb verdict 2 ≡ b → ltb (length room) 20 ≡ c → text_number a b c ≡ 1
          → ((verdict ≡ 1) ⊎ (verdict ≡ 2)) × (length room < 20)
      one true b true p q r z = (inl (eqb-true _ _ p), ltb-true _ _ r)
      one true b false p q r z = absurd (omega arith)
      one false true true p q r z = (inr (eqb-true _ _ q), ltb-true _ _ r)
      one false true false p q r z = absurd (omega arith)
      one false false c p q r z = absurd (omega arith)

      short : (verdict ≡ 1) ⊎ (verdict ≡ 2) → length room < 20 → text_row (text_answer verdict room) ≡ refusal_row 1
      short (inl e) h = rw (e, lt-ltb _ _ h)
      short (inr e) h = rw (e, lt-ltb _ _ h)

-- ---- what a refusal leaves

clear_kept : (xs : List ℕ) (n : ℕ) → refusal_of (clear_row (clear_answer xs)) ≡ suc n → clear_memory xs ≡ xs
unfolding clear_answer clear_memory clear_row
clear_kept xs n e = go (is_short xs) (zeros size ++ drop size xs) e
  where
    go : (b : Bool) (ys : List ℕ) → refusal_of (clear_row (cond b (Err 1) (Ok tt))) ≡ suc n → cond b xs ys ≡ xs
    go true ys e = refl
    go false ys e = absurd (omega arith)

say-kept : (words room : List ℕ) (n : ℕ) → short_number (ltb (length room) 20) ≡ suc n → say_memory words room ≡ room
unfolding say_memory
say-kept words room n e = go (ltb (length room) 20) (words ++ drop (length words) room) e
  where
    go : (b : Bool) (ys : List ℕ) → short_number b ≡ suc n → cond b room ys ≡ room
    go true ys e = refl
    go false ys e = absurd (omega arith)

text-kept : (verdict : ℕ) (room : List ℕ) (n : ℕ) → refusal_of (text_row (text_answer verdict room)) ≡ suc n → text_memory verdict room ≡ room
unfolding text_memory
text-kept verdict room n e = go (eqb verdict 1) (eqb verdict 2) (sym (text-number verdict room) ∙ e)
  where
    go : (a b : Bool) → text_number a b (ltb (length room) 20) ≡ suc n
        → cond a (say_memory (bytes "f: RiskMgmtFirmLevel") room) (cond b (say_memory (bytes "s: RiskMgmtSymLevel") room) room) ≡ room
    go true b e = say-kept (bytes "f: RiskMgmtFirmLevel") room n e
    go false true e = say-kept (bytes "s: RiskMgmtSymLevel") room n e
    go false false e = refl

-- A REFUSAL CHANGES NO LENT NUMBER OR BYTE
pub refused-keeps : RefusedKeeps
unfolding is_refusal call_memory
refused-keeps = record {
  arm = λ xs text n line e. refused-arm-same xs text (suc n) line ((arm-row (arm_answer xs text) n line).0 e);
  clear = λ xs n e. clear_kept xs n (ap refusal_of e);
  call = λ xs call n e. rw ((row-refused (call_answer xs call) n).0 e);
  text = λ verdict room n e. text-kept verdict room n (ap refusal_of e);
}
