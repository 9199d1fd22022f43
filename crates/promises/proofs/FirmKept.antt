-- The refusals of clearing, and that a refusal of a firm's call changes nothing that is lent. Assumes nothing.
use Prim.Native.Nat.{ℕ, zero, suc}
use native.Mathlib.Omega.{arith}
use mathlib.Core.Path.{◌≡◌, refl, sym, ap, ◌∙◌}
use mathlib.Core.Logic.Iff
use mathlib.Core.Logic.{◌↔◌}
use mathlib.Core.Bool.{Bool, true, false, not, cond}
use mathlib.Core.List.{List}
use lib.ListN.{length, get_or}
use lib.Dec.{eqb, ltb}
use borrow.Author.Tests.{ne_eqb}
use Rattle.machine.specs.Refusals.{first_of}
use Rattle.machine.specs.Judge.{is_refusal}
use Rattle.profile.specs.Reading.{Refused as NotRead}
use Rattle.std.specs.declared.result.Result.TheVariants.{Ok, Err}
use Rattle.firms.specs.Seats.{vacant}
use Rattle.firms.specs.Doings.{arm, clear, after_doing}
use Rattle.seats.specs.Memory.{state_size, decode_seats, stored_seats, is_sound_memory, firm_of, firm_answer, firm_memory, arm_refusal, given_to, arm_answer, arm_memory, clear_refusal, clear_firm_answer, clear_firm_memory, clear_all_answer, clear_all_memory}
use Rattle.capi.specs.Rows.{clear_row}
use Rattle.promises.specs.Refusals.{refusal_row, ◌when◌else◌, none}
use Rattle.promises.specs.FirmRefusals.{ShortState, clear_firm_refusals, ClearFirmRefusals, FirmRefusedKeeps}
use Rattle.promises.proofs.Tests.{ltb-tells}
use Rattle.promises.proofs.Gives.{Gives, or_else, or-zero, none-gives, Leads, ends, tested}
use Rattle.promises.proofs.Unarmed.{nothing_written}
use Rattle.promises.proofs.Answered.{row-refused}
use Rattle.promises.proofs.Arming.{arm-row}
use Rattle.promises.proofs.FirmRefusals.{unsound-tells}

-- tests that lead to nothing give their number alone
alone : {x : ℕ} {L : ℕ → Type 0} → Leads 0 none x L → Gives x L
alone {x} leads n = Iff.trans (λ e. or-zero x ∙ e, λ e. sym (or-zero x) ∙ e) (leads (λ z. none-gives) n)

-- the row of a refusal has its number, and 0 stands for done
row_of : (row : List ℕ) (k : ℕ) → row ≡ refusal_row k → (n : ℕ) → (row ≡ refusal_row n) ↔ (k ≡ n)
row_of row k is n = (λ e. ap (λ (r : List ℕ). get_or r 0 0) (sym is ∙ e), λ e. is ∙ ap refusal_row e)

module _ (xs : List ℕ) (firm : ℕ) where
  clear-gives : Gives (clear_refusal xs firm) (clear_firm_refusals xs firm)
  unfolding clear_refusal first_of
  clear-gives =
      alone
      (tested 0 none (ltb (length xs) state_size) 0 _ (ltb-tells (length xs) state_size)
      (tested 0 none (ltb 1 firm) 12 _ (ltb-tells 1 firm) (tested 0 none (not (is_sound_memory xs)) 1 0 (unsound-tells xs) (ends 0 none))))

  clear-row : clear_row (clear_firm_answer xs firm) ≡ refusal_row (clear_refusal xs firm)
  unfolding clear_firm_answer clear_row
  clear-row = go (clear_refusal xs firm)
    where
      go : (k : ℕ) → clear_row (cond (eqb k 0) (Ok tt) (Err k)) ≡ refusal_row k
      go zero = refl
      go (suc k) = rw (ne_eqb (suc k) 0 (λ z. omega arith))

  abbrev short : ℕ
  short = cond (ltb (length xs) state_size) 1 0

  all_row : clear_row (clear_all_answer xs) ≡ refusal_row short
  unfolding clear_all_answer clear_row
  all_row = go (ltb (length xs) state_size)
    where
      go : (b : Bool) → clear_row (cond b (Err 1) (Ok tt)) ≡ refusal_row (cond b 1 0)
      go true = refl
      go false = refl

  -- EACH REFUSAL OF CLEARING
  pub clear-firm-refusals : ClearFirmRefusals xs firm
  clear-firm-refusals = record {
    one = λ n. Iff.trans (row_of (clear_row (clear_firm_answer xs firm)) (clear_refusal xs firm) clear-row n) (clear-gives n);
    all =
        λ n. Iff.trans (row_of (clear_row (clear_all_answer xs)) short all_row n)
        (alone (tested 0 none (ltb (length xs) state_size) 0 0 (ltb-tells (length xs) state_size) (ends 0 none)) n);
  }

  -- ---- what a refusal leaves

  arm-kept : (text : List ℕ) (number line : ℕ) → arm_answer xs firm text ≡ NotRead number line → arm_memory xs firm text ≡ xs
  unfolding arm_answer arm_memory
  arm-kept text number line e =
      let left = stored_seats (after_doing (firm_of firm) (decode_seats xs) (arm (given_to xs firm text).profile)) xs in
      nothing_written (given_to xs firm text) (eqb (arm_refusal xs firm) 0) (arm_refusal xs firm) number line left xs e

  clear_kept : (n : ℕ) → clear_refusal xs firm ≡ suc n → clear_firm_memory xs firm ≡ xs
  unfolding clear_firm_memory
  clear_kept n e = rw (e, ne_eqb (suc n) 0 (λ z. omega arith))

  all-kept : (n : ℕ) → short ≡ suc n → clear_all_memory xs ≡ xs
  unfolding clear_all_memory
  all-kept n e = go (ltb (length xs) state_size) (stored_seats vacant xs) e
    where
      go : (b : Bool) (ys : List ℕ) → cond b 1 0 ≡ suc n → cond b xs ys ≡ xs
      go true ys e = refl
      go false ys e = absurd (omega arith)

  -- A REFUSAL CHANGES NO LENT NUMBER
  pub firm-refused-keeps : FirmRefusedKeeps xs firm
  unfolding is_refusal firm_memory
  firm-refused-keeps = record {
    arm = λ text n line e. arm-kept text (suc n) line ((arm-row (arm_answer xs firm text) n line).0 e);
    call = λ call n e. rw ((row-refused (firm_answer xs firm call) n).0 e);
    clear = λ n e. clear_kept n ((row_of (clear_row (clear_firm_answer xs firm)) (clear_refusal xs firm) clear-row (suc n)).0 e);
    clear_all = λ n e. all-kept n ((row_of (clear_row (clear_all_answer xs)) short all_row (suc n)).0 e);
  }
