-- Each refusal of a call that keeps an account has the condition that document 02 gives it. Assumes nothing.
use Prim.Native.Nat.{ℕ, zero, suc, ◌+◌, ◌<◌}
use native.Mathlib.Omega.{arith}
use mathlib.Core.Path.{◌≡◌, refl, sym, ap, ◌∙◌}
use mathlib.Core.Logic.Iff
use mathlib.Core.Logic.{◌↔◌, ◌⊎◌}
use mathlib.Core.Bool.{Bool, true, false, not, cond}
use lib.Dec.{eqb}
use borrow.Author.Tests.{ne_eqb, not-true}
use mathlib.Core.List.{List}
use Rattle.rules.specs.declared.Level.{Level}
use Rattle.machine.specs.Answer.{Refused}
use Rattle.machine.specs.Calls.{Call}
use Rattle.machine.specs.Refusals.{refusal_of}
use Rattle.machine.specs.Judge.{log_places, judged, unless, numbers}
use Rattle.state.specs.State.{decode}
use Rattle.state.specs.Sound.{Sound}
use Rattle.calls.specs.Calls.{memory_refusal, call_answer, refusal_in}
use Rattle.calls.proofs.Steps.{accepted-by, ready_by}
use Rattle.figures.specs.declared.Figures.{Figures}
use Rattle.figures.specs.declared.Happening.{Happening}
use Rattle.figures.specs.Happenings.{happening_of}
use Rattle.figures.specs.Account.{row_of, account_after, is_account}
use Rattle.figures.specs.Levels.{HasRow, columns, figure_at, Above}
use Rattle.figures.specs.History.{added_to}
use Rattle.figures.proofs.Table.{plus-at, row-after, uncounted-same}
use Rattle.figures.proofs.Limits.{passes-within, fails-above, above-fails}
use Rattle.figures.proofs.Roots.{refused-uncounted}
use Rattle.accounted.specs.Accounted.{lent_refusal, open_root, happening_in, account_counted, accounted_answer}
use Rattle.promises.specs.Refusals.{refusal_row, Short, Holding, ◌when◌else◌, none, refusals_of}
use Rattle.promises.specs.AccountRefusals.{ShortAccount, Passing, account_refusals, AccountRefusals}
use Rattle.promises.proofs.Gives.{Gives, or_else, or-zero, none-gives, ends, tested}
use Rattle.promises.proofs.Refusals.{ready-sound, held_gives}
use Rattle.promises.proofs.Never.{refusal-least}
use Rattle.promises.proofs.Answered.{acted-answer, refused-by, row_number, none_number}
use Rattle.promises.proofs.Counted.{ready-by-number, taken, taken_memory, taken-account, refused-memory, refused-account, known-root}
use Rattle.promises.proofs.Lent.{LongAccount, lent-leads, lent_one, lent_two}

module _ (memory account : List ℕ) (call : Call) where
  -- the number that a call is refused by, 0 for none: that of memory and account, that of the plain call, or 21
  abbrev full : ℕ
  full = cond (not (is_account (account_counted memory account call))) 21 0

  abbrev number : ℕ
  number = or_else (lent_refusal memory account) (or_else (refusal_in memory call) full)

  -- a refused plain call leaves the account that it would count in
  refused-counted : (n : ℕ) → refusal_in memory call ≡ suc n → account_counted memory account call ≡ account
  unfolding account_counted happening_in
  refused-counted n e =
      ap (λ (h : Happening). account_after h account) (ap (happening_of (open_root memory) call) (refused-by memory call n e) ∙ refused-uncounted (open_root memory) call (suc n))
      ∙ uncounted-same account

  answer-number : accounted_answer memory account call ≡ (unless number (judged (decode memory) call)).answer
  unfolding accounted_answer or_else unless
  answer-number = go (lent_refusal memory account) refl (refusal_in memory call) refl (is_account (account_counted memory account call)) refl
    where
      go : (lent : ℕ) → lent_refusal memory account ≡ lent → (plain : ℕ) → refusal_in memory call ≡ plain → (fits : Bool) → is_account (account_counted memory account call) ≡ fits
          → cond (eqb lent 0) (cond fits (call_answer memory call) (Refused 21)) (Refused lent)
          ≡ (unless (or_else lent (or_else plain (cond (not fits) 21 0))) (judged (decode memory) call)).answer
      go (suc lent) l plain p fits f = rw (ne_eqb (suc lent) 0 (λ z. omega arith))
      go zero l (suc plain) p fits f =
          let full : fits ≡ true = sym f ∙ ap is_account (refused-counted plain p) ∙ (ready-by-number memory account l).fits in
          rw full (refused-by memory call plain p)
      go zero l zero p true f = acted-answer memory call p
      go zero l zero p false f = refl

  -- the number of memory or account, which no plain call on ready memory has
  lent-number : (n : ℕ) → suc n < 12 → number ≡ suc n → lent_refusal memory account ≡ suc n
  unfolding or_else refusal_in
  lent-number n low = go (lent_refusal memory account) refl (refusal_in memory call) refl (is_account (account_counted memory account call))
    where
      go : (lent : ℕ) → lent_refusal memory account ≡ lent → (plain : ℕ) → refusal_in memory call ≡ plain → (fits : Bool)
          → or_else lent (or_else plain (cond (not fits) 21 0)) ≡ suc n → lent ≡ suc n
      go (suc lent) l plain p fits e = e
      go zero l (suc plain) p fits e =
          let ready = (ready-by-number memory account l).memory_ready in
          absurd (omega (arith, refusal-least (decode memory) call plain (rw ready at p)))
      go zero l zero p true e = absurd (omega arith)
      go zero l zero p false e = absurd (omega arith)

  -- a row, by the number
  by_number : (n : ℕ) → (numbers (accounted_answer memory account call) ≡ refusal_row (suc n)) ↔ (number ≡ suc n)
  by_number = row_number (decode memory) call number (accounted_answer memory account call) answer-number

  -- so 1 and 2 are for the memory or the account
  pub why-one : accounted_answer memory account call ≡ Refused 1 → Short memory ⊎ ShortAccount account
  unfolding numbers
  why-one e = lent_one memory account (lent-number 0 (omega arith) ((by_number 0).0 (ap numbers e)))

  pub why-two : accounted_answer memory account call ≡ Refused 2 → (Sound memory → ⊥) ⊎ Above account
  unfolding numbers
  why-two e = lent_two memory account (lent-number 1 (omega arith) ((by_number 1).0 (ap numbers e)))

  -- ---- 21

  module _ (ready : memory_refusal memory ≡ 0) (free : refusal_of log_places (decode memory) call ≡ 0) (long : LongAccount account) where
    -- a figure with the call counted
    figure-counted : (level : Level) → HasRow level → (column : ℕ) → column < columns
        → figure_at (row_of (account_counted memory account call) level) column
        ≡ figure_at (row_of account level) column + figure_at (added_to level (happening_in memory call)) column
    unfolding account_counted
    figure-counted level has column l =
        ap (λ (f : Figures). figure_at f column) (row-after (happening_in memory call) (known-root memory call ready free) account long level has)
        ∙ plus-at (row_of account level) (added_to level (happening_in memory call)) column l

    passing-tells : (is_account (account_counted memory account call) ≡ false) ↔ Passing memory account call
    unfolding Passing Above
    passing-tells = (
      λ e. let a = fails-above (account_counted memory account call) e in
          let same = figure-counted a.0 a.1.0 a.1.1.0 a.1.1.1.0 in
          (a.0, (a.1.0, (a.1.1.0, (a.1.1.1.0, omega (arith, same, a.1.1.1.1))))),
      λ h. let same = figure-counted h.0 h.1.0 h.1.1.0 h.1.1.1.0 in
          above-fails (account_counted memory account call) (h.0, (h.1.0, (h.1.1.0, (h.1.1.1.0, omega (arith, same, h.1.1.1.1))))),
    )

  -- ---- each number

  full-gives : refusal_in memory call ≡ 0 → LongAccount account → Gives full (21 when Passing memory account call else none)
  full-gives e long n =
      let tells = passing-tells (ready_by memory call e) (accepted-by memory call e) long in
      let fits = is_account (account_counted memory account call) in
      Iff.trans (λ p. or-zero full ∙ p, λ p. sym (or-zero full) ∙ p)
      (tested 0 none (not fits) 20 0 (λ h. tells.0 (not-true fits h), λ h. ap not (tells.1 h)) (ends 0 none) (λ z. none-gives) n)

  abbrev plain_then : ℕ → Type 0
  plain_then n = Holding memory (λ s. refusals_of log_places s call (21 when Passing memory account call else none) n)

  -- the plain call's number on memory and account that may be counted in, and 21
  plain-gives : lent_refusal memory account ≡ 0 → Gives (or_else (refusal_in memory call) full) plain_then
  unfolding refusal_in
  plain-gives l =
      let ready = ready-by-number memory account l in
      let same : refusal_in memory call ≡ refusal_of log_places (decode memory) call = rw ready.memory_ready in
      rw same
      (held_gives memory call full (21 when Passing memory account call else none) (ready-sound memory ready.memory_ready)
      (λ free. full-gives (same ∙ free) ready.long))

  number-gives : Gives number (account_refusals memory account call)
  number-gives = lent-leads memory account (or_else (refusal_in memory call) full) plain_then plain-gives

  -- EACH REFUSAL, AS DOCUMENT 02 HAS IT
  pub account-refusals : AccountRefusals memory account call
  unfolding account_counted
  account-refusals = record {
    refused = λ n. Iff.trans (by_number n) (number-gives (suc n));
    accepted = Iff.trans (none_number (decode memory) call number (accounted_answer memory account call) answer-number) (number-gives 0);
    done = λ e. let t = taken memory account call e in
        (t.answer ∙ sym t.plain, (taken_memory memory account call e, taken-account memory account call e));
    keeps = λ e. (refused-memory memory account call e, refused-account memory account call e);
  }
