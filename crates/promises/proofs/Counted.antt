-- What a call has met that keeps an account and is not refused, and what each such call leaves. Assumes nothing.
use Prim.Native.Nat.{ℕ, ◌≤◌}
use native.Mathlib.Omega.{arith}
use mathlib.Core.Path.{◌≡◌, refl, sym}
use mathlib.Core.Bool.{Bool, true, false, not, cond, ◌&&◌, ◌||◌, false≢true}
use mathlib.Core.List.{List}
use lib.ListN.{length}
use lib.Dec.{eqb, ltb}
use borrow.Author.Tests.{eqb-true, ltb-false}
use Rattle.rules.specs.declared.Level.TheVariants.{Root}
use Rattle.machine.specs.Answer.{Answer, Refused, Judged, Left, Standing}
use Rattle.machine.specs.Calls.{Call}
use Rattle.machine.specs.Refusals.{first_of, refusal_of}
use Rattle.machine.specs.Judge.{log_places, judged, is_refusal}
use Rattle.state.specs.State.{decode}
use Rattle.state.specs.Sound.{is_sound}
use Rattle.state.proofs.Exactly.{sound-decode}
use Rattle.calls.specs.Calls.{is_short, mark_of, memory_refusal, call_answer, call_memory}
use Rattle.calls.proofs.Armed.{sound-memory}
use Rattle.calls.proofs.Steps.{laid, accepted-by}
use Rattle.figures.specs.Figures.{happening_root}
use Rattle.figures.specs.Account.{account_size, is_account}
use Rattle.figures.specs.Levels.{HasRow}
use Rattle.figures.proofs.Roots.{root-known}
use Rattle.accounted.specs.Accounted.{is_short_account, lent_refusal, open_root, happening_in, account_counted, accounted_answer, accounted_memory, account_after_call}
use Rattle.promises.proofs.Answered.{acted-answer, unrefused}

-- memory and account meet no refusal exactly if the memory meets none, and the account is long enough with no figure above 10^18
pub record Ready (memory account : List ℕ) : Type 0 where
  pub memory_ready : memory_refusal memory ≡ 0
  pub long : account_size ≤ length account
  pub fits : is_account account ≡ true

pub ready-by-number : (memory account : List ℕ) → lent_refusal memory account ≡ 0 → Ready memory account
unfolding lent_refusal is_short_account memory_refusal first_of
ready-by-number memory account = go (is_short memory) (ltb (length account) account_size) (eqb (mark_of memory) 0) (is_sound memory) (is_account account) refl refl refl refl refl
  where
    go : (a b c d e : Bool) → is_short memory ≡ a → ltb (length account) account_size ≡ b → eqb (mark_of memory) 0 ≡ c → is_sound memory ≡ d → is_account account ≡ e
        → ◌≡◌ {A = ℕ} (cond (a || b) 1 (cond c 4 (cond (not (d && e)) 2 0))) 0 → Ready memory account
    go true b c d e ea eb ec ed ee h = absurd (omega arith)
    go false true c d e ea eb ec ed ee h = absurd (omega arith)
    go false false true d e ea eb ec ed ee h = absurd (omega arith)
    go false false false false e ea eb ec ed ee h = absurd (omega arith)
    go false false false true false ea eb ec ed ee h = absurd (omega arith)
    go false false false true true ea eb ec ed ee h = record { memory_ready = rw (ea, ec, ed); long = ltb-false _ _ eb; fits = ee }

-- what a call has met that keeps an account and is not refused
pub record Taken (memory account : List ℕ) (call : Call) : Type 0 where
  pub ready : Ready memory account
  pub free : refusal_of log_places (decode memory) call ≡ 0
  pub counts : is_account (account_counted memory account call) ≡ true
  pub plain : call_answer memory call ≡ (judged (decode memory) call).answer
  pub answer : accounted_answer memory account call ≡ (judged (decode memory) call).answer

module _ (memory account : List ℕ) (call : Call) where
  pub taken : is_refusal (accounted_answer memory account call) ≡ false → Taken memory account call
  unfolding accounted_answer is_refusal
  taken h = go (eqb (lent_refusal memory account) 0) (is_account (account_counted memory account call)) refl refl h
    where
      go : (a b : Bool) → eqb (lent_refusal memory account) 0 ≡ a → is_account (account_counted memory account call) ≡ b
          → is_refusal (cond a (cond b (call_answer memory call) (Refused 21)) (Refused (lent_refusal memory account))) ≡ false
          → Taken memory account call
      go true true ea eb h =
          let none = (unrefused memory call).0 h in
          record {
            ready = ready-by-number memory account (eqb-true _ _ ea);
            free = accepted-by memory call none;
            counts = eb;
            plain = acted-answer memory call none;
            answer = rw (ea, eb) (acted-answer memory call none);
          }
      go true false ea eb h = absurd (false≢true (sym h))
      go false b ea eb h = absurd (false≢true (sym h))

  -- it leaves what the plain call leaves, and the account with the call counted
  pub taken_memory : is_refusal (accounted_answer memory account call) ≡ false → accounted_memory memory account call ≡ call_memory memory call
  unfolding accounted_memory
  taken_memory h = rw h

  pub taken-account : is_refusal (accounted_answer memory account call) ≡ false → account_after_call memory account call ≡ account_counted memory account call
  unfolding account_after_call
  taken-account h = rw h

  -- and one that is refused leaves both
  pub refused-memory : is_refusal (accounted_answer memory account call) ≡ true → accounted_memory memory account call ≡ memory
  unfolding accounted_memory
  refused-memory h = rw h

  pub refused-account : is_refusal (accounted_answer memory account call) ≡ true → account_after_call memory account call ≡ account
  unfolding account_after_call
  refused-account h = rw h

pub refusal_is : (a : Answer) → is_refusal a ≡ true → (n : ℕ) × (a ≡ Refused n)
unfolding is_refusal
refusal_is (Refused n) h = (n, refl)
refusal_is (Judged verdict grant roottrip firmtrip) h = absurd (false≢true h)
refusal_is (Left n) h = absurd (false≢true h)
refusal_is (Standing roots) h = absurd (false≢true h)

-- a call that is not refused is of a root that has a row
pub known-root : (memory : List ℕ) (call : Call) → memory_refusal memory ≡ 0 → refusal_of log_places (decode memory) call ≡ 0
    → HasRow (Root (happening_root (happening_in memory call)))
unfolding happening_in open_root
known-root memory call ready free =
    root-known log_places (decode memory) (laid memory ready).fits.roots (sound-decode memory (sound-memory memory ready)).registered call free (call_answer memory call)
