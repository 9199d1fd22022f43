-- What a memory and an account that are lent together are refused by: 1, 4 and 2. Assumes nothing.
use Prim.Native.Nat.{ℕ, ◌≤◌}
use native.Mathlib.Omega.{arith}
use mathlib.Core.Path.{◌≡◌, refl, sym, ap, ◌∙◌}
use mathlib.Core.Logic.{◌↔◌, ◌⊎◌}
use mathlib.Core.Bool.{Bool, true, false, not, cond, ◌&&◌, ◌||◌}
use mathlib.Core.List.{List, [], ◌∷◌}
use lib.ListN.{length}
use lib.Dec.{eqb}
use borrow.Author.Tests.{ltb-true, ltb-false, lt-ltb, le-ltb, not-true}
use Rattle.machine.proofs.Register.{or_no}
use Rattle.machine.specs.Refusals.{first_of}
use Rattle.state.specs.State.{size}
use Rattle.state.specs.Sound.{Sound, is_sound}
use Rattle.calls.specs.Calls.{is_short, mark_of, memory_refusal}
use Rattle.figures.specs.Account.{account_size, is_account}
use Rattle.figures.specs.Levels.{Above}
use Rattle.figures.proofs.Limits.{within-passes, fails-above, above-fails}
use Rattle.accounted.specs.Accounted.{is_short_account, lent_refusal}
use Rattle.promises.specs.Refusals.{Short, ◌when◌else◌}
use Rattle.promises.specs.AccountRefusals.{ShortAccount}
use Rattle.promises.proofs.Tests.{Tells, either-tells, or-tells}
use Rattle.promises.proofs.Gives.{Leads, ends, tested}
use Rattle.promises.proofs.Refusals.{short-tells, long-tells, unmarked-tells, marked-tells, unsound-tells}

-- the account memory is long enough
abbrev pub LongAccount : List ℕ → Type 0
LongAccount account = account_size ≤ length account

module _ (memory account : List ℕ) where
  pub short-account : Tells (is_short_account account) (ShortAccount account)
  unfolding is_short_account
  short-account = (ltb-true (length account) account_size, lt-ltb (length account) account_size)

  above-account : Tells (not (is_account account)) (Above account)
  above-account = (λ e. fails-above account (not-true _ e), λ h. ap not (above-fails account h))

  shorts : Tells (is_short memory || is_short_account account) (Short memory ⊎ ShortAccount account)
  shorts = either-tells (is_short memory) (is_short_account account) (short-tells memory) short-account

  faults : Tells (not (is_sound memory && is_account account)) ((Sound memory → ⊥) ⊎ Above account)
  faults = or-tells (is_sound memory) (is_account account) (unsound-tells memory) above-account

  -- 1, 4 and 2, and what comes after them
  pub lent-leads : (r : ℕ) (after : ℕ → Type 0)
      → Leads r after (lent_refusal memory account)
      (1 when (Short memory ⊎ ShortAccount account) else 4 when (mark_of memory ≡ 0) else 2 when ((Sound memory → ⊥) ⊎ Above account) else after)
  unfolding lent_refusal first_of
  lent-leads r after =
      tested r after (is_short memory || is_short_account account) 0 _ shorts
      (tested r after (eqb (mark_of memory) 0) 3 _ (unmarked-tells memory) (tested r after (not (is_sound memory && is_account account)) 1 0 faults (ends r after)))

  pub lent_one : lent_refusal memory account ≡ 1 → Short memory ⊎ ShortAccount account
  unfolding lent_refusal first_of
  lent_one = go (is_short memory || is_short_account account) refl (eqb (mark_of memory) 0) (not (is_sound memory && is_account account))
    where
      go : (a : Bool) → (is_short memory || is_short_account account) ≡ a → (b c : Bool) → ◌≡◌ {A = ℕ} (cond a 1 (cond b 4 (cond c 2 0))) 1 → Short memory ⊎ ShortAccount account
      go true s b c e = shorts.0 s
      go false s true c e = absurd (omega arith)
      go false s false true e = absurd (omega arith)
      go false s false false e = absurd (omega arith)

  pub lent_two : lent_refusal memory account ≡ 2 → (Sound memory → ⊥) ⊎ Above account
  unfolding lent_refusal first_of
  lent_two = go (is_short memory || is_short_account account) (eqb (mark_of memory) 0) (not (is_sound memory && is_account account)) refl
    where
      go : (a b c : Bool) → not (is_sound memory && is_account account) ≡ c → ◌≡◌ {A = ℕ} (cond a 1 (cond b 4 (cond c 2 0))) 2 → (Sound memory → ⊥) ⊎ Above account
      go true b c s e = absurd (omega arith)
      go false true c s e = absurd (omega arith)
      go false false true s e = faults.0 s
      go false false false s e = absurd (omega arith)

  -- memory that meets no refusal leaves those of the account
  pub lent-account : memory_refusal memory ≡ 0 → lent_refusal memory account ≡ cond (is_short_account account) 1 (cond (not (is_account account)) 2 0)
  unfolding lent_refusal memory_refusal first_of
  lent-account ready = go (is_short memory) (eqb (mark_of memory) 0) (is_sound memory) ready
    where
      go : (a b c : Bool) → ◌≡◌ {A = ℕ} (cond a 1 (cond b 4 (cond (not c) 2 0))) 0
          → ◌≡◌ {A = ℕ} (cond (a || is_short_account account) 1 (cond b 4 (cond (not (c && is_account account)) 2 0)))
          (cond (is_short_account account) 1 (cond (not (is_account account)) 2 0))
      go true b c h = absurd (omega arith)
      go false true c h = absurd (omega arith)
      go false false false h = absurd (omega arith)
      go false false true h = refl
