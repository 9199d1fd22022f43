-- The resets: which there are, and that T and E unlock without forgetting. Assumes nothing.
use Prim.Native.Nat.{ℕ, zero, suc, ◌<◌}
use mathlib.Core.Path.{◌≡◌, refl}
use mathlib.Core.Bool.{true, false, not, cond, ◌&&◌, ◌||◌, and-false}
use mathlib.Core.List.{List}
use lib.ListN.{length}
use lib.Dec.{eqb}
use borrow.Author.Tests.{ne_eqb}
use native.Mathlib.Omega.{arith}
use Rattle.laws.specs.Folds.{every}
use Rattle.rules.specs.Amounts.{amount_in}
use Rattle.rules.specs.Rules.{level_of}
use Rattle.rules.specs.declared.Level.{Level}
use Rattle.rules.specs.declared.Level.TheVariants.{Firm, Root}
use Rattle.rules.specs.declared.Account.{Account}
use Rattle.machine.specs.declared.Entry.{Entry}
use Rattle.machine.specs.Entries.{is_flagged}
use Rattle.machine.specs.Effects.{Effect, resets, effect_of, last_reset, zeroing, lifting, ZeroesNone}
use Rattle.machine.specs.Deeds.{resetting}
use Rattle.machine.specs.Order.{wiped, unflagged, unflagged_log}
use Rattle.machine.specs.Step.{accounts_after}
use Rattle.machine.proofs.Lists.{keep_all, map_same}

-- the resets that there are go from 0 to the last
pub resets-all : length resets ≡ suc last_reset
unfolding resets
resets-all = refl

-- the table by tests of the number
pub effect-tests : (reset : ℕ)
    → effect_of reset
    ≡ record {
      zeroroot = eqb reset 1 || eqb reset 3;
      zerofirm = eqb reset 2 || eqb reset 3;
      liftroot = eqb reset 1 || eqb reset 3 || eqb reset 4 || eqb reset 6;
      liftfirm = eqb reset 2 || eqb reset 3 || eqb reset 5 || eqb reset 6;
    }
unfolding effect_of resets
effect-tests zero = refl
effect-tests (suc zero) = refl
effect-tests (suc (suc zero)) = refl
effect-tests (suc (suc (suc zero))) = refl
effect-tests (suc (suc (suc (suc zero)))) = refl
effect-tests (suc (suc (suc (suc (suc zero))))) = refl
effect-tests (suc (suc (suc (suc (suc (suc zero)))))) = refl
effect-tests (suc (suc (suc (suc (suc (suc (suc n))))))) = rw (above 1 (omega arith), above 2 (omega arith), above 3 (omega arith), above 4 (omega arith), above 5 (omega arith), above 6 (omega arith))
  where
    above : (k : ℕ) → k < 7 → eqb (suc (suc (suc (suc (suc (suc (suc n))))))) k ≡ false
    above k low = ne_eqb _ k (λ e. omega arith)

-- T, E and both of these zero none, and lift what SYMBOL, FIRM and BOTH lift
pub unlocking : (ZeroesNone (effect_of 4)) × (ZeroesNone (effect_of 5)) × (ZeroesNone (effect_of 6))
unfolding effect_of resets
unlocking = ((refl, refl), (refl, refl), (refl, refl))

pub lifts-alike : (root : ℕ) (level : Level)
    → (lifting (effect_of 4) root level ≡ lifting (effect_of 1) root level)
    × (lifting (effect_of 5) root level ≡ lifting (effect_of 2) root level)
    × (lifting (effect_of 6) root level ≡ lifting (effect_of 3) root level)
unfolding effect_of resets lifting
lifts-alike root Firm = (refl, refl, refl)
lifts-alike root (Root r) = (refl, refl, refl)

-- SYMBOL, FIRM and BOTH zero what they lift
pub zeroes-alike : (root : ℕ) (level : Level)
    → (zeroing (effect_of 1) root level ≡ lifting (effect_of 1) root level)
    × (zeroing (effect_of 2) root level ≡ lifting (effect_of 2) root level)
    × (zeroing (effect_of 3) root level ≡ lifting (effect_of 3) root level)
unfolding effect_of resets zeroing lifting
zeroes-alike root Firm = (refl, refl, refl)
zeroes-alike root (Root r) = (refl, refl, refl)

module _ (effect : Effect) (none : ZeroesNone effect) (root : ℕ) where
  -- it concerns the counters of no level
  pub zeroes-none : (level : Level) → zeroing effect root level ≡ false
  unfolding zeroing
  zeroes-none Firm = none.1
  zeroes-none (Root r) = rw none.0 (and-false (eqb r root))

  pub total-stays : (a : Account) → wiped (zeroing effect root) a ≡ a
  unfolding wiped
  total-stays a = λ i. record { rule = a.rule; total = cond (zeroes-none (level_of a.rule.scope) i) (amount_in a.rule.limit 0) a.total }

  pub flags-stay : (e : Entry) → unflagged (zeroing effect root) e ≡ e
  unfolding unflagged
  flags-stay e =
      λ i.
      record {
        time = e.time;
        root = e.root;
        unit = e.unit;
        premium = e.premium;
        contracts = e.contracts;
        forroot = not (zeroes-none (Root e.root) i) && e.forroot;
        forfirm = not (zeroes-none Firm i) && e.forfirm;
      }

  -- UNLOCKING FORGETS NOTHING: it leaves every total, and a log whose entries all count for something
  pub totals-stay : (time : ℕ) (accounts : List Account) → accounts_after (resetting time root effect) accounts ≡ accounts
  unfolding accounts_after
  totals-stay time accounts = map_same (wiped (zeroing effect root)) total-stays accounts

  pub log-stays : (log : List Entry) → every is_flagged log ≡ true → unflagged_log (zeroing effect root) log ≡ log
  unfolding unflagged_log
  log-stays log flagged = rw (map_same (unflagged (zeroing effect root)) flags-stay log) (keep_all is_flagged log flagged)
