-- A lockout and a reset, step by step: the state that the memory then holds. Assumes nothing.
use Prim.Native.Nat.{ℕ}
use mathlib.Core.Path.{◌≡◌, refl, sym, ap, ◌∙◌}
use mathlib.Core.Bool.{Bool, true, false, not, ◌||◌, false≢true}
use mathlib.Core.List.{List, map}
use Rattle.laws.specs.Folds.{every}
use Rattle.machine.specs.State.{State}
use Rattle.machine.specs.declared.Effect.{Effect}
use Rattle.machine.specs.Entries.{is_flagged}
use Rattle.machine.specs.Effects.{zeroing, lifting, ZeroesNone}
use Rattle.machine.specs.Deeds.{resetting, locking_out, clock_after}
use Rattle.machine.specs.Locks.{lifted, locked_out}
use Rattle.machine.specs.Order.{unflagged_log, level_named, wiped}
use Rattle.machine.specs.Step.{accounts_after, locks_after, log_after, part_after, after}
use Rattle.machine.proofs.Effects.{totals-stay, log-stays}
use Rattle.daylog.specs.Inner.Log.{entries_in, log_numbers}
use Rattle.state.specs.State.{locks_numbers, stored, decode}
use Rattle.state.specs.Inner.Laid.{Laid, with_clock, with_locks, with_accounts, with_log}
use Rattle.state.specs.Inner.Tests.{locks_part, log_part, put_locks, put_log}
use Rattle.state.proofs.After.{Holds, held-laid, step-on, log-after, fits-clock, fits-locks}
use Rattle.state.proofs.Done.{fits_all}
use Rattle.locks.specs.Inner.Locks.{locks_in}
use Rattle.locks.proofs.Laid.{locks-after}
use Rattle.reset.proofs.Wipes.{wiped-fair}
use Rattle.machine.specs.Register.{register_after}

-- a test of both says that an effect zeroes no counter
pub zeroes-neither : (effect : Effect) → not (effect.zeroroot || effect.zerofirm) ≡ true → ZeroesNone effect
zeroes-neither effect = go effect.zeroroot effect.zerofirm
  where
    go : (a b : Bool) → not (a || b) ≡ true → (a ≡ false) × (b ≡ false)
    go true b e = absurd (false≢true e)
    go false true e = absurd (false≢true e)
    go false false e = (refl, refl)

module _ {xs ys : List ℕ} (h : Laid xs) (time : ℕ) (clock : ys ≡ stored (with_clock (decode xs) time) xs) where
  -- the clock moved
  moved : Holds (with_clock (decode xs) time) xs ys
  moved = record { fits = fits-clock h.fits time; is = clock }

  pub moved-laid : Laid ys
  moved-laid = held-laid moved

  -- a lockout: then the locks
  pub locked : (level root : ℕ) {part : List ℕ} → part ≡ locks_numbers (locked_out (level_named level root) (locks_in (locks_part ys)))
      → put_locks ys part ≡ stored (after (locking_out time (level_named level root)) (decode xs)) xs
  unfolding after part_after clock_after accounts_after locks_after log_after register_after
  locked level root e =
      let change = locked_out (level_named level root) in step-on moved (λ s. with_locks s (change s.part.locks)) (locks-after moved-laid change e)

  -- a reset: then the locks, the totals and the log
  module _ (root : ℕ) (effect : Effect) {part : List ℕ} (locks : part ≡ locks_numbers (lifted (lifting effect root) root (locks_in (locks_part ys)))) where
    lightened : State
    lightened = with_locks (with_clock (decode xs) time) (lifted (lifting effect root) root (decode xs).part.locks)

    light : Holds lightened xs (put_locks ys part)
    unfolding lightened
    light =
        let change = lifted (lifting effect root) root in record {
          fits = fits-locks moved.fits _;
          is = step-on moved (λ s. with_locks s (change s.part.locks)) (locks-after moved-laid change locks);
        }

    pub light-laid : Laid (put_locks ys part)
    light-laid = held-laid light

    -- an effect that zeroes no counter leaves it at that, where no entry of the log is without a flag
    pub unlocked-stored : every is_flagged (decode xs).log ≡ true → ZeroesNone effect
        → put_locks ys part ≡ stored (after (resetting time root effect) (decode xs)) xs
    unfolding after part_after clock_after locks_after log_after register_after lightened
    unlocked-stored flagged none =
        light.is
        ∙ ap (λ (s : State). stored s xs) (sym (λ i. record {
          part = record {
            clock = time;
            profile = (decode xs).part.profile;
            accounts = totals-stay effect none root time (decode xs).part.accounts i;
            locks = lifted (lifting effect root) root (decode xs).part.locks;
            register = (decode xs).part.register;
          };
          log = log-stays effect none root (decode xs).log flagged i;
        }))

    module _ {zs : List ℕ} (totals : let now = put_locks ys part in zs ≡ stored (with_accounts (decode now) (map (wiped (zeroing effect root)) (decode now).part.accounts)) now) where
      emptied : Holds (with_accounts lightened (map (wiped (zeroing effect root)) lightened.part.accounts)) xs zs
      emptied = record {
        fits = fits_all (wiped-fair (zeroing effect root)) light.fits;
        is = step-on light (λ s. with_accounts s (map (wiped (zeroing effect root)) s.part.accounts)) totals;
      }

      pub emptied-laid : Laid zs
      emptied-laid = held-laid emptied

      pub reset-stored : {log : List ℕ} → log ≡ log_numbers (unflagged_log (zeroing effect root) (entries_in (log_part zs)))
          → put_log zs log ≡ stored (after (resetting time root effect) (decode xs)) xs
      unfolding after part_after clock_after accounts_after locks_after log_after register_after lightened
      reset-stored e =
          let change = unflagged_log (zeroing effect root) in step-on emptied (λ s. with_log s (change s.log)) (log-after emptied-laid change e)
