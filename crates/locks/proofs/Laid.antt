-- The locks of a memory in which a state is laid out. Assumes nothing.
use Prim.Native.Nat.{ℕ}
use mathlib.Core.Path.{◌≡◌, sym, ap, ◌∙◌}
use mathlib.Core.List.{List}
use lib.ListN.{length}
use Rattle.shapes.specs.Shape.{both, named, word, flag, cell}
use Rattle.machine.specs.State.{Locks}
use Rattle.state.specs.State.{number, locks_of, locks_shape, locks_numbers, stored, decode}
use Rattle.state.specs.Inner.Laid.{Laid, with_locks}
use Rattle.state.specs.Inner.Tests.{locks_part, put_locks}
use Rattle.state.proofs.Laid.{laid-locks}
use Rattle.state.proofs.Stores.{put-locks}
use Rattle.locks.specs.Inner.Locks.{locks_in, AreLocks}
use Rattle.locks.proofs.Numbers.{flag-told}

-- the numbers of locks stand for these
locks-back : (l : Locks) → locks_in (locks_numbers l) ≡ l
unfolding locks_in locks_shape locks_of named both word flag number cell
locks-back l = λ i. record {
  firm_tripped = flag-told l.firm_tripped i;
  firm_by_user = flag-told l.firm_by_user i;
  tripped = l.tripped;
  by_user = l.by_user;
}

module _ {xs : List ℕ} (h : Laid xs) where
  pub locks-are : locks_in (locks_part xs) ≡ (decode xs).part.locks
  locks-are = ap locks_in (laid-locks h) ∙ locks-back (decode xs).part.locks

  pub locks-held : AreLocks (locks_part xs)
  locks-held = record {
    long = ap length (laid-locks h);
    are = laid-locks h ∙ ap locks_numbers (sym locks-are);
  }

  pub locks-put : (l : Locks) → put_locks xs (locks_numbers l) ≡ stored (with_locks (decode xs) l) xs
  locks-put l = ap (λ (q : List ℕ). put_locks q (locks_numbers l)) h.is ∙ put-locks (decode xs) h.fits xs l

  -- the part of the locks after a change of the locks that it stands for
  pub locks-after : (change : Locks → Locks) {ys : List ℕ} → ys ≡ locks_numbers (change (locks_in (locks_part xs)))
      → put_locks xs ys ≡ stored (with_locks (decode xs) (change (decode xs).part.locks)) xs
  locks-after change e =
      ap (λ (q : List ℕ). put_locks xs q) (e ∙ ap (λ (l : Locks). locks_numbers (change l)) locks-are)
      ∙ locks-put (change (decode xs).part.locks)
