-- The marks: what they tell of a level, and how they change. Assumes nothing.
use Rattle.std.specs.Prelude.{ℕ, Bool, true, not, cond, ◌&&◌, ◌||◌, eqb}
use Rattle.bits.specs.Locks.{bit, with_bit, without_bit}
use Rattle.rules.specs.declared.Level.{Level}
use Rattle.rules.specs.declared.Level.TheVariants.{Firm, Root}
use Rattle.machine.specs.State.{Locks}

unfoldable pub is_tripped : Locks → Level → Bool
is_tripped l Firm = l.firm_tripped
is_tripped l (Root root) = eqb (bit l.tripped root) 1

unfoldable pub is_by_user : Locks → Level → Bool
is_by_user l Firm = l.firm_by_user
is_by_user l (Root root) = eqb (bit l.by_user root) 1

unfoldable pub is_locked : Locks → Level → Bool
is_locked l level = is_tripped l level || is_by_user l level

-- 1 if the firm is locked, else 2 if the root is, else 0
unfoldable pub verdict_of : Locks → ℕ → ℕ
verdict_of l root = cond (is_locked l Firm) 1 (cond (is_locked l (Root root)) 2 0)

-- the marks of these levels are taken away, where they are the firm or this root
unfoldable pub lifted : (Level → Bool) → ℕ → Locks → Locks
lifted lifts root l = record {
  firm_tripped = not (lifts Firm) && l.firm_tripped;
  firm_by_user = not (lifts Firm) && l.firm_by_user;
  tripped = cond (lifts (Root root)) (without_bit l.tripped root) l.tripped;
  by_user = cond (lifts (Root root)) (without_bit l.by_user root) l.by_user;
}

-- these levels trip, where they are the firm or this root
unfoldable pub tripped_by : (Level → Bool) → ℕ → Locks → Locks
tripped_by trips root l = record {
  firm_tripped = trips Firm || l.firm_tripped;
  firm_by_user = l.firm_by_user;
  tripped = cond (trips (Root root)) (with_bit l.tripped root) l.tripped;
  by_user = l.by_user;
}

-- the user locks a level out
unfoldable pub locked_out : Level → Locks → Locks
locked_out Firm l = record { firm_tripped = l.firm_tripped; firm_by_user = true; tripped = l.tripped; by_user = l.by_user }
locked_out (Root root) l = record {
  firm_tripped = l.firm_tripped;
  firm_by_user = l.firm_by_user;
  tripped = l.tripped;
  by_user = with_bit l.by_user root;
}
