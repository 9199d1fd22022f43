-- What resets do as sets of levels, the state that such sets leave, and an order that is not refused. Assumes nothing.
use Rattle.std.specs.Prelude.{ℕ, zero, suc, ◌≡◌, Bool, not, cond, ◌&&◌, ◌||◌, map}
use Rattle.bits.specs.Locks.{without_bit}
use Rattle.rules.specs.declared.Level.{Level}
use Rattle.rules.specs.declared.Level.TheVariants.{Firm, Root}
use Rattle.machine.specs.State.{Locks, State, roots_in}
use Rattle.machine.specs.Effects.{effect_of, zeroing, lifting}
use Rattle.machine.specs.Order.{wiped, unflagged_log}
use Rattle.machine.specs.Calls.{order}
use Rattle.machine.specs.Refusals.{refusal_of}
use Rattle.machine.specs.Judge.{log_places, step}

-- what resets do: the levels whose counters they zero, and the levels whose trip and lockout they lift
pub record Sets : Type 0 where
  pub zeroes : Level → Bool
  pub lifts : Level → Bool

-- what the reset of an order for a root does
unfoldable pub sets_of : ℕ → ℕ → Sets
sets_of root reset = record { zeroes = zeroing (effect_of reset) root; lifts = lifting (effect_of reset) root }

-- what two do together: all that either does
unfoldable pub union : Sets → Sets → Sets
union a b = record { zeroes = λ level. a.zeroes level || b.zeroes level; lifts = λ level. a.lifts level || b.lifts level }

-- a word of marks without those of the first n roots that are in a set
unfoldable pub cleared : (Level → Bool) → ℕ → ℕ → ℕ
cleared lifts zero w = w
cleared lifts (suc r) w = cond (lifts (Root r)) (without_bit (cleared lifts r w) r) (cleared lifts r w)

-- the marks without those of the levels in a set, of so many roots
unfoldable pub unlocked : (Level → Bool) → ℕ → Locks → Locks
unlocked lifts roots l = record {
  firm_tripped = not (lifts Firm) && l.firm_tripped;
  firm_by_user = not (lifts Firm) && l.firm_by_user;
  tripped = cleared lifts roots l.tripped;
  by_user = cleared lifts roots l.by_user;
}

-- the state that these sets leave at a time: totals and flags of the one are zeroed, and entries without a flag leave; marks of the other are lifted
unfoldable pub reset_to : ℕ → Sets → State → State
reset_to time sets s = record {
  part = record {
    clock = time;
    profile = s.part.profile;
    accounts = map (wiped sets.zeroes) s.part.accounts;
    locks = unlocked sets.lifts (roots_in s) s.part.locks;
    register = s.part.register;
  };
  log = unflagged_log sets.zeroes s.log;
}

-- an order is not refused
abbrev pub NotRefused : State → ℕ → ℕ → ℕ → Type 0
NotRefused s t root reset = refusal_of log_places s (order t root reset) ≡ 0

-- the state that an order leaves
abbrev pub after_order : State → ℕ → ℕ → ℕ → State
after_order s t root reset = (step s (order t root reset)).after
