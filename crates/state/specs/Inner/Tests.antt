-- The tests of the parts of memory, as the code runs them. Assumes nothing.
use Rattle.std.specs.Prelude.{ℕ, ◌^◌, Bool, ◌&&◌, ◌||◌, List, ◌++◌, get_or, take, drop, eqb, ltb, leb}
use Rattle.measures.specs.Ranges.{◌to◌, is_in, times}
use Rattle.rules.specs.Valid.{has_rate}
use Rattle.machine.specs.State.{cells_of}
use Rattle.given.specs.Names.{is_name_number}
use Rattle.given.specs.Parts.{roots_hold, rules_of, rules_hold, totals_hold, totals_size}
use Rattle.daylog.specs.Inner.Log.{log_holds}
use Rattle.state.specs.State.{locks_at, log_at, totals_at, register_at, decode}
use Rattle.register.specs.Register.{register_holds}
use Rattle.machine.specs.Refusals.{used}
use Rattle.machine.specs.Judge.{log_places}

-- the parts as they are lent: the tables of the roots and of the rules, the totals, the locks and the log
abbrev pub roots_part : List ℕ → List ℕ
roots_part xs = take 65 (drop 3 xs)

abbrev pub rules_part : List ℕ → List ℕ
rules_part xs = take 513 (drop 68 xs)

abbrev pub totals_part : List ℕ → List ℕ
totals_part xs = take totals_size (drop totals_at xs)

abbrev pub locks_part : List ℕ → List ℕ
locks_part xs = take 4 (drop locks_at xs)

abbrev pub register_part : List ℕ → List ℕ
register_part xs = take 129 (drop register_at xs)

abbrev pub log_part : List ℕ → List ℕ
log_part xs = take 1025 (drop log_at xs)

-- a memory with other locks, with another register, and with another log
abbrev pub put_locks : List ℕ → List ℕ → List ℕ
put_locks xs locks = take locks_at xs ++ (locks ++ drop 4 (drop locks_at xs))

abbrev pub put_register : List ℕ → List ℕ → List ℕ
put_register xs register = take register_at xs ++ (register ++ drop 129 (drop register_at xs))

abbrev pub put_log : List ℕ → List ℕ → List ℕ
put_log xs log = take log_at xs ++ (log ++ drop 1025 (drop log_at xs))

-- the mark, the clock, the firm and the roots
unfoldable pub front_holds : List ℕ → Bool
front_holds xs = eqb (get_or xs 0 0) 1 && is_in times (get_or xs 1 0) && is_name_number 1 4 (get_or xs 2 0) && roots_hold (roots_part xs)

-- the locks, with so many roots
unfoldable pub locks_hold : ℕ → List ℕ → Bool
locks_hold roots xs =
    is_in (0 to 1) (get_or xs 0 0) && is_in (0 to 1) (get_or xs 1 0) && ltb (get_or xs 2 0) (2 ^ roots) && ltb (get_or xs 3 0) (2 ^ roots)

-- the rules, and the totals of their accounts
abbrev pub rules_paid : List ℕ → Bool
rules_paid xs = rules_hold (get_or xs 3 0) (rules_part xs) && totals_hold (cells_of (rules_of (rules_part xs))) (totals_part xs)

-- the other parts, with the number of roots and the clock that the front tells
unfoldable pub parts_hold : List ℕ → Bool
parts_hold xs =
    locks_hold (get_or xs 3 0) (locks_part xs)
    && (has_rate (rules_of (rules_part xs)) || eqb (get_or xs log_at 0) 0)
    && log_holds (get_or xs 3 0) (get_or xs 1 0) (log_part xs)
    && register_holds (get_or xs 3 0) (register_part xs)

-- the use of the log, at the clock, is within its places
unfoldable pub use_holds : List ℕ → Bool
use_holds xs = leb (used (decode xs) (decode xs).part.clock) log_places

unfoldable pub sound_parts : List ℕ → Bool
sound_parts xs = front_holds xs && rules_paid xs && parts_hold xs && use_holds xs
