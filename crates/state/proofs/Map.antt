-- The test of the map and the state that it reads, part by part, as the parts stand in memory. Assumes nothing.
use Prim.Native.Nat.{ℕ}
use mathlib.Core.Path.{◌≡◌, ◌∙◌}
use mathlib.Core.Bool.{◌&&◌}
use mathlib.Core.List.{List}
use lib.ListN.{length, get_or, drop}
use lib.Seq.{drop-drop, get_or-drop}
use lib.Dec.{eqb}
use Rattle.shapes.specs.Shape.{cell, both, named, table}
use Rattle.shapes.proofs.Exact.{table-many}
use Rattle.rules.specs.declared.Rule.{Rule}
use Rattle.packing.specs.RulePlace.{rules_shape}
use Rattle.packing.specs.EntryPlace.{log_shape}
use Rattle.machine.specs.State.{cells_of}
use Rattle.state.specs.State.{number, locks_shape, from_tuple, profile_shape, totals_shape, part_shape, numbers_shape, accounts_of, state_of, decode, locks_at, log_at, totals_at, register_at}
use Rattle.register.specs.Register.{register_shape}

-- the roots and the rules that memory tells
abbrev pub roots_told : List ℕ → List ℕ
roots_told xs = (table 64 number).read (drop 3 xs)

abbrev pub rules_told : List ℕ → List Rule
rules_told xs = (rules_shape (length (roots_told xs))).read (drop 68 xs)

pub roots-told : (xs : List ℕ) → length (roots_told xs) ≡ get_or xs 3 0
roots-told xs = table-many 64 number (drop 3 xs) ∙ get_or-drop 3 xs 0 0

pub map-test : (xs : List ℕ) → numbers_shape.test xs
    ≡ (eqb (get_or xs 0 0) 1 && (((table 64 number).test (drop 3 xs) && (rules_shape (length (roots_told xs))).test (drop 68 xs))
    && ((totals_shape (rules_told xs)).test (drop totals_at xs) && (locks_shape.test (drop locks_at xs) && (register_shape (length (roots_told xs))).test (drop register_at xs))) && (log_shape (length (roots_told xs))).test (drop log_at xs)))
unfolding numbers_shape part_shape profile_shape both named from_tuple number cell
map-test xs = simp (drop-drop)

pub decode_is : (xs : List ℕ) → decode xs ≡ record {
  part = record {
    clock = get_or xs 1 0;
    profile = record { firm = get_or xs 2 0; roots = roots_told xs; rules = rules_told xs };
    accounts = accounts_of (cells_of (rules_told xs)) ((totals_shape (rules_told xs)).read (drop totals_at xs));
    locks = locks_shape.read (drop locks_at xs);
    register = (register_shape (length (roots_told xs))).read (drop register_at xs);
  };
  log = (log_shape (length (roots_told xs))).read (drop log_at xs);
}
unfolding decode state_of numbers_shape part_shape profile_shape both named from_tuple number cell
decode_is xs = simp (drop-drop, get_or-drop)
