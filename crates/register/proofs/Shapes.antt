-- The register's table is exact, and its numbers are a count and the places. Assumes nothing.
use Prim.Native.Nat.{ℕ, ◌*◌, ◌≤◌}
use mathlib.Core.Path.{◌≡◌, refl}
use mathlib.Core.Bool.{◌&&◌}
use mathlib.Core.List.{List}
use lib.ListN.{get_or, take, drop}
use lib.Dec.{leb}
use Rattle.machine.specs.declared.Sent.{Sent}
use Rattle.shapes.specs.Shape.{Exact, cell, coded, both, named, rows, table as counted}
use Rattle.shapes.proofs.Exact.{coded-exact, table-exact}
use Rattle.tables.specs.Inner.Tables.{all_zero, table_numbers, is_place, places_pass}
use Rattle.register.specs.SentPlace.{is_sent_place, sent_shape}
use Rattle.register.specs.Register.{register_shape, register_numbers, register_in}
use Rattle.register.proofs.SentPlace.{sent-codec}

pub register-exact : (roots : ℕ) → roots ≤ 64 → Exact (register_shape roots)
unfolding register_shape sent_shape
register-exact roots l = table-exact 64 _ (coded-exact 2 _ _ _ (sent-codec roots l).long (sent-codec roots l).back)

-- written: the count, then the places
pub register-written : (roots : ℕ) (register : List Sent) → (register_shape roots).write register ≡ register_numbers register
unfolding register_shape sent_shape counted named both cell rows coded table_numbers
register-written roots register = refl

-- read: as many as the count says
pub register-read : (roots : ℕ) (xs : List ℕ) → (register_shape roots).read xs ≡ register_in xs
unfolding register_shape sent_shape counted named both cell rows coded
register-read roots xs = refl

-- tested: the count, the places up to it, and zeros after them
pub register-tested : (roots : ℕ) (xs : List ℕ) → let k = get_or xs 0 0 in (register_shape roots).test xs
    ≡ (leb k 64 && (leb k 64 && places_pass 2 (is_sent_place roots) k (drop 1 xs) && all_zero (drop (k * 2) (take 128 (drop 1 xs)))))
unfolding register_shape sent_shape counted named both cell rows coded is_place
register-tested roots xs = refl
