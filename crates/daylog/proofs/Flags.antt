-- The flags in the first number of an entry: whether one is set, and the number without some of them is that of the entry without these. Assumes nothing.
use Prim.Native.Nat.{ℕ, zero, suc, ◌+◌, ◌*◌, ◌/◌, ◌%◌, ◌^◌, ◌<◌}
use mathlib.Core.Path.{◌≡◌, refl, sym, ap, ◌∙◌}
use mathlib.Core.Bool.{Bool, true, false, not, ◌&&◌, ◌||◌}
use mathlib.Core.List.{List, []}
use lib.ListN.{length, get_or, drop}
use lib.Dec.{eqb, ltb}
use native.Mathlib.Omega.{arith}
use lib.Bits.{bit_and, and_zero_r, and_block}
use Rattle.rules.specs.declared.Level.{Level}
use Rattle.rules.specs.declared.Level.TheVariants.{Firm, Root}
use Rattle.packing.specs.EntryPlace.{flag_number, entry_at}
use Rattle.machine.specs.Entries.{is_entry, is_flagged}
use Rattle.machine.specs.declared.Entry.{Entry}
use Rattle.machine.specs.Order.{unflagged}
use Rattle.packing.proofs.EntryPlace.{Ranged, entry-ranged, entry_in_lem, entry_here}
use Rattle.daylog.specs.Inner.Sieve.{fill_number, has_flag, flag_digits, without_flags}
use Rattle.daylog.proofs.Sifting.{flags-most, fill_is}

abbrev digits : Bool → Bool → ℕ
digits a b = flag_number a * 2 + flag_number b

-- of two flags those that are not cleared stay
flags-left : (a b x y : Bool) → bit_and (digits a b) (digits x y) + digits (not x && a) (not y && b) ≡ digits a b
flags-left true true true true = refl
flags-left true true true false = refl
flags-left true true false true = refl
flags-left true true false false = refl
flags-left true false true true = refl
flags-left true false true false = refl
flags-left true false false true = refl
flags-left true false false false = refl
flags-left false true true true = refl
flags-left false true true false = refl
flags-left false true false true = refl
flags-left false true false false = refl
flags-left false false true true = refl
flags-left false false true false = refl
flags-left false false false true = refl
flags-left false false false false = refl

-- two flags are not both 0
some-flag : (a b : Bool) → ltb 0 (digits a b) ≡ (a || b)
some-flag true true = refl
some-flag true false = refl
some-flag false true = refl
some-flag false false = refl

some-bit : (a b : ℕ) → a < 2 → b < 2 → ltb 0 (a * 2 + b) ≡ (eqb a 1 || eqb b 1)
some-bit zero zero h k = refl
some-bit zero (suc zero) h k = refl
some-bit (suc zero) zero h k = refl
some-bit (suc zero) (suc zero) h k = refl
some-bit (suc (suc a)) b h k = absurd (omega arith)
some-bit zero (suc (suc b)) h k = absurd (omega arith)
some-bit (suc zero) (suc (suc b)) h k = absurd (omega arith)

-- a flag that is cleared leaves an entry in range
pub unflagged-entry : (zeroes : Level → Bool) (e : Entry) → is_entry 64 e ≡ true → is_entry 64 (unflagged zeroes e) ≡ true
unfolding is_entry unflagged
unflagged-entry zeroes e v = v

module _ (zeroes : Level → Bool) (e : Entry) (v : is_entry 64 e ≡ true) where
  r : Ranged 64 e
  r = entry-ranged 64 e v

  few : digits e.forroot e.forfirm < 4
  few = flags-most e.forroot e.forfirm

  root_is : fill_number e / 16 % 64 ≡ e.root
  root_is = omega (arith, fill_is e v, few, r.root, r.unit)

  under : bit_and (fill_number e) (flag_digits zeroes e.root) ≡ bit_and (digits e.forroot e.forfirm) (flag_digits zeroes e.root)
  unfolding flag_digits
  under =
      let high = e.time * 256 + e.root * 4 + e.unit in
      let split : fill_number e ≡ high * 2 ^ 2 + digits e.forroot e.forfirm = fill_is e v ∙ omega arith in
      let mask = digits (zeroes (Root e.root)) (zeroes Firm) in
      let below : mask ≡ 0 * 2 ^ 2 + mask = omega arith in
      (λ i. bit_and (split i) (below i))
      ∙ (and_block 2 high 0 (digits e.forroot e.forfirm) mask few (flags-most (zeroes (Root e.root)) (zeroes Firm)) ∙ rw (and_zero_r high) (omega arith))

  pub unflagged-fill : fill_number (unflagged zeroes e) ≡ without_flags zeroes (fill_number e)
  unfolding unflagged without_flags flag_digits
  unflagged-fill =
      rw (root_is)
      (omega (arith, fill_is e v, fill_is (unflagged zeroes e) (unflagged-entry zeroes e v), under, flags-left e.forroot e.forfirm (zeroes (Root e.root)) (zeroes Firm)))

-- the first number of an entry tells whether it has a flag, and so does any that stands first in a place
pub fill-flagged : (e : Entry) → is_entry 64 e ≡ true → has_flag (fill_number e) ≡ is_flagged e
unfolding is_flagged
fill-flagged e v =
    let low : fill_number e % 4 ≡ digits e.forroot e.forfirm = omega (arith, fill_is e v, flags-most e.forroot e.forfirm) in
    ap (ltb 0) low ∙ some-flag e.forroot e.forfirm

pub flag-here : (xs : List ℕ) (at : ℕ) → at + 1 < length xs → is_flagged (entry_at (drop at xs)) ≡ has_flag (get_or xs at 0)
unfolding is_flagged
flag-here xs at h =
    let fill = get_or xs at 0 in
    let low : fill / 2 % 2 * 2 + fill % 2 ≡ fill % 4 = omega arith in
    ap is_flagged (sym (entry_here xs at h) ∙ entry_in_lem fill (get_or xs (at + 1) 0) [])
    ∙ sym (some-bit (fill / 2 % 2) (fill % 2) (omega arith) (omega arith))
    ∙ ap (ltb 0) low
