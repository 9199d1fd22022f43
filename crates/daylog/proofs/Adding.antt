-- One entry more in a memo's sums, by the numbers that the code takes of its place. Assumes nothing.
use Prim.Native.Nat.{ℕ, zero, suc, ◌+◌, ◌*◌, ◌-◌, ◌≤◌, ◌<◌}
use mathlib.Core.Path.{◌≡◌, refl, sym, ap, ap₂, ◌∙◌}
use mathlib.Core.Bool.{Bool, true, false, cond, ◌&&◌}
use mathlib.Core.List.{List, [], ◌∷◌}
use native.Mathlib.Nat.{mul-zero}
use native.Mathlib.Omega.{arith}
use lib.Dec.{ltb}
use lib.ListN.{length, get_or, drop}
use borrow.Author.Tests.{ltb-true, ltb-false}
use Rattle.rules.specs.Rules.{added, executions}
use Rattle.rules.specs.declared.Limit.{Limit}
use Rattle.rules.specs.declared.Limit.TheVariants.{Notional, Volume, Count}
use Rattle.machine.specs.declared.Entry.{Entry}
use Rattle.packing.specs.EntryPlace.{entry_at}
use Rattle.packing.proofs.EntryPlace.{Ranged, entry_here, entry_in_lem, entry_in, entry-ranged}
use Rattle.daylog.proofs.Logs.{held-entry}
use Rattle.daylog.specs.declared.sieves.Sieve.{Sieve}
use Rattle.daylog.specs.Inner.Log.{HeldLog, entries_of}
use Rattle.daylog.specs.Newest.{is_since, newest}
use Rattle.daylog.specs.Inner.Sieve.{is_wanted, passes, fill_number, sifted}
use Rattle.daylog.proofs.Memos.{in_dollars, in_contracts, in_executions}
use Rattle.daylog.proofs.Newest.{read-stop}
use Rattle.daylog.proofs.Sifting.{held-fill, place-since, place-before, sifted-most}
use Rattle.daylog.proofs.Sums.{Summed, summed-more, picked-most}

-- no contracts count nothing
nothing : (limit : Limit) (premium : ℕ) → added limit premium 0 ≡ 0
unfolding added executions
nothing (Notional l) premium = mul-zero premium
nothing (Volume l) premium = refl
nothing (Count l) premium = refl

-- a place that is not before the sieve's time: its entry, and what its contracts count, or none if its first number is not wanted
module _ {k : ℕ} {xs : List ℕ} (held : HeldLog k xs) (s : Sieve) (i : ℕ) (some : 0 < i) (within : i ≤ k)
    (inside : s.from * 1024 ≤ get_or xs ((i - 1) * 2) 0) where
  abbrev at : ℕ
  at = (i - 1) * 2

  abbrev place : Entry
  place = entry_at (drop at xs)

  below : i - 1 < k
  below = omega arith

  since-here : is_since s.from place ≡ true
  since-here = place-since s.from (i - 1) held below inside

  share-is : (limit : Limit) → added limit place.premium.0 (cond (is_wanted s (get_or xs at 0)) place.contracts.0 0) ≡ sifted limit s place
  unfolding sifted passes
  share-is limit = rw since-here (go (is_wanted s (get_or xs at 0)) (ap (is_wanted s) (sym (held-fill held below))))
    where
      go : (b : Bool) → is_wanted s (fill_number place) ≡ b
          → added limit place.premium.0 (cond b place.contracts.0 0) ≡ cond (is_wanted s (fill_number place) && true) (added limit place.premium.0 place.contracts.0) 0
      go true e = rw e
      go false e = rw e (nothing limit place.premium.0)

  -- the entry as the code takes it: with nothing in its second number where it is not wanted
  abbrev taken : Bool
  taken = is_wanted s (get_or xs at 0)

  module _ {amount : ℕ} (sieved : amount ≡ cond taken (get_or xs (at + 1) 0) 0) {e : Entry} (is : e ≡ entry_at (get_or xs at 0 ∷ amount ∷ [])) where
    place_in : place ≡ entry_in (get_or xs at 0) (get_or xs (at + 1) 0)
    place_in = sym (entry_here xs at (omega (arith, held.size, held.fits))) ∙ entry_in_lem (get_or xs at 0) (get_or xs (at + 1) 0) []

    e-in : e ≡ entry_in (get_or xs at 0) (cond taken (get_or xs (at + 1) 0) 0)
    e-in = is ∙ entry_in_lem (get_or xs at 0) amount [] ∙ ap (λ (n : ℕ). entry_in (get_or xs at 0) n) sieved

    premium-is : e.premium.0 ≡ cond taken place.premium.0 0
    premium-is = ap (λ (e : Entry). e.premium.0) e-in ∙ go taken ∙ (λ j. cond taken (sym place_in j).premium.0 0)
      where
        go : (b : Bool) → (entry_in (get_or xs at 0) (cond b (get_or xs (at + 1) 0) 0)).premium.0 ≡ cond b (entry_in (get_or xs at 0) (get_or xs (at + 1) 0)).premium.0 0
        go true = refl
        go false = refl

    contracts-is : e.contracts.0 ≡ cond taken place.contracts.0 0
    contracts-is = ap (λ (e : Entry). e.contracts.0) e-in ∙ go taken ∙ (λ j. cond taken (sym place_in j).contracts.0 0)
      where
        go : (b : Bool) → (entry_in (get_or xs at 0) (cond b (get_or xs (at + 1) 0) 0)).contracts.0 ≡ cond b (entry_in (get_or xs at 0) (get_or xs (at + 1) 0)).contracts.0 0
        go true = refl
        go false = refl

    ranged : Ranged 64 place
    ranged = entry-ranged 64 place (held-entry held below refl)

    pub small : (e.premium.0 ≤ 100_000_000) × (e.contracts.0 ≤ 1_000_000)
    small = (rw premium-is (picked-most taken place.premium.0 100_000_000 ranged.premium.1), rw contracts-is (picked-most taken place.contracts.0 1_000_000 ranged.contracts.1))

    -- one entry more, in each measure, by the sums that the code makes
    sift-more : {sum n : ℕ} (limit : Limit) → Summed (sifted limit s) s.from k xs i sum → n ≡ added limit place.premium.0 (cond taken place.contracts.0 0)
        → Summed (sifted limit s) s.from k xs (i - 1) (sum + n)
    sift-more limit sum number = summed-more sum some refl since-here (number ∙ share-is limit) (sifted-most limit s _ (held-entry held below refl))

    pub more-notional : {sum n : ℕ} → Summed (sifted in_dollars s) s.from k xs i sum → n ≡ e.premium.0 * e.contracts.0
        → Summed (sifted in_dollars s) s.from k xs (i - 1) (sum + n)
    unfolding added
    more-notional sum number =
        sift-more in_dollars sum (number ∙ ap₂ (λ (p c : ℕ). p * c) premium-is contracts-is ∙ go taken)
      where
        go : (b : Bool) → cond b place.premium.0 0 * cond b place.contracts.0 0 ≡ place.premium.0 * cond b place.contracts.0 0
        go true = refl
        go false = sym (mul-zero place.premium.0)

    pub more-volume : {sum : ℕ} → Summed (sifted in_contracts s) s.from k xs i sum → Summed (sifted in_contracts s) s.from k xs (i - 1) (sum + e.contracts.0)
    unfolding added
    more-volume sum = sift-more in_contracts sum contracts-is

    pub more-count : {sum n : ℕ} → Summed (sifted in_executions s) s.from k xs i sum → n ≡ cond taken 1 0
        → Summed (sifted in_executions s) s.from k xs (i - 1) (sum + n)
    unfolding added executions
    more-count sum number = sift-more in_executions sum (number ∙ go taken place.contracts.0 ranged.contracts.0)
      where
        go : (b : Bool) (c : ℕ) → 1 ≤ c → cond b 1 0 ≡ executions (cond b c 0)
        go true zero l = absurd (omega arith)
        go true (suc c) l = refl
        go false c l = refl

-- where a reading still passes an entry, the next one is not before its time
pub not_stopped : {k : ℕ} {xs : List ℕ} (first i : ℕ) → HeldLog k xs → 0 < i → i ≤ k → 0 < length (newest first (entries_of i xs))
    → first * 1024 ≤ get_or xs ((i - 1) * 2) 0
not_stopped {xs = xs} first i held some within left = go (ltb number (first * 1024)) refl
  where
    number : ℕ
    number = get_or xs ((i - 1) * 2) 0

    go : (b : Bool) → ltb number (first * 1024) ≡ b → first * 1024 ≤ number
    go true t =
        let out = place-before first (i - 1) held (omega arith) (ltb-true number (first * 1024) t) in
        absurd (omega (arith, ap length (read-stop first xs i some refl out)))
    go false t = ltb-false number (first * 1024) t

-- nothing is left to read where so many are passed as a reading passes
pub none_left : (es : List Entry) → length es ≡ 0 → es ≡ []
none_left [] e = refl
none_left (x ∷ es) e = absurd (omega arith)

-- what is summed so far fits 64 bits
pub sum_fits : {f : Entry → ℕ} {first k i sum : ℕ} {xs : List ℕ} → HeldLog k xs → Summed f first k xs i sum → sum < 18_446_744_073_709_551_616
sum_fits held h = omega (arith, held.fits, h.small)
