-- A log entry in two numbers: an entry in range fits them, and they stand for that entry again. Assumes nothing.
use Rattle.std.proofs.Common.{◌≡◌, ℕ, zero, suc, ◌+◌, ◌/◌, ◌%◌, ◌^◌, ◌<◌, ◌≤◌, Bool, true, false, ◌&&◌, eqb, ltb, List, [], ◌∷◌, length, get_or, drop, sym, refl, ap, ◌∙◌, ap₂, zero-le, mod-lt, zero-lt-suc, arith, lt-ltb, eq-eqb, eqb-true, le-leb}
use Rattle.laws.proofs.Tests.{and_l, and_r, and_i, same_test, tests}
use Rattle.laws.specs.Lists.{same}
use Rattle.measures.specs.Ranges.{In, is_in, times, units, premiums, offers}
use Rattle.measures.proofs.Determined.{in-test}
use Rattle.bits.specs.Fields.{total, packed, Fit}
use Rattle.bits.proofs.Packing.{unpacked-packed, done, most, fits}
use Rattle.machine.specs.declared.Entry.{Entry}
use Rattle.machine.specs.Entries.{is_entry}
use Rattle.tables.specs.declared.Place.{Place}
use Rattle.tables.specs.Inner.Tables.{is_place}
use Rattle.packing.specs.EntryPlace.{flag_number, fill_widths, amount_widths, fill_values, amount_values, entry_numbers, entry_from, entry_at, is_entry_place, is_entry_but_time, entry_place}
use Rattle.tables.proofs.Tables.{Codec, placed}
use Rattle.packing.proofs.Parts.{told, shifted, by-shift, spare-test}

-- every number of an entry in its range
pub record Ranged (roots : ℕ) (e : Entry) : Type 0 where
  pub time : e.time ≤ times.most
  pub root : e.root < roots
  pub unit : e.unit ≤ units.most
  pub premium : In premiums e.premium.0
  pub contracts : In offers e.contracts.0

pub entry-ranged : (roots : ℕ) (e : Entry) → is_entry roots e ≡ true → Ranged roots e
unfolding is_entry
entry-ranged roots e h = record {
  time = search tests depth 14;
  root = search tests depth 14;
  unit = search tests depth 14;
  premium = (search tests depth 14, search tests depth 14);
  contracts = (search tests depth 14, search tests depth 14);
}

pub entry-valid : (roots : ℕ) (e : Entry) → Ranged roots e → is_entry roots e ≡ true
unfolding is_entry
entry-valid roots e r =
    rw (
      in-test times e.time (zero-le, r.time),
      lt-ltb e.root roots r.root,
      in-test units e.unit (zero-le, r.unit),
      in-test premiums e.premium.0 r.premium,
      in-test offers e.contracts.0 r.contracts,
    )

-- more roots hold it too
pub entry-wider : (roots more : ℕ) (e : Entry) → roots ≤ more → is_entry roots e ≡ true → is_entry more e ≡ true
entry-wider roots more e l h =
    let r = entry-ranged roots e h in
    entry-valid more e (record { time = r.time; root = omega (arith, r.root); unit = r.unit; premium = r.premium; contracts = r.contracts })

flag-most : (b : Bool) → flag_number b ≤ 1
flag-most false = zero-le
flag-most true = omega arith

flag-back : (b : Bool) → eqb (flag_number b) 1 ≡ b
flag-back false = refl
flag-back true = refl

flag-bit : (n : ℕ) → n < 2 → flag_number (eqb n 1) ≡ n
flag-bit zero h = refl
flag-bit (suc zero) h = refl
flag-bit (suc (suc n)) h = absurd (omega arith)

-- an entry in range fits its numbers
module _ (roots : ℕ) (e : Entry) (few : roots ≤ 64) (h : is_entry roots e ≡ true) where
  pub fill-fit : Fit fill_widths (fill_values e)
  unfolding fill_values
  fill-fit =
      let r = entry-ranged roots e h in
      fits
      (most 0 zero-le tt (most 86_399_999 r.time tt (most 63 (omega (arith, r.root)) tt (most 3 r.unit tt
      (most 1 (flag-most e.forroot) tt (most 1 (flag-most e.forfirm) tt done))))))

  pub amount-fit : Fit amount_widths (amount_values e)
  unfolding amount_values
  amount-fit =
      let r = entry-ranged roots e h in
      fits (most 0 zero-le tt (most 100_000_000 r.premium.1 tt (most 1_000_000 r.contracts.1 tt done)))

  pub fill_small : (e.time < 134_217_728) × (e.root < 64) × (e.unit < 4)
  unfolding fill_values Fit
  fill_small = let f = fill-fit in (f.1.0, f.1.1.0, f.1.1.1.0)

  pub amount_small : (e.premium.0 < 134_217_728) × (e.contracts.0 < 1_048_576)
  unfolding amount_values Fit
  amount_small = let f = amount-fit in (f.1.0, f.1.1.0)

-- the values of an entry stand for it
entry-back : (e : Entry) → entry_from (fill_values e) (amount_values e) ≡ e
unfolding entry_from fill_values amount_values
entry-back e = λ k. record {
  time = e.time;
  root = e.root;
  unit = e.unit;
  premium = e.premium;
  contracts = e.contracts;
  forroot = flag-back e.forroot k;
  forfirm = flag-back e.forfirm k;
}

-- an entry in its table: two numbers, which stand for it
pub entry-codec : (roots : ℕ) → roots ≤ 64 → Codec 2 (is_entry roots) entry_at entry_numbers
unfolding entry_numbers entry_at
entry-codec roots few = record {
  long = λ e. refl;
  back = λ e rest h.
      ap₂ entry_from (unpacked-packed fill_widths (fill_values e) (fill-fit roots e few h))
      (unpacked-packed amount_widths (amount_values e) (amount-fit roots e few h))
      ∙ entry-back e;
}

-- the entry of two numbers, each field by a shift and a mask
abbrev pub entry_in : ℕ → ℕ → Entry
entry_in fill amount = record {
  time = fill / 1024 % 134_217_728;
  root = fill / 16 % 64;
  unit = fill / 4 % 4;
  premium = record { 0 = amount / 1_048_576 % 134_217_728 };
  contracts = record { 0 = amount % 1_048_576 };
  forroot = eqb (fill / 2 % 2) 1;
  forfirm = eqb (fill % 2) 1;
}

pub entry_in_lem : (f s : ℕ) (rest : List ℕ) → entry_at (f ∷ s ∷ rest) ≡ entry_in f s
unfolding entry_at entry_from total
entry_in_lem f s rest = ap₂ entry_from (by-shift 27 (27 ∷ 6 ∷ 2 ∷ 1 ∷ 1 ∷ []) f) (by-shift 17 (27 ∷ 20 ∷ []) s)

-- an entry's own values but the spare bits are those that its numbers hold
fill-held : (f s : ℕ) → fill_values (entry_in f s) ≡ 0 ∷ shifted (27 ∷ 6 ∷ 2 ∷ 1 ∷ 1 ∷ []) f
unfolding fill_values total
fill-held f s =
    ap₂ (λ (a b : ℕ). 0 ∷ f / 1024 % 134_217_728 ∷ f / 16 % 64 ∷ f / 4 % 4 ∷ a ∷ b ∷ [])
    (flag-bit (f / 2 % 2) (mod-lt (f / 2) (zero-lt-suc 1))) (flag-bit (f % 2) (mod-lt f (zero-lt-suc 1)))

amount-held : (f s : ℕ) → amount_values (entry_in f s) ≡ 0 ∷ shifted (27 ∷ 20 ∷ []) s
unfolding amount_values total
amount-held f s = refl

entry-parts : (roots f s : ℕ) (rest : List ℕ)
    → is_entry_place roots (f ∷ s ∷ rest) ≡ (eqb (f / 2 ^ 37) 0 && (eqb (s / 2 ^ 47) 0 && true) && is_entry roots (entry_in f s))
unfolding is_place same entry_numbers total
entry-parts roots f s rest =
    ap (λ (e : Entry). same (f ∷ s ∷ []) (entry_numbers e) && is_entry roots e) (entry_in_lem f s rest)
    ∙ ap₂ (λ (a b : Bool). (a && (b && true)) && is_entry roots (entry_in f s))
    (ap (λ (v : List ℕ). eqb f (packed fill_widths v)) (fill-held f s) ∙ spare-test 27 (27 ∷ 6 ∷ 2 ∷ 1 ∷ 1 ∷ []) f)
    (ap (λ (v : List ℕ). eqb s (packed amount_widths v)) (amount-held f s) ∙ spare-test 17 (27 ∷ 20 ∷ []) s)

-- the test that code runs: a time or a premium in range, with what stands above it, has nothing above it
abbrev pub entry_test : ℕ → ℕ → ℕ → Bool
entry_test roots fill amount = is_in times (fill / 1024) && is_entry_but_time roots fill amount

whole-test : (roots f s : ℕ) → (eqb (f / 2 ^ 37) 0 && (eqb (s / 2 ^ 47) 0 && true) && is_entry roots (entry_in f s)) ≡ entry_test roots f s
whole-test roots f s = same_test (spare && is_entry roots (entry_in f s)) (entry_test roots f s) there back
  where
    a : Bool
    a = eqb (f / 2 ^ 37) 0

    b : Bool
    b = eqb (s / 2 ^ 47) 0

    spare : Bool
    spare = a && (b && true)

    there : (spare && is_entry roots (entry_in f s)) ≡ true → entry_test roots f s ≡ true
    there h =
        let z = and_l spare (is_entry roots (entry_in f s)) h in
        let above-time = eqb-true (f / 2 ^ 37) 0 (and_l a (b && true) z) in
        let above-premium = eqb-true (s / 2 ^ 47) 0 (and_l b true (and_r a (b && true) z)) in
        let r = entry-ranged roots (entry_in f s) (and_r spare (is_entry roots (entry_in f s)) h) in
        rw (
          in-test times (f / 1024) (zero-le, omega arith),
          lt-ltb (f / 16 % 64) roots r.root,
          le-leb 1 (s / 1_048_576) (omega arith),
          le-leb (s / 1_048_576) 100_000_000 (omega arith),
          le-leb 1 (s % 1_048_576) r.contracts.0,
          le-leb (s % 1_048_576) 1_000_000 r.contracts.1,
        )

    back : entry_test roots f s ≡ true → (spare && is_entry roots (entry_in f s)) ≡ true
    back h =
        let time : f / 1024 ≤ 86_399_999 = search tests depth 14 in
        let premium : s / 1_048_576 ≤ 100_000_000 = search tests depth 14 in
        let some : 1 ≤ s / 1_048_576 = search tests depth 14 in
        rw (eq-eqb (f / 2 ^ 37) 0 (omega arith), eq-eqb (s / 2 ^ 47) 0 (omega arith))
        (entry-valid roots (entry_in f s) (record {
          time = omega arith;
          root = search tests depth 14;
          unit = omega arith;
          premium = (omega arith, omega arith);
          contracts = (search tests depth 14, search tests depth 14);
        }))

-- a place is an entry's exactly if its parts pass that test
pub entry_place_lem : (roots f s : ℕ) (rest : List ℕ) → is_entry_place roots (f ∷ s ∷ rest) ≡ entry_test roots f s
entry_place_lem roots f s rest = entry-parts roots f s rest ∙ whole-test roots f s

-- an entry is in range exactly if its unit and its other numbers are
pub entry-tested : (roots : ℕ) (e : Entry)
    → (is_in times e.time && (ltb e.root roots && is_in premiums e.premium.0 && is_in offers e.contracts.0) && is_in units e.unit) ≡ is_entry roots e
unfolding is_entry
entry-tested roots e =
    same_test _ (is_in times e.time && ltb e.root roots && is_in units e.unit && is_in premiums e.premium.0 && is_in offers e.contracts.0)
    (λ h. search (and_l, and_r, and_i) depth 20) (λ h. search (and_l, and_r, and_i) depth 20)

-- the entry at a place, and whether it is one, by the place's two numbers as code reads them
module _ (xs : List ℕ) (at : ℕ) (h : at + 1 < length xs) where
  pub entry_here : entry_at (get_or xs at 0 ∷ get_or xs (at + 1) 0 ∷ []) ≡ entry_at (drop at xs)
  entry_here = told entry_at (λ a b rest. entry_in_lem a b rest ∙ sym (entry_in_lem a b [])) xs at h

  pub time-here : (entry_at (drop at xs)).time ≡ get_or xs at 0 / 1024 % 134_217_728
  time-here = ap (λ (e : Entry). e.time) (sym entry_here ∙ entry_in_lem (get_or xs at 0) (get_or xs (at + 1) 0) [])

  pub is-entry-here : (roots : ℕ) → is_entry_place roots (drop at xs) ≡ entry_test roots (get_or xs at 0) (get_or xs (at + 1) 0)
  is-entry-here roots =
      sym (told (is_entry_place roots) (λ a b rest. entry_place_lem roots a b rest ∙ sym (entry_place_lem roots a b [])) xs at h)
      ∙ entry_place_lem roots (get_or xs at 0) (get_or xs (at + 1) 0) []

-- the numbers of an entry in range are those of its place
pub entry-placed : (e : Entry) (p : Place) → is_entry 64 e ≡ true → p ≡ entry_place e → entry_numbers e ≡ p.first ∷ p.second ∷ []
unfolding entry_numbers
entry-placed e p h q = placed (is_entry 64) entry_numbers e _ _ p refl h q
