-- An order sent away in two numbers: an order in range fits them, and they stand for that order again. Assumes nothing.
use Prim.Native.Nat.{ℕ, ◌+◌, ◌/◌, ◌%◌, ◌^◌, ◌≤◌, ◌<◌, zero-le}
use mathlib.Core.Path.{◌≡◌, refl, sym, ap, ap₂, ◌∙◌}
use mathlib.Core.Bool.{Bool, true, ◌&&◌}
use mathlib.Core.List.{List, [], ◌∷◌}
use native.Mathlib.Omega.{arith}
use lib.ListN.{length, get_or, drop}
use lib.Seq.{get_or-drop}
use lib.Dec.{eqb, leb, ltb}
use borrow.Author.Tests.{eqb-true, eq-eqb, le-leb, lt-ltb}
use Rattle.laws.proofs.Tests.{and_l, and_r, same_test, tests}
use Rattle.laws.specs.Lists.{same}
use Rattle.measures.specs.Ranges.{is_in, premiums}
use Rattle.bits.specs.Fields.{total, packed, unpacked, Fit}
use Rattle.bits.proofs.Packing.{unpacked-packed, done, most, fits}
use Rattle.machine.specs.declared.Sent.{Sent}
use Rattle.machine.specs.Register.{is_sent}
use Rattle.machine.proofs.Register.{sent-in, in-sent}
use Rattle.tables.specs.Inner.Tables.{is_place}
use Rattle.packing.specs.EntryPlace.{amount_widths}
use Rattle.tables.proofs.Tables.{Codec}
use Rattle.packing.proofs.Parts.{told, shifted, by-shift, spare-test}
use Rattle.register.specs.SentPlace.{sent_widths, sent_values, open_values, sent_numbers, sent_by, sent_from, is_sent_place}

-- more roots hold it too
pub sent-wider : (roots more : ℕ) (sent : Sent) → roots ≤ more → is_sent roots sent ≡ true → is_sent more sent ≡ true
sent-wider roots more sent l h =
    let r = sent-in roots sent h in
    in-sent more sent (record {
      identity = r.identity;
      root = omega (arith, r.root);
      unit = r.unit;
      premium = r.premium;
      contracts = r.contracts;
      reports = r.reports;
    })

-- an order in range fits its numbers
module _ (roots : ℕ) (sent : Sent) (few : roots ≤ 64) (h : is_sent roots sent ≡ true) where
  pub sent-fit : Fit sent_widths (sent_values sent)
  unfolding sent_values
  sent-fit =
      let r = sent-in roots sent h in
      fits
      (most 0 zero-le tt (most 65_535 r.identity.1 tt (most 63 (omega (arith, r.root)) tt (most 3 r.unit.1 tt (most 16 r.reports.1 tt done)))))

  pub open-fit : Fit amount_widths (open_values sent)
  unfolding open_values
  open-fit =
      let r = sent-in roots sent h in
      fits (most 0 zero-le tt (most 100_000_000 r.premium.1 tt (most 1_000_000 r.contracts.1 tt done)))

sent_back : (sent : Sent) → sent_by (sent_values sent) (open_values sent) ≡ sent
unfolding sent_by sent_values open_values
sent_back sent = refl

-- an order in its place: two numbers, which stand for it
pub sent-codec : (roots : ℕ) → roots ≤ 64 → Codec 2 (is_sent roots) sent_from sent_numbers
unfolding sent_numbers sent_from
sent-codec roots few = record {
  long = λ sent. refl;
  back = λ sent rest h.
      ap₂ sent_by (unpacked-packed sent_widths (sent_values sent) (sent-fit roots sent few h))
      (unpacked-packed amount_widths (open_values sent) (open-fit roots sent few h))
      ∙ sent_back sent;
}

-- the order of two numbers, each field by a shift and a mask
abbrev pub sent_told : ℕ → ℕ → Sent
sent_told first second = record {
  identity = first / 8192 % 65_536;
  root = first / 128 % 64;
  unit = first / 32 % 4;
  premium = record { 0 = second / 1_048_576 % 134_217_728 };
  contracts = record { 0 = second % 1_048_576 };
  reports = first % 32;
}

pub sent-told : (f s : ℕ) (rest : List ℕ) → sent_from (f ∷ s ∷ rest) ≡ sent_told f s
unfolding sent_from sent_by total
sent-told f s rest = ap₂ sent_by (by-shift 35 (16 ∷ 6 ∷ 2 ∷ 5 ∷ []) f) (by-shift 17 (27 ∷ 20 ∷ []) s)

-- the fields of the first number alone
pub identity-told : (f : ℕ) → (sent_from (f ∷ [])).identity ≡ f / 8192 % 65_536
unfolding sent_from sent_by total
identity-told f = ap (λ (v : List ℕ). get_or v 1 0) (by-shift 35 (16 ∷ 6 ∷ 2 ∷ 5 ∷ []) f)

pub reports-told : (f : ℕ) → (sent_from (f ∷ [])).reports ≡ f % 32
unfolding sent_from sent_by total
reports-told f = ap (λ (v : List ℕ). get_or v 4 0) (by-shift 35 (16 ∷ 6 ∷ 2 ∷ 5 ∷ []) f)

module _ (xs : List ℕ) (at : ℕ) where
  at_front : get_or (drop at xs) 0 0 ≡ get_or xs at 0
  at_front = let z : at + 0 ≡ at = omega arith in get_or-drop at xs 0 0 ∙ ap (λ (i : ℕ). get_or xs i 0) z

  pub identity-here : (sent_from (drop at xs)).identity ≡ (sent_from (get_or xs at 0 ∷ [])).identity
  unfolding sent_from sent_by
  identity-here = ap (λ (f : ℕ). get_or (unpacked sent_widths f) 1 0) at_front

  pub reports-here : (sent_from (drop at xs)).reports ≡ (sent_from (get_or xs at 0 ∷ [])).reports
  unfolding sent_from sent_by
  reports-here = ap (λ (f : ℕ). get_or (unpacked sent_widths f) 4 0) at_front

-- an order's own values but the spare bits are those that its numbers hold
sent-held : (f s : ℕ) → sent_values (sent_told f s) ≡ 0 ∷ shifted (16 ∷ 6 ∷ 2 ∷ 5 ∷ []) f
unfolding sent_values total
sent-held f s = refl

open-held : (f s : ℕ) → open_values (sent_told f s) ≡ 0 ∷ shifted (27 ∷ 20 ∷ []) s
unfolding open_values total
open-held f s = refl

sent-parts : (roots f s : ℕ) (rest : List ℕ)
    → is_sent_place roots (f ∷ s ∷ rest) ≡ (eqb (f / 2 ^ 29) 0 && (eqb (s / 2 ^ 47) 0 && true) && is_sent roots (sent_told f s))
unfolding is_place same sent_numbers total
sent-parts roots f s rest =
    ap (λ (sent : Sent). same (f ∷ s ∷ []) (sent_numbers sent) && is_sent roots sent) (sent-told f s rest)
    ∙ ap₂ (λ (a b : Bool). (a && (b && true)) && is_sent roots (sent_told f s))
    (ap (λ (v : List ℕ). eqb f (packed sent_widths v)) (sent-held f s) ∙ spare-test 35 (16 ∷ 6 ∷ 2 ∷ 5 ∷ []) f)
    (ap (λ (v : List ℕ). eqb s (packed amount_widths v)) (open-held f s) ∙ spare-test 17 (27 ∷ 20 ∷ []) s)

-- the test that code runs: an identity or a premium in range, with what stands above it, has nothing above it
abbrev pub sent_test : ℕ → ℕ → ℕ → Bool
sent_test roots first second =
    leb (first / 8192) 65_535 && ltb (first / 128 % 64) roots && leb (first % 32) 16 && is_in premiums (second / 1_048_576)
    && leb (second % 1_048_576) 1_000_000

whole-test : (roots f s : ℕ) → (eqb (f / 2 ^ 29) 0 && (eqb (s / 2 ^ 47) 0 && true) && is_sent roots (sent_told f s)) ≡ sent_test roots f s
whole-test roots f s = same_test (spare && is_sent roots (sent_told f s)) (sent_test roots f s) there back
  where
    a : Bool
    a = eqb (f / 2 ^ 29) 0

    b : Bool
    b = eqb (s / 2 ^ 47) 0

    spare : Bool
    spare = a && (b && true)

    there : (spare && is_sent roots (sent_told f s)) ≡ true → sent_test roots f s ≡ true
    there h =
        let z = and_l spare (is_sent roots (sent_told f s)) h in
        let above-identity = eqb-true (f / 2 ^ 29) 0 (and_l a (b && true) z) in
        let above-premium = eqb-true (s / 2 ^ 47) 0 (and_l b true (and_r a (b && true) z)) in
        let r = sent-in roots (sent_told f s) (and_r spare (is_sent roots (sent_told f s)) h) in
        rw (
          le-leb (f / 8192) 65_535 (omega arith),
          lt-ltb (f / 128 % 64) roots r.root,
          le-leb (f % 32) 16 r.reports.1,
          le-leb 1 (s / 1_048_576) (omega arith),
          le-leb (s / 1_048_576) 100_000_000 (omega arith),
          le-leb (s % 1_048_576) 1_000_000 r.contracts.1,
        )

    back : sent_test roots f s ≡ true → (spare && is_sent roots (sent_told f s)) ≡ true
    back h =
        let identity : f / 8192 ≤ 65_535 = search tests depth 14 in
        let premium : s / 1_048_576 ≤ 100_000_000 = search tests depth 14 in
        let some : 1 ≤ s / 1_048_576 = search tests depth 14 in
        rw (eq-eqb (f / 2 ^ 29) 0 (omega arith), eq-eqb (s / 2 ^ 47) 0 (omega arith))
        (in-sent roots (sent_told f s) (record {
          identity = (zero-le, omega arith);
          root = search tests depth 14;
          unit = (zero-le, omega arith);
          premium = (omega arith, omega arith);
          contracts = (zero-le, search tests depth 14);
          reports = (zero-le, search tests depth 14);
        }))

-- a place is an order's exactly if its parts pass that test
pub sent-place : (roots f s : ℕ) (rest : List ℕ) → is_sent_place roots (f ∷ s ∷ rest) ≡ sent_test roots f s
sent-place roots f s rest = sent-parts roots f s rest ∙ whole-test roots f s

-- the order at a place, and whether it is one, by the place's two numbers as code reads them
module _ (xs : List ℕ) (at : ℕ) (h : at + 1 < length xs) where
  pub sent-here : sent_from (get_or xs at 0 ∷ get_or xs (at + 1) 0 ∷ []) ≡ sent_from (drop at xs)
  sent-here = told sent_from (λ a b rest. sent-told a b rest ∙ sym (sent-told a b [])) xs at h

  pub is-sent-here : (roots : ℕ) → is_sent_place roots (get_or xs at 0 ∷ get_or xs (at + 1) 0 ∷ []) ≡ is_sent_place roots (drop at xs)
  is-sent-here roots = told (is_sent_place roots) (λ a b rest. sent-place roots a b rest ∙ sym (sent-place roots a b [])) xs at h
