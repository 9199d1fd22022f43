-- Rows of an account: their figures are at most 10^18, and an event that is priced adds at most 10^14 to one. Assumes nothing.
use Prim.Native.Nat.{ℕ, ◌+◌, ◌≤◌, ◌<◌}
use mathlib.Core.Path.{◌≡◌, refl, subst}
use mathlib.Core.Bool.{Bool, true, false, not, ◌&&◌}
use mathlib.Core.List.{List}
use native.Mathlib.Omega.{arith}
use native.Mathlib.Nat.{mul-le-mul}
use lib.ListN.{length, get_or, take}
use lib.Seq.{get_or-take, length-take-le}
use lib.Dec.{eqb, leb, ltb}
use borrow.Author.Tests.{leb-true, le-leb}
use Rattle.laws.specs.Folds.{every}
use Rattle.laws.proofs.Every.{every-at}
use Rattle.rules.specs.declared.Level.{Level}
use Rattle.rules.specs.declared.Level.TheVariants.{Firm, Root}
use Rattle.figures.specs.declared.Figures.{Figures}
use Rattle.figures.specs.declared.Happening.{Happening}
use Rattle.figures.specs.declared.Happening.TheVariants.{Uncounted, Ordered, Offered, Reported}
use Rattle.demand.specs.Answers.{one}
use Rattle.figures.specs.Figures.{accepted, rejected, fills, contracts, notional, cuts, trip_at, trips_of, away, figures_of, plus, row_numbers}
use Rattle.figures.specs.Account.{account_size, most, row_at, is_account}
use Rattle.figures.specs.Inner.Rows.{PricedHappening, AtMost}

-- the most that an event adds
abbrev pub added_most : ℕ
added_most = 100_000_000_000_000

-- no figure of an account is above a number
module _ (xs : List ℕ) (long : account_size ≤ length xs) (m : ℕ) (is : every (λ n. leb n m) (take account_size xs) ≡ true) where
  figure-under : (i : ℕ) → i < account_size → get_or xs i 0 ≤ m
  figure-under i h =
      let e = length-take-le account_size xs long in
      let t = every-at (λ n. leb n m) (take account_size xs) i 0 is (omega arith) in
      leb-true (get_or xs i 0) m (subst (λ (n : ℕ). leb n m ≡ true) (get_or-take account_size xs i 0 h) t)

  pub row_under : (at : ℕ) → at + 8 ≤ account_size → AtMost m (row_at xs at)
  unfolding row_at
  row_under at h = record {
    accepted = figure-under at (omega arith);
    rejected = figure-under (at + 1) (omega arith);
    fills = figure-under (at + 2) (omega arith);
    contracts = figure-under (at + 3) (omega arith);
    notional = figure-under (at + 4) (omega arith);
    cuts = figure-under (at + 5) (omega arith);
    trips = figure-under (at + 6) (omega arith);
    away = figure-under (at + 7) (omega arith);
  }

pub row-most : (xs : List ℕ) → account_size ≤ length xs → is_account xs ≡ true → (at : ℕ) → at + 8 ≤ account_size → AtMost most (row_at xs at)
unfolding is_account
row-most xs long is = row_under xs long most is

one-most : (b : Bool) → one b ≤ 1
one-most true = omega arith
one-most false = omega arith

trip-most : (level : Level) (roottrip firmtrip : Bool) → trip_at level roottrip firmtrip ≤ 1
unfolding trip_at
trip-most Firm roottrip firmtrip = one-most firmtrip
trip-most (Root r) roottrip firmtrip = one-most roottrip

pub nothing-added : (level : Level) → AtMost 0 (figures_of level Uncounted)
unfolding figures_of accepted rejected fills contracts notional cuts trips_of away
nothing-added level = record {
  accepted = omega arith;
  rejected = omega arith;
  fills = omega arith;
  contracts = omega arith;
  notional = omega arith;
  cuts = omega arith;
  trips = omega arith;
  away = omega arith;
}

pub at-most-more : {j k : ℕ} {f : Figures} → j ≤ k → AtMost j f → AtMost k f
at-most-more h a = record {
  accepted = omega (arith, a.accepted);
  rejected = omega (arith, a.rejected);
  fills = omega (arith, a.fills);
  contracts = omega (arith, a.contracts);
  notional = omega (arith, a.notional);
  cuts = omega (arith, a.cuts);
  trips = omega (arith, a.trips);
  away = omega (arith, a.away);
}

pub added-most : (level : Level) (h : Happening) → PricedHappening h → AtMost added_most (figures_of level h)
unfolding figures_of accepted rejected fills contracts notional cuts trips_of away
added-most level Uncounted p = at-most-more (omega arith) (nothing-added level)
added-most level (Ordered root verdict) p = record {
  accepted = omega (arith, one-most (eqb verdict 0));
  rejected = omega (arith, one-most (not (eqb verdict 0)));
  fills = omega arith;
  contracts = omega arith;
  notional = omega arith;
  cuts = omega arith;
  trips = omega arith;
  away = omega arith;
}
added-most level (Offered root premium offered grant roottrip firmtrip) p = record {
  accepted = omega arith;
  rejected = omega arith;
  fills = omega (arith, one-most (ltb 0 grant));
  contracts = omega (arith, p.1);
  notional = mul-le-mul p.0 p.1;
  cuts = omega (arith, one-most (ltb grant offered));
  trips = omega (arith, trip-most level roottrip firmtrip);
  away = omega arith;
}
added-most level (Reported root roottrip firmtrip) p = record {
  accepted = omega arith;
  rejected = omega arith;
  fills = omega arith;
  contracts = omega arith;
  notional = omega arith;
  cuts = omega arith;
  trips = omega (arith, trip-most level roottrip firmtrip);
  away = omega arith;
}

-- eight tests, from the first or from the last
eight-tests : (a b c d e f g h : Bool)
    → (a && b && c && d && e && f && g && h) ≡ (a && (b && (c && (d && (e && (f && (g && (h && true))))))))
eight-tests false b c d e f g h = refl
eight-tests true false c d e f g h = refl
eight-tests true true false d e f g h = refl
eight-tests true true true false e f g h = refl
eight-tests true true true true false f g h = refl
eight-tests true true true true true false g h = refl
eight-tests true true true true true true false h = refl
eight-tests true true true true true true true true = refl
eight-tests true true true true true true true false = refl

-- the eight tests of a row
pub row-tests : (f : Figures)
    → (leb f.accepted most && leb f.rejected most && leb f.fills.0 most && leb f.contracts.0 most && leb f.notional.0 most
    && leb f.cuts most && leb f.trips most && leb f.away most)
    ≡ every (λ n. leb n most) (row_numbers f)
unfolding every row_numbers
row-tests f =
    eight-tests (leb f.accepted most) (leb f.rejected most) (leb f.fills.0 most) (leb f.contracts.0 most) (leb f.notional.0 most)
    (leb f.cuts most) (leb f.trips most) (leb f.away most)

-- a row and what is added to it, with room for both
pub sum-within : {j k : ℕ} {a b : Figures} → AtMost j a → AtMost k b → j + k ≤ most → every (λ n. leb n most) (row_numbers (plus a b)) ≡ true
unfolding every row_numbers plus
sum-within {j} {k} {a} {b} p q h = rw (
  le-leb (a.accepted + b.accepted) most (omega (arith, p.accepted, q.accepted)),
  le-leb (a.rejected + b.rejected) most (omega (arith, p.rejected, q.rejected)),
  le-leb (a.fills.0 + b.fills.0) most (omega (arith, p.fills, q.fills)),
  le-leb (a.contracts.0 + b.contracts.0) most (omega (arith, p.contracts, q.contracts)),
  le-leb (a.notional.0 + b.notional.0) most (omega (arith, p.notional, q.notional)),
  le-leb (a.cuts + b.cuts) most (omega (arith, p.cuts, q.cuts)),
  le-leb (a.trips + b.trips) most (omega (arith, p.trips, q.trips)),
  le-leb (a.away + b.away) most (omega (arith, p.away, q.away)),
)
