-- The greatest amounts that a sound state counts, and that are looked at after a fill or a report: they fit 64 bits. Assumes nothing.
use Prim.Native.Nat.{ℕ, ◌+◌, ◌≤◌, ◌<◌}
use mathlib.Core.Path.{◌≡◌}
use mathlib.Core.Bool.{true}
use mathlib.Core.List.{List, [], ◌∷◌}
use lib.ListN.{length}
use native.Mathlib.Omega.{arith}
use Rattle.laws.proofs.Tests.{and_l, and_r}
use Rattle.laws.specs.Folds.{every, sum_of}
use Rattle.measures.specs.Ranges.{premiums, offers, totals}
use Rattle.rules.specs.Amounts.{number_of}
use Rattle.rules.specs.Rules.{counted_of, added}
use Rattle.rules.specs.Allowance.{All}
use Rattle.rules.specs.declared.Kind.{Kind}
use Rattle.rules.specs.declared.Kind.TheVariants.{Rate, Absolute}
use Rattle.rules.specs.declared.Account.{Account}
use Rattle.rules.proofs.Laws.{added-most}
use Rattle.machine.specs.declared.Entry.{Entry}
use Rattle.machine.specs.State.{Profile, State, roots_in}
use Rattle.machine.specs.Entries.{entry_share, is_entry}
use Rattle.machine.specs.Offers.{counted}
use Rattle.machine.specs.Judge.{log_places}
use Rattle.machine.specs.Sound.{SoundIn}
use Rattle.machine.proofs.Grants.{counted-most}
use Rattle.machine.proofs.Totals.{is_paid, total-in}

module _ (roots t : ℕ) (log : List Entry) (few : length log ≤ log_places) (ranged : every (is_entry roots) log ≡ true) where
  -- a rate rule counts at most 512 entries, an absolute one at most what totals are held at
  pub account-most : (a : Account) → is_paid a ≡ true → counted log t a ≤ totals.most
  unfolding counted counted_of
  account-most a paid = go a.rule.kind
    where
      logged : sum_of (entry_share a.rule t) log ≤ totals.most
      logged = omega (arith, counted-most roots a.rule t log ranged)

      go : (kind : Kind) → counted_of kind (number_of a.total) (sum_of (entry_share a.rule t) log) ≤ totals.most
      go (Rate w) = logged
      go Absolute = (total-in a.rule a.total paid).1.1

  accounts-most : (accounts : List Account) → every is_paid accounts ≡ true → All (λ a. counted log t a ≤ totals.most) accounts
  unfolding every
  accounts-most [] h = tt
  accounts-most (a ∷ rest) h = (account-most a (and_l (is_paid a) (every is_paid rest) h), accounts-most rest (and_r (is_paid a) (every is_paid rest) h))

module _ {Given : Profile → Type 0} (s : State) (i : SoundIn Given s) (t : ℕ) where
  -- NO RULE COUNTS MORE THAN 10^18
  pub counted-bound : All (λ a. counted s.log t a ≤ totals.most) s.part.accounts
  counted-bound = accounts-most (roots_in s) t s.log i.number i.entries s.part.accounts i.totals

  -- and with what a fill or a report of numbers in range adds, it still fits 64 bits
  pub added-fits : (premium n : ℕ) → premium ≤ premiums.most → n ≤ offers.most
      → All (λ a. counted s.log t a + added a.rule.limit premium n < 18_446_744_073_709_551_616) s.part.accounts
  added-fits premium n h k = go s.part.accounts counted-bound
    where
      go : (accounts : List Account) → All (λ a. counted s.log t a ≤ totals.most) accounts
          → All (λ a. counted s.log t a + added a.rule.limit premium n < 18_446_744_073_709_551_616) accounts
      go [] bound = tt
      go (a ∷ rest) bound = (omega (arith, added-most a.rule.limit premium n h k, bound.0), go rest bound.1)
