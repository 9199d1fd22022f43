-- A test of accounts one after the other: whether one of them passes it. Assumes nothing.
use Prim.Native.Nat.{ℕ, ◌+◌, ◌≤◌, ◌<◌}
use mathlib.Core.Path.{◌≡◌, refl, sym, ap, ◌∙◌}
use mathlib.Core.Bool.{Bool, false, ◌||◌, or_assoc, or-false}
use mathlib.Core.List.{List}
use lib.ListN.{length, get_or, drop, drop_of_length-le}
use Rattle.laws.specs.Folds.{any_of}
use Rattle.rules.specs.declared.Account.{Account}
use Rattle.machine.specs.Remaining.{no_account}
use Rattle.grant.proofs.Cut.{next}

-- of the first i accounts, b tells whether one passes the test
pub record Tested (test : Account → Bool) (accounts : List Account) (i : ℕ) (b : Bool) : Type 0 where
  pub rest : (b || any_of test (drop i accounts)) ≡ any_of test accounts

pub tested-none : (test : Account → Bool) (accounts : List Account) → Tested test accounts 0 false
tested-none test accounts = record { rest = refl }

module _ {test : Account → Bool} {accounts : List Account} {i : ℕ} {b : Bool} (t : Tested test accounts i b) where
  pub tested-more : {r : Bool} → i < length accounts → r ≡ (b || test (get_or accounts i no_account)) → Tested test accounts (i + 1) r
  unfolding any_of
  tested-more l is = record {
    rest =
        ap (λ (r : Bool). r || any_of test (drop (i + 1) accounts)) is
        ∙ or_assoc b (test (get_or accounts i no_account)) (any_of test (drop (i + 1) accounts))
        ∙ ap (λ (l : List Account). b || any_of test l) (sym (next accounts i no_account l)) ∙ t.rest;
  }

  -- all accounts went through
  pub tested-done : length accounts ≤ i → b ≡ any_of test accounts
  unfolding any_of
  tested-done l = sym (ap (λ (l : List Account). b || any_of test l) (drop_of_length-le accounts l) ∙ or-false b) ∙ t.rest
