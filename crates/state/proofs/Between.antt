-- The accounts of a laid memory from one place up to another changed one after the other. Assumes nothing.
use Prim.Native.Nat.{ℕ, zero, suc, ◌+◌, ◌≤◌, ◌<◌}
use native.Mathlib.Nat.{not-suc-le-zero, le_of_suc-le-suc}
use native.Mathlib.Numerals.{add-one}
use native.Mathlib.Omega.{arith}
use mathlib.Core.Path.{◌≡◌, refl, sym, ap, ap₂, ◌∙◌}
use mathlib.Core.Bool.{Bool, true, ◌&&◌}
use mathlib.Core.List.{List, [], ◌∷◌, map}
use lib.ListN.{length, get_or, set}
use Rattle.laws.proofs.Tests.{and_l, and_r}
use Rattle.laws.specs.Folds.{every}
use Rattle.rules.specs.declared.Rule.{Rule}
use Rattle.rules.specs.declared.Account.{Account}
use Rattle.machine.specs.State.{State, rules_in, roots_in, account_rule, Fitting}
use Rattle.machine.specs.Remaining.{no_account}
use Rattle.state.specs.State.{stored, decode}
use Rattle.state.specs.Inner.Laid.{Fits, Laid, account_in, with_accounts, between}
use Rattle.state.proofs.After.{Holds, held-state, step-on}
use Rattle.state.proofs.Done.{done, is_measured, Fair, change_at, Doing, fits-done}

module _ (f : Account → Account) where
  between_none : (p : ℕ) (l : List Account) → between f p p l ≡ l
  unfolding between
  between_none zero l = refl
  between_none (suc p) [] = refl
  between_none (suc p) (a ∷ l) = ap (λ (q : List Account). a ∷ q) (between_none p l)

  between-at : (p j : ℕ) (l : List Account) (d : Account) → p ≤ j → get_or (between f p j l) j d ≡ get_or l j d
  unfolding between
  between-at zero zero l d h = refl
  between-at zero (suc j) [] d h = refl
  between-at zero (suc j) (a ∷ l) d h = between-at zero j l d (omega arith)
  between-at (suc p) zero l d h = absurd (not-suc-le-zero h)
  between-at (suc p) (suc j) [] d h = refl
  between-at (suc p) (suc j) (a ∷ l) d h = between-at p j l d (le_of_suc-le-suc h)

  between-suc : (p j : ℕ) (l : List Account) (d : Account) → p ≤ j → j < length l → set (between f p j l) j (f (get_or l j d)) ≡ between f p (suc j) l
  unfolding between
  between-suc p j [] d h low = absurd (not-suc-le-zero low)
  between-suc zero zero (a ∷ l) d h low = refl
  between-suc zero (suc j) (a ∷ l) d h low = ap (λ (q : List Account). f a ∷ q) (between-suc zero j l d (omega arith) (le_of_suc-le-suc low))
  between-suc (suc p) zero (a ∷ l) d h low = absurd (not-suc-le-zero h)
  between-suc (suc p) (suc j) (a ∷ l) d h low = ap (λ (q : List Account). a ∷ q) (between-suc p j l d (le_of_suc-le-suc h) (le_of_suc-le-suc low))

  -- those before went through already
  between_done : (p q : ℕ) (l : List Account) → p ≤ q → between f p q (done f p l) ≡ done f q l
  unfolding between done
  between_done zero q l h = refl
  between_done (suc p) zero l h = absurd (not-suc-le-zero h)
  between_done (suc p) (suc q) [] h = refl
  between_done (suc p) (suc q) (a ∷ l) h = ap (λ (q : List Account). f a ∷ q) (between_done p q l (le_of_suc-le-suc h))

  between-length : (p q : ℕ) (l : List Account) → p ≤ q → length (between f p q l) ≡ length l
  unfolding between
  between-length zero zero l h = refl
  between-length zero (suc q) [] h = refl
  between-length zero (suc q) (a ∷ l) h = ap suc (between-length zero q l (omega arith))
  between-length (suc p) zero l h = absurd (not-suc-le-zero h)
  between-length (suc p) (suc q) [] h = refl
  between-length (suc p) (suc q) (a ∷ l) h = ap suc (between-length p q l (le_of_suc-le-suc h))

module _ {f : Account → Account} (k : Fair f) where
  between-rules : (p q : ℕ) (l : List Account) → p ≤ q → map account_rule (between f p q l) ≡ map account_rule l
  unfolding between
  between-rules zero zero l h = refl
  between-rules zero (suc q) [] h = refl
  between-rules zero (suc q) (a ∷ l) h = ap₂ (λ (r : Rule) (s : List Rule). r ∷ s) (k.rule a) (between-rules zero q l (omega arith))
  between-rules (suc p) zero l h = absurd (not-suc-le-zero h)
  between-rules (suc p) (suc q) [] h = refl
  between-rules (suc p) (suc q) (a ∷ l) h = ap (λ (s : List Rule). a.rule ∷ s) (between-rules p q l (le_of_suc-le-suc h))

  between-measured : (p q : ℕ) (l : List Account) → p ≤ q → every is_measured l ≡ true → every is_measured (between f p q l) ≡ true
  unfolding between every
  between-measured zero zero l h m = m
  between-measured zero (suc q) [] h m = refl
  between-measured zero (suc q) (a ∷ l) h m =
      ap₂ (λ (b c : Bool). b && c) (k.measured a (and_l (is_measured a) (every is_measured l) m)) (between-measured zero q l (omega arith) (and_r (is_measured a) (every is_measured l) m))
  between-measured (suc p) zero l h m = absurd (not-suc-le-zero h)
  between-measured (suc p) (suc q) [] h m = refl
  between-measured (suc p) (suc q) (a ∷ l) h m =
      ap₂ (λ (b c : Bool). b && c) (and_l (is_measured a) (every is_measured l) m) (between-measured p q l (le_of_suc-le-suc h) (and_r (is_measured a) (every is_measured l) m))

  fits-between : {s : State} → Fits s → (p q : ℕ) → p ≤ q → Fits (with_accounts s (between f p q s.part.accounts))
  unfolding rules_in roots_in Fitting
  fits-between {s} h p q l = record {
    roots = h.roots;
    rules = h.rules;
    log = h.log;
    fitting = between-rules p q s.part.accounts l ∙ h.fitting;
    measured = between-measured p q s.part.accounts l h.measured;
    valid = h.valid;
    entries = h.entries;
    few = h.few;
    sent = h.sent;
  }

  -- of the state in xs the accounts from p up to j went through f in ys
  pub record Passing (xs : List ℕ) (p j : ℕ) (ys : List ℕ) : Type 0 where
    pub from : p ≤ j
    pub holds : Holds (with_accounts (decode xs) (between f p j (decode xs).part.accounts)) xs ys

  module _ {xs : List ℕ} (h : Laid xs) where
    pub passing-none : (p : ℕ) → Passing xs p p xs
    passing-none p =
        let accounts = (decode xs).part.accounts in
        record {
          from = omega arith;
          holds = record {
            fits = fits-between h.fits p p (omega arith);
            is = h.is ∙ ap (λ (q : List Account). stored (with_accounts (decode xs) q) xs) (sym (between_none f p accounts));
          };
        }

    module _ {p j : ℕ} {ys : List ℕ} (w : Passing xs p j ys) where
      pub passing-length : length (decode ys).part.accounts ≡ length (decode xs).part.accounts
      passing-length =
          ap (λ (s : State). length s.part.accounts) (held-state w.holds) ∙ between-length f p j (decode xs).part.accounts w.from

      pub passing-at : account_in ys j ≡ account_in xs j
      passing-at =
          ap (λ (s : State). get_or s.part.accounts j no_account) (held-state w.holds) ∙ between-at f p j (decode xs).part.accounts no_account w.from

      pub passing-more : {zs : List ℕ} → j < length (decode xs).part.accounts → zs ≡ stored (change_at f j (decode ys)) ys → Passing xs p (j + 1) zs
      passing-more l e =
          let accounts = (decode xs).part.accounts in
          record {
            from = omega (arith, w.from);
            holds = record {
              fits = fits-between h.fits p (j + 1) (omega (arith, w.from));
              is =
                  step-on w.holds (change_at f j) e
                  ∙ ap (λ (q : List Account). stored (with_accounts (decode xs) q) xs)
                  (ap (λ (a : Account). set (between f p j accounts) j (f a)) (between-at f p j accounts no_account w.from)
                  ∙ between-suc f p j accounts no_account w.from l ∙ ap (λ (n : ℕ). between f p n accounts) (sym (add-one j)));
            };
          }

    -- the next ones, where those before p went through
    pub doing-between : {p q : ℕ} {ys zs : List ℕ} → Doing f xs p ys → p ≤ q → q ≤ length (decode xs).part.accounts
        → zs ≡ stored (with_accounts (decode ys) (between f p q (decode ys).part.accounts)) ys → Doing f xs q zs
    doing-between {p} {q} d l most e =
        record {
          within = most;
          holds = record {
            fits = fits-done k h.fits q;
            is =
                step-on d.holds (λ s. with_accounts s (between f p q s.part.accounts)) e
                ∙ ap (λ (a : List Account). stored (with_accounts (decode xs) a) xs) (between_done f p q (decode xs).part.accounts l);
          };
        }
