-- The accounts of a laid memory changed one after the other. Assumes nothing.
use Prim.Native.Nat.{ℕ, zero, suc, ◌+◌, ◌≤◌, ◌<◌}
use native.Mathlib.Nat.{not-suc-le-zero, le_of_suc-le-suc}
use native.Mathlib.Numerals.{add-one}
use native.Mathlib.Omega.{arith}
use mathlib.Core.Path.{◌≡◌, refl, sym, ap, ap₂, ◌∙◌, subst}
use mathlib.Core.Bool.{Bool, true, ◌&&◌}
use mathlib.Core.List.{List, [], ◌∷◌, ◌++◌, map}
use lib.ListN.{length, get_or, take, drop, set}
use lib.Seq.{set-get_or}
use Rattle.laws.proofs.Tests.{and_l, and_r}
use Rattle.laws.specs.Folds.{every}
use Rattle.rules.specs.Amounts.{is_of}
use Rattle.rules.specs.declared.Account.{Account}
use Rattle.machine.specs.State.{State, rules_in, roots_in, account_rule, Fitting}
use Rattle.machine.specs.Remaining.{no_account}
use Rattle.state.specs.State.{stored, decode}
use Rattle.state.specs.Inner.Laid.{Fits, Laid, account_in, with_accounts}
use Rattle.state.proofs.After.{Holds, held-state, step-on}

-- a list whose first i elements went through f
module _ {A : Type 0} (f : A → A) where
  unfoldable pub done : ℕ → List A → List A
  done i l = map f (take i l) ++ drop i l

  -- those past the first i are as they were
  done-past : (i j : ℕ) (l : List A) (d : A) → i ≤ j → get_or (done i l) j d ≡ get_or l j d
  unfolding done
  done-past zero j l d h = refl
  done-past (suc i) zero l d h = absurd (not-suc-le-zero h)
  done-past (suc i) (suc j) [] d h = refl
  done-past (suc i) (suc j) (x ∷ l) d h = done-past i j l d (le_of_suc-le-suc h)

  pub done_at : (i : ℕ) (l : List A) (d : A) → get_or (done i l) i d ≡ get_or l i d
  done_at i l d = done-past i i l d (omega arith)

  done-suc : (i : ℕ) (l : List A) (d : A) → set (done i l) i (f (get_or l i d)) ≡ done (suc i) l
  unfolding done
  done-suc zero [] d = refl
  done-suc zero (x ∷ l) d = refl
  done-suc (suc i) [] d = refl
  done-suc (suc i) (x ∷ l) d = ap (λ (q : List A). f x ∷ q) (done-suc i l d)

  pub done-set : (i : ℕ) (l : List A) (d : A) → set (done i l) i (f (get_or l i d)) ≡ done (i + 1) l
  done-set i l d = done-suc i l d ∙ ap (λ (n : ℕ). done n l) (sym (add-one i))

  pub done-length : (i : ℕ) (l : List A) → length (done i l) ≡ length l
  unfolding done
  done-length zero l = refl
  done-length (suc i) [] = refl
  done-length (suc i) (x ∷ l) = ap suc (done-length i l)

  pub done_end : (i : ℕ) (l : List A) → length l ≤ i → done i l ≡ map f l
  unfolding done
  done_end zero [] h = refl
  done_end zero (x ∷ l) h = absurd (not-suc-le-zero h)
  done_end (suc i) [] h = refl
  done_end (suc i) (x ∷ l) h = ap (λ (q : List A). f x ∷ q) (done_end i l (le_of_suc-le-suc h))

  -- what f leaves as it is
  pub done-same : {B : Type 0} (g : A → B) → ((a : A) → g (f a) ≡ g a) → (i : ℕ) (l : List A) → map g (done i l) ≡ map g l
  unfolding done
  done-same g e zero l = refl
  done-same g e (suc i) [] = refl
  done-same {B = B} g e (suc i) (x ∷ l) = ap₂ (λ (y : B) (q : List B). y ∷ q) (e x) (done-same g e i l)

  -- what f keeps of each element that passes a test
  pub done-every : (ok : A → Bool) → ((a : A) → ok a ≡ true → ok (f a) ≡ true) → (i : ℕ) (l : List A) → every ok l ≡ true → every ok (done i l) ≡ true
  unfolding done every
  done-every ok e zero l h = h
  done-every ok e (suc i) [] h = refl
  done-every ok e (suc i) (x ∷ l) h =
      ap₂ (λ (p q : Bool). p && q) (e x (and_l (ok x) (every ok l) h)) (done-every ok e i l (and_r (ok x) (every ok l) h))

-- an account's total is in the measure of its rule
abbrev pub is_measured : Account → Bool
is_measured a = is_of a.rule.limit a.total

-- a change of accounts that leaves their rules, and their totals in the measures of these
pub record Fair (f : Account → Account) : Type 0 where
  pub rule : (a : Account) → (f a).rule ≡ a.rule
  pub measured : (a : Account) → is_measured a ≡ true → is_measured (f a) ≡ true

-- a state fits with its first i accounts so changed, and with all of them
module _ {f : Account → Account} (k : Fair f) {s : State} (h : Fits s) where
  pub fits-done : (i : ℕ) → Fits (with_accounts s (done f i s.part.accounts))
  unfolding rules_in roots_in Fitting
  fits-done i = record {
    roots = h.roots;
    rules = h.rules;
    log = h.log;
    fitting = done-same f account_rule k.rule i s.part.accounts ∙ h.fitting;
    measured = done-every f is_measured k.measured i s.part.accounts h.measured;
    valid = h.valid;
    entries = h.entries;
    few = h.few;
    sent = h.sent;
  }

  pub fits_all : Fits (with_accounts s (map f s.part.accounts))
  fits_all =
      let accounts = s.part.accounts in
      subst (λ (q : List Account). Fits (with_accounts s q)) (done_end f (length accounts) accounts (omega arith)) (fits-done (length accounts))

-- the account at place i of a state goes through f
abbrev pub change_at : (Account → Account) → ℕ → State → State
change_at f i s = with_accounts s (set s.part.accounts i (f (get_or s.part.accounts i no_account)))

-- one that f leaves as it is
pub change-none : {xs : List ℕ} (f : Account → Account) (i : ℕ) → Laid xs → f (account_in xs i) ≡ account_in xs i → xs ≡ stored (change_at f i (decode xs)) xs
change-none {xs} f i h e =
    let accounts = (decode xs).part.accounts in
    h.is ∙ ap (λ (q : List Account). stored (with_accounts (decode xs) q) xs) (sym (ap (set accounts i) e ∙ set-get_or accounts i no_account))

-- of the state in xs the first i accounts went through f in ys
pub record Doing (f : Account → Account) (xs : List ℕ) (i : ℕ) (ys : List ℕ) : Type 0 where
  pub within : i ≤ length (decode xs).part.accounts
  pub holds : Holds (with_accounts (decode xs) (done f i (decode xs).part.accounts)) xs ys

module _ {f : Account → Account} (k : Fair f) {xs : List ℕ} (h : Laid xs) where
  pub doing-none : Doing f xs 0 xs
  unfolding done
  doing-none = record { within = omega arith; holds = record { fits = fits-done k h.fits 0; is = h.is } }

  module _ {i : ℕ} {ys : List ℕ} (d : Doing f xs i ys) where
    pub doing-length : length (decode ys).part.accounts ≡ length (decode xs).part.accounts
    doing-length =
        ap (λ (s : State). length s.part.accounts) (held-state d.holds) ∙ done-length f i (decode xs).part.accounts

    -- the rules are those that they were, and so is each account to come
    pub doing-rules : rules_in (decode ys) ≡ rules_in (decode xs)
    unfolding rules_in
    doing-rules = ap (λ (s : State). s.part.profile.rules) (held-state d.holds)

    pub doing-past : {j : ℕ} → i ≤ j → account_in ys j ≡ account_in xs j
    doing-past {j} l =
        ap (λ (s : State). get_or s.part.accounts j no_account) (held-state d.holds) ∙ done-past f i j (decode xs).part.accounts no_account l

    pub doing-at : account_in ys i ≡ account_in xs i
    doing-at = doing-past (omega arith)

    pub doing-more : {zs : List ℕ} → i < length (decode xs).part.accounts → zs ≡ stored (change_at f i (decode ys)) ys → Doing f xs (i + 1) zs
    doing-more l e =
        let accounts = (decode xs).part.accounts in
        record {
          within = omega arith;
          holds = record {
            fits = fits-done k h.fits (i + 1);
            is =
                step-on d.holds (change_at f i) e
                ∙ ap (λ (q : List Account). stored (with_accounts (decode xs) q) xs)
                (ap (λ (a : Account). set (done f i accounts) i (f a)) (done_at f i accounts no_account) ∙ done-set f i accounts no_account);
          };
        }

    pub doing-all : length (decode xs).part.accounts ≤ i → ys ≡ stored (with_accounts (decode xs) (map f (decode xs).part.accounts)) xs
    doing-all l =
        d.holds.is ∙ ap (λ (q : List Account). stored (with_accounts (decode xs) q) xs) (done_end f i (decode xs).part.accounts l)
