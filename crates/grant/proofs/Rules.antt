-- The rules one after the other: of the accounts of each, an offer looks at the one for its unit. Assumes nothing.
use Prim.Native.Nat.{ℕ, ◌+◌, ◌<◌}
use mathlib.Core.Path.{◌≡◌, refl, sym, ap, ap₂, ◌∙◌, subst}
use mathlib.Core.Bool.{Bool, false, not, ◌&&◌, ◌||◌, and-false, or-false}
use mathlib.Core.List.{List}
use lib.ListN.{length}
use native.Mathlib.Omega.{arith}
use Rattle.measures.specs.Ranges.{In, units}
use Rattle.rules.specs.Rules.{is_rate}
use Rattle.rules.specs.Units.{place_in, of_unit}
use Rattle.rules.specs.declared.Level.{Level}
use Rattle.rules.specs.declared.Level.TheVariants.{Firm, Root}
use Rattle.rules.specs.declared.Rule.{Rule}
use Rattle.rules.specs.declared.Account.{Account}
use Rattle.machine.specs.declared.Offer.{Offer}
use Rattle.machine.specs.State.{rules_in, Fitting}
use Rattle.machine.specs.Remaining.{no_account, rule_numbered, first_cell}
use Rattle.machine.specs.Offers.{covers_offer, credited}
use Rattle.machine.proofs.Walk.{facing-account, facing-rule, through}
use Rattle.state.specs.State.{decode}
use Rattle.state.specs.Inner.Laid.{Laid, account_in}
use Rattle.state.proofs.After.{held-laid}
use Rattle.state.proofs.Done.{change-none, doing-at}
use Rattle.grant.specs.Inner.Grant.{concerns, fills_by, lowered, Credited}
use Rattle.grant.specs.declared.Levels.{Levels}
use Rattle.grant.proofs.Cut.{Cut, lowered-off, cut-more}
use Rattle.grant.proofs.Credits.{credit-fair, credited-off, fills-off}
use Rattle.grant.proofs.Accounts.{Crediting, crediting-more}

module _ {xs : List ℕ} (h : Laid xs) where
  abbrev rules : List Rule
  rules = rules_in (decode xs)

  abbrev accounts : List Account
  accounts = (decode xs).part.accounts

  module _ {r : ℕ} (low : r < length rules) {place : ℕ} (at : place ≡ first_cell rules r) {rule : Rule} (is : rule ≡ rule_numbered rules r) where
    module _ (o : Offer) (known : In units o.unit) {n : ℕ} (own : n ≡ place_in rule.scope o.unit) where
      pub facing : place + n ≡ first_cell rules r + place_in (rule_numbered rules r).scope o.unit
      facing = ap₂ (λ (a b : ℕ). a + b) at (own ∙ ap (λ (q : Rule). place_in q.scope o.unit) is)

      -- the account that the offer looks at, and its rule
      pub faced-low : place + n < length accounts
      unfolding rules_in Fitting
      faced-low = omega (arith, facing, facing-account accounts rules h.fits.fitting r low o known)

      pub faced-rule : {it : Rule} → it ≡ of_unit rule o.unit → it ≡ (account_in xs (place + n)).rule
      unfolding rules_in Fitting
      faced-rule e =
          e ∙ ap (λ (q : Rule). of_unit q o.unit) is ∙ sym (facing-rule accounts rules h.fits.fitting r low o known)
          ∙ ap (λ (i : ℕ). (account_in xs i).rule) (sym facing)

      -- what stands after some accounts, and is not touched by those that do not cover the offer, stands after those of the rule if it does after that one
      past-rule : {A : Type 0} (W : ℕ → A → Type 0)
          → ((i : ℕ) (a : A) → i < length accounts → covers_offer o (account_in xs i).rule ≡ false → W i a → W (i + 1) a)
          → {next : ℕ} → next ≡ first_cell rules (r + 1) → {a b : A} → W place a → (W (place + n) a → W (place + n + 1) b) → W next b
      unfolding rules_in Fitting
      past-rule W skip on {a} {b} w more =
          subst (λ i. W i b) (sym on)
          (through accounts rules h.fits.fitting r low o known W skip a b (subst (λ i. W i a) at w) (subst (λ i. W i a → W (i + 1) b) facing more))

      module _ {next : ℕ} (on : next ≡ first_cell rules (r + 1)) where
        -- the cut of a level after the rule
        pub cut-rule : {level : Level} {a b : ℕ} → Cut (decode xs).log o accounts level place a
            → b ≡ lowered (decode xs).log o level (account_in xs (place + n)) a → Cut (decode xs).log o accounts level next b
        unfolding covers_offer
        cut-rule {level} c e = past-rule (λ i k. Cut (decode xs).log o accounts level i k) skip on c (λ d. cut-more no_account d faced-low e)
          where
            skip : (i k : ℕ) → i < length accounts → covers_offer o (account_in xs i).rule ≡ false → Cut (decode xs).log o accounts level i k
                → Cut (decode xs).log o accounts level (i + 1) k
            skip i k l out d = cut-more no_account d l (lowered-off o (account_in xs i) refl (sym out) (decode xs).log level k refl)

        -- the accounts credited after the rule
        pub crediting-rule : {grant : ℕ} {ys zs : List ℕ} {before after : Levels Bool} → Crediting o grant xs place ys before
            → Credited o grant (place + n) ys zs before after → Crediting o grant xs next zs after
        unfolding covers_offer
        crediting-rule {grant} {ys} {zs} {before} {after} c e =
            past-rule (λ i (a : List ℕ × Levels Bool). Crediting o grant xs i a.0 a.1) skip on {a = (ys, before)} {b = (zs, after)} c
            (λ d. crediting-more o grant h d faced-low e)
          where
            skip : (i : ℕ) (a : List ℕ × Levels Bool) → i < length accounts → covers_offer o (account_in xs i).rule ≡ false
                → Crediting o grant xs i a.0 a.1 → Crediting o grant xs (i + 1) a.0 a.1
            skip i (us, reached) l out d =
                let a = account_in us i in
                let there : account_in us i ≡ account_in xs i = doing-at (credit-fair o grant) h d.doing in
                let none = ap (λ (b : Account). covers_offer o b.rule) there ∙ out in
                let test = ap not (and-false (not (is_rate a.rule.kind))) in
                let same : (b : Bool) (level : Level) → b ≡ (b || (concerns o level a && fills_by o grant a)) = λ b level.
                sym (ap (λ (t : Bool). b || t) (fills-off o grant a refl refl (sym none) level test) ∙ or-false b) in
                crediting-more o grant h d l (record {
                  memory = change-none (credited o grant) i (held-laid d.doing.holds) (credited-off o grant a refl refl (sym none) test);
                  root = same reached.root (Root o.root);
                  firm = same reached.firm Firm;
                })
