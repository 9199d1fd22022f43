-- The cuts: rule by rule, and the grant as the lesser of the two. Assumes nothing.
use Prim.Native.Nat.{ℕ, ◌+◌, ◌≤◌, ◌<◌, min}
use native.Mathlib.Numerals.{add-one}
use native.Mathlib.Omega.{arith}
use mathlib.Core.Path.{◌≡◌, refl, sym, ap, ap₂, ◌∙◌}
use mathlib.Core.Bool.{Bool, true, false, cond, not, ◌&&◌, and-false, and-true}
use mathlib.Core.List.{List, [], ◌∷◌}
use lib.ListN.{length, get_or, drop, drop_of_length-le}
use lib.Seq.{drop-cons}
use lib.Dec.{eqb}
use borrow.Author.Tests.{not-true, not-false}
use Rattle.laws.proofs.Tests.{and_l}
use Rattle.rules.specs.Amounts.{number_of, amount_in}
use Rattle.rules.specs.Rules.{level_of, covers}
use Rattle.rules.specs.Allowance.{allowance}
use Rattle.rules.specs.declared.Level.{Level}
use Rattle.rules.specs.declared.Level.TheVariants.{Firm, Root}
use Rattle.rules.specs.declared.Limit.{Limit}
use Rattle.rules.specs.declared.Scope.{Scope}
use Rattle.rules.specs.declared.Scope.TheVariants.{EveryFill, WholeRoot, OneUnit}
use Rattle.rules.specs.declared.Rule.{Rule}
use Rattle.rules.specs.declared.Amount.{Amount}
use Rattle.rules.specs.declared.Account.{Account}
use Rattle.rules.proofs.Amounts.{number_in}
use Rattle.machine.specs.declared.Entry.{Entry}
use Rattle.machine.specs.Offers.{counted, covers_offer, same_level}
use Rattle.machine.specs.declared.Offer.{Offer}
use Rattle.grant.specs.Inner.Grant.{concerns, allowed_by, lowered, least_at}

-- the next of a list's elements, as code counts
pub next : {A : Type 0} (l : List A) (i : ℕ) (d : A) → i < length l → drop i l ≡ get_or l i d ∷ drop (i + 1) l
next l i d h = rw (add-one i) (drop-cons l i d h)

-- a rule that covers an offer is of the offer's root if it is not of the firm
pub level-of : (scope : Scope) (root unit : ℕ) → covers scope root unit ≡ true
    → same_level (level_of scope) (Root root) ≡ not (same_level (level_of scope) Firm)
unfolding covers level_of same_level
level-of EveryFill root unit h = refl
level-of (WholeRoot r) root unit h = h
level-of (OneUnit r u) root unit h = and_l (eqb r root) (eqb u unit) h

module _ (log : List Entry) (o : Offer) (a : Account) (n : ℕ) where
  lowered-as : (level : Level) (b : Bool) → concerns o level a ≡ b → lowered log o level a n ≡ cond b (min (allowed_by log o a) n) n
  unfolding lowered
  lowered-as level b e = ap (λ (t : Bool). cond t (min (allowed_by log o a) n) n) e

  pub lowered-le : (level : Level) → lowered log o level a n ≤ n
  unfolding lowered
  lowered-le level = go (concerns o level a)
    where
      go : (b : Bool) → cond b (min (allowed_by log o a) n) n ≤ n
      go true = omega arith
      go false = omega arith

  -- a number lowered before or after the lesser of it and another is taken
  lowered-min : (level : Level) (k : ℕ) → min (lowered log o level a n) k ≡ min n (lowered log o level a k)
  unfolding lowered
  lowered-min level k = go (concerns o level a) (allowed_by log o a)
    where
      go : (b : Bool) (m : ℕ) → min (cond b (min m n) n) k ≡ min n (cond b (min m k) k)
      go true m = omega arith
      go false m = refl

-- a rule, as the code finds it: what it covers, its level and what it allows
module _ (o : Offer) (a : Account) {rule : Rule} {b : Bool} (is : rule ≡ a.rule) (test : b ≡ covers rule.scope o.root o.unit) where
  found : b ≡ covers_offer o a.rule
  unfolding covers_offer
  found = test ∙ ap (λ (r : Rule). covers r.scope o.root o.unit) is

  pub concerns-off : (level : Level) → not b ≡ true → concerns o level a ≡ false
  unfolding concerns
  concerns-off level out =
      let same = same_level (level_of a.rule.scope) level in
      ap (λ (t : Bool). same && t) (sym found ∙ not-true b out) ∙ and-false same

  -- a rule that does not cover the offer leaves the cuts
  pub lowered-off : (log : List Entry) (level : Level) (n : ℕ) → not b ≡ true → n ≡ lowered log o level a n
  lowered-off log level n out = sym (lowered-as log o a n level false (concerns-off level out))

  module _ {firm : Bool} (inside : not b ≡ false) (at : firm ≡ same_level (level_of rule.scope) Firm) where
    pub concerns-firm : concerns o Firm a ≡ firm
    unfolding concerns
    concerns-firm =
        let same = same_level (level_of a.rule.scope) Firm in
        ap (λ (t : Bool). same && t) (sym found ∙ not-false b inside) ∙ and-true same
        ∙ sym (at ∙ ap (λ (r : Rule). same_level (level_of r.scope) Firm) is)

    pub concerns-root : concerns o (Root o.root) a ≡ not firm
    unfolding concerns
    concerns-root =
        let same = same_level (level_of a.rule.scope) (Root o.root) in
        ap (λ (t : Bool). same && t) (sym found ∙ not-false b inside) ∙ and-true same
        ∙ sym (ap not at ∙ sym (level-of rule.scope o.root o.unit (sym test ∙ not-false b inside))
        ∙ ap (λ (r : Rule). same_level (level_of r.scope) (Root o.root)) is)

    module _ (log : List Entry) {most : ℕ} (allows : most ≡ allowed_by log o a) (n : ℕ) where
      pub lowered-firm : lowered log o Firm a n ≡ cond firm (min most n) n
      lowered-firm = lowered-as log o a n Firm firm concerns-firm ∙ ap (λ (k : ℕ). cond firm (min k n) n) (sym allows)

      pub lowered-root : lowered log o (Root o.root) a n ≡ cond (not firm) (min most n) n
      lowered-root = lowered-as log o a n (Root o.root) (not firm) concerns-root ∙ ap (λ (k : ℕ). cond (not firm) (min k n) n) (sym allows)

-- what the rule allows, from its limit and what is counted
pub allows-is : (log : List Entry) (o : Offer) (a : Account) {rule : Rule} {amount : Amount} {most : ℕ} → rule ≡ a.rule
    → amount ≡ amount_in rule.limit (counted log o.time a) → most ≡ allowance rule.limit (number_of amount) o.premium o.contracts
    → most ≡ allowed_by log o a
unfolding allowed_by
allows-is log o a {rule} is sum e =
    e
    ∙ ap₂ (λ (l : Limit) (n : ℕ). allowance l n o.premium o.contracts) (ap (λ (r : Rule). r.limit) is)
    (ap number_of sum ∙ number_in rule.limit (counted log o.time a))

-- after i rules the cut of a level is n
pub record Cut (log : List Entry) (o : Offer) (accounts : List Account) (level : Level) (i n : ℕ) : Type 0 where
  pub most : n ≤ o.contracts
  pub rest : min n (least_at log o (drop i accounts) level) ≡ least_at log o accounts level

pub least-le : (log : List Entry) (o : Offer) (accounts : List Account) (level : Level) → least_at log o accounts level ≤ o.contracts
unfolding least_at
least-le log o [] level = omega arith
least-le log o (a ∷ rest) level = omega (arith, lowered-le log o a (least_at log o rest level) level, least-le log o rest level)

pub cut-none : (log : List Entry) (o : Offer) (accounts : List Account) (level : Level) → Cut log o accounts level 0 o.contracts
cut-none log o accounts level = record { most = omega arith; rest = omega (arith, least-le log o accounts level) }

pub cut-more : {log : List Entry} {o : Offer} {accounts : List Account} {level : Level} {i n m : ℕ} (d : Account) → Cut log o accounts level i n
    → i < length accounts → m ≡ lowered log o level (get_or accounts i d) n → Cut log o accounts level (i + 1) m
unfolding least_at
cut-more {log} {o} {accounts} {level} {i} {n} d c l e =
    let a = get_or accounts i d in
    let k = least_at log o (drop (i + 1) accounts) level in
    record {
      most = omega (arith, lowered-le log o a n level, c.most);
      rest =
          ap (λ (m : ℕ). min m k) e ∙ lowered-min log o a n level k
          ∙ ap (λ (l : List Account). min n (least_at log o l level)) (sym (next accounts i d l)) ∙ c.rest;
    }

pub cut-done : {log : List Entry} {o : Offer} {accounts : List Account} {level : Level} {i n : ℕ} → Cut log o accounts level i n
    → length accounts ≤ i → n ≡ least_at log o accounts level
unfolding least_at
cut-done {log} {o} {accounts} {level} {i} {n} c l =
    let all : min n o.contracts ≡ least_at log o accounts level =
    ap (λ (l : List Account). min n (least_at log o l level)) (sym (drop_of_length-le accounts l)) ∙ c.rest in
    omega (arith, c.most)
