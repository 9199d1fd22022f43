-- A walk over the rules that carries along where the accounts of each begin: of a rule's accounts an offer looks at one, and passes the others over.
-- Assumes nothing.
use Prim.Native.Nat.{ℕ, zero, suc, ◌+◌, ◌≤◌, ◌<◌}
use mathlib.Core.Path.{◌≡◌, refl, sym, ap, ◌∙◌, subst}
use mathlib.Core.Bool.{false, and-false}
use mathlib.Core.List.{List, [], ◌∷◌, map}
use lib.ListN.{length, get_or, length-append, length-map, get_or-map}
use lib.Seq.{take_all}
use lib.Dec.{eqb}
use borrow.Author.Tests.{ne_eqb}
use native.Mathlib.Numerals.{add-one}
use native.Mathlib.Omega.{arith}
use Rattle.measures.specs.Ranges.{In, units}
use Rattle.rules.specs.Rules.{covers}
use Rattle.rules.specs.Units.{units_of, place_in, scope_for, of_unit}
use Rattle.rules.specs.declared.Scope.{Scope}
use Rattle.rules.specs.declared.Scope.TheVariants.{EveryFill, WholeRoot, OneUnit}
use Rattle.rules.specs.declared.Rule.{Rule}
use Rattle.rules.specs.declared.Account.{Account}
use Rattle.machine.specs.State.{cells_by, cells_of, account_rule}
use Rattle.machine.specs.Remaining.{no_account, rule_numbered, first_cell}
use Rattle.machine.specs.Offers.{covers_offer}
use Rattle.machine.specs.declared.Offer.{Offer}
use Rattle.rules.proofs.Units.{four, facing-low, facing-scope}
use Rattle.machine.proofs.Lists.{map_at}
use Rattle.machine.proofs.Cells.{cells_at}

-- the accounts of the next rule begin past those of rule r
cells-suc : (rules : List Rule) (r : ℕ) → r < length rules → first_cell rules (suc r) ≡ first_cell rules r + length (units_of (rule_numbered rules r).scope)
unfolding rule_numbered cells_of cells_by
cells-suc [] r low = absurd (omega arith)
cells-suc (rule ∷ rest) zero low = rw (length-append, length-map) (omega arith)
cells-suc (rule ∷ rest) (suc r) low = rw (length-append, length-append) (omega (arith, cells-suc rest r (omega arith)))

pub cells-next : (rules : List Rule) (r : ℕ) → r < length rules → first_cell rules (r + 1) ≡ first_cell rules r + length (units_of (rule_numbered rules r).scope)
cells-next rules r low = rw (add-one r) (cells-suc rules r low)

pub cells-within : (rules : List Rule) (r : ℕ) → first_cell rules r ≤ length (cells_of rules)
unfolding cells_of
cells-within rules zero = omega arith
cells-within [] (suc r) = omega arith
cells-within (rule ∷ rest) (suc r) = rw (length-append, length-append) (omega (arith, cells-within rest r))

-- past the last rule all accounts stand before
pub cells-end : (rules : List Rule) (r : ℕ) → length rules ≤ r → first_cell rules r ≡ length (cells_of rules)
cells-end rules r all = ap (λ (l : List Rule). length (cells_of l)) (take_all r rules all)

module _ (accounts : List Account) (rules : List Rule) (fits : map account_rule accounts ≡ cells_of rules) (r : ℕ) (low : r < length rules) where
  abbrev rule : Rule
  rule = rule_numbered rules r

  -- account j of rule r
  abbrev cell : ℕ → Account
  cell j = get_or accounts (first_cell rules r + j) no_account

  own-low : (j : ℕ) → j < length (cells_by rule) → first_cell rules r + j < length accounts
  own-low j few = omega (arith, length-map accounts account_rule, ap length fits, (cells_at rules r j no_account.rule low few).0)

  pub own-rule : (j : ℕ) → j < length (units_of rule.scope) → (cell j).rule ≡ of_unit rule (get_or (units_of rule.scope) j 0)
  unfolding cells_by
  own-rule j few =
      let inside : j < length (cells_by rule) = rw length-map few in
      sym (get_or-map account_rule accounts (first_cell rules r + j) no_account)
      ∙ ap (λ (cells : List Rule). get_or cells (first_cell rules r + j) no_account.rule) fits
      ∙ (cells_at rules r j no_account.rule low inside).1
      ∙ map_at (of_unit rule) (units_of rule.scope) j no_account.rule 0 few

  -- an offer looks at the one for its unit, which is the rule as it counts for that unit
  module _ (o : Offer) (known : In units o.unit) where
    abbrev at : ℕ
    at = first_cell rules r + place_in rule.scope o.unit

    pub facing-account : at < length accounts
    unfolding cells_by
    facing-account = own-low _ (rw length-map (facing-low rule.scope o.unit known))

    pub facing-rule : (get_or accounts at no_account).rule ≡ of_unit rule o.unit
    unfolding of_unit
    facing-rule =
        own-rule _ (facing-low rule.scope o.unit known)
        ∙ ap (λ (s : Scope). record { scope = s; kind = rule.kind; limit = rule.limit }) (facing-scope rule.scope o.unit known)

    -- the account of a rule for another unit does not cover the offer
    apart : (root j : ℕ) → rule.scope ≡ WholeRoot root → j < 4 → (j ≡ o.unit → ⊥) → covers_offer o (cell j).rule ≡ false
    unfolding covers_offer covers of_unit scope_for units_of
    apart root j whole few other =
        let is : get_or (units_of rule.scope) j 0 ≡ j = ap (λ (s : Scope). get_or (units_of s) j 0) whole
        ∙ four (λ n. get_or (0 ∷ 1 ∷ 2 ∷ 3 ∷ []) n 0 ≡ n) refl refl refl refl j (omega arith) in
        ap (covers_offer o) (own-rule j (rw whole few) ∙ ap (of_unit rule) is)
        ∙ rw (whole, ne_eqb j o.unit other) (and-false (eqb root o.root))

    module _ {A : Type 0} (W : ℕ → A → Type 0)
        (skip : (i : ℕ) (a : A) → i < length accounts → covers_offer o (get_or accounts i no_account).rule ≡ false → W i a → W (i + 1) a) where
      -- what stands after some accounts, and is not touched by those that do not cover the offer, stands after those of rule r if it does after the one
      -- that the offer looks at
      pub through : (a b : A) → W (first_cell rules r) a → (W at a → W (at + 1) b) → W (first_cell rules (r + 1)) b
      unfolding place_in units_of cells_by
      through a b w more = subst (λ n. W n b) (sym (cells-next rules r low)) (go rule.scope refl more)
        where
          first : ℕ
          first = first_cell rules r

          start : W (first + 0) a
          start = subst (λ n. W n a) (omega arith) w

          pass : (root : ℕ) → rule.scope ≡ WholeRoot root → (c : A) (j : ℕ) → j < 4 → (j ≡ o.unit → ⊥) → W (first + j) c → W (first + suc j) c
          pass root whole c j few other v =
              subst (λ n. W n c) (omega arith) (skip (first + j) c (own-low j (rw (length-map, whole) few)) (apart root j whole few other) v)

          go : (scope : Scope) → rule.scope ≡ scope → (W (first + place_in scope o.unit) a → W (first + place_in scope o.unit + 1) b)
              → W (first + length (units_of scope)) b
          go EveryFill e more = subst (λ n. W n b) (omega arith) (more start)
          go (OneUnit root own) e more = subst (λ n. W n b) (omega arith) (more start)
          go (WholeRoot root) e more = all (pass root e) (λ v. subst (λ n. W n b) (omega arith) (more v))
            where
              -- the others before and after the offer's unit, one by one
              all : ((c : A) (j : ℕ) → j < 4 → (j ≡ o.unit → ⊥) → W (first + j) c → W (first + suc j) c)
                  → (W (first + o.unit) a → W (first + suc o.unit) b) → W (first + 4) b
              all =
                  four (λ u. ((c : A) (j : ℕ) → j < 4 → (j ≡ u → ⊥) → W (first + j) c → W (first + suc j) c) → (W (first + u) a → W (first + suc u) b) → W (first + 4) b)
                  (λ on it. on b 3 (omega arith) (λ e. omega (arith, e)) (on b 2 (omega arith) (λ e. omega (arith, e)) (on b 1 (omega arith) (λ e. omega (arith, e)) (it start))))
                  (λ on it. on b 3 (omega arith) (λ e. omega (arith, e)) (on b 2 (omega arith) (λ e. omega (arith, e)) (it (on a 0 (omega arith) (λ e. omega (arith, e)) start))))
                  (λ on it. on b 3 (omega arith) (λ e. omega (arith, e)) (it (on a 1 (omega arith) (λ e. omega (arith, e)) (on a 0 (omega arith) (λ e. omega (arith, e)) start))))
                  (λ on it. it (on a 2 (omega arith) (λ e. omega (arith, e)) (on a 1 (omega arith) (λ e. omega (arith, e)) (on a 0 (omega arith) (λ e. omega (arith, e)) start))))
                  o.unit known.1
