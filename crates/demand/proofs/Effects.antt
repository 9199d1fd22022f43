-- Resets as sets of levels: one order leaves what its sets leave, and one after another at one time leaves what the union of their sets leaves.
-- Assumes nothing.
use Prim.Native.Nat.{ℕ, zero, suc, ◌^◌, ◌≤◌, ◌<◌}
use mathlib.Core.Path.{◌≡◌, refl, sym, ap, ap₂, ◌∙◌, fun_ext}
use mathlib.Core.Bool.{Bool, true, false, not, cond, ◌&&◌, ◌||◌, or_comm, or_self}
use mathlib.Core.List.{List, map, map-map, map_congr_left}
use lib.Dec.{eqb}
use lib.Pow.{pow_pos}
use borrow.Author.Tests.{ne_eqb, eqb-true, eqb-false}
use native.Mathlib.Nat.{pow-suc}
use native.Mathlib.Omega.{arith}
use Rattle.bits.specs.Locks.{without_bit}
use Rattle.bits.proofs.Words.{without-sets, again, exchange}
use Rattle.laws.specs.Folds.{keep}
use Rattle.rules.specs.Rules.{level_of}
use Rattle.rules.specs.declared.Level.{Level}
use Rattle.rules.specs.declared.Level.TheVariants.{Firm, Root}
use Rattle.rules.specs.declared.Account.{Account}
use Rattle.rules.specs.Amounts.{amount_in}
use Rattle.rules.specs.declared.Amount.{Amount}
use Rattle.machine.specs.declared.Entry.{Entry}
use Rattle.machine.specs.State.{Locks, State, roots_in}
use Rattle.machine.specs.Effects.{effect_of, zeroing, lifting}
use Rattle.machine.specs.Deeds.{resetting, clock_after}
use Rattle.machine.specs.Locks.{lifted}
use Rattle.machine.specs.Entries.{is_flagged}
use Rattle.machine.specs.Order.{wiped, unflagged, unflagged_log}
use Rattle.machine.specs.Register.{register_after}
use Rattle.machine.specs.Step.{accounts_after, locks_after, log_after, part_after, after}
use Rattle.machine.proofs.Lists.{keep-map}
use Rattle.machine.proofs.Flags.{still-gone}
use Rattle.demand.specs.Resets.{Sets, sets_of, union, cleared, unlocked, reset_to}

-- ---- the counters

none-none : (b' b : Bool) (none total : Amount) → cond b' none (cond b none total) ≡ cond (b || b') none total
none-none true true none total = refl
none-none true false none total = refl
none-none false true none total = refl
none-none false false none total = refl

not-not : (b' b c : Bool) → (not b' && (not b && c)) ≡ (not (b || b') && c)
not-not true true c = refl
not-not true false c = refl
not-not false true c = refl
not-not false false c = refl

wiped-wiped : (z' z : Level → Bool) (a : Account) → wiped z' (wiped z a) ≡ wiped (λ level. z level || z' level) a
unfolding wiped
wiped-wiped z' z a =
    let level : Level = level_of a.rule.scope in
    λ i. record { rule = a.rule; total = none-none (z' level) (z level) (amount_in a.rule.limit 0) a.total i }

unflagged-unflagged : (z' z : Level → Bool) (e : Entry) → unflagged z' (unflagged z e) ≡ unflagged (λ level. z level || z' level) e
unfolding unflagged
unflagged-unflagged z' z e =
    λ i.
    record {
      time = e.time;
      root = e.root;
      unit = e.unit;
      premium = e.premium;
      contracts = e.contracts;
      forroot = not-not (z' (Root e.root)) (z (Root e.root)) e.forroot i;
      forfirm = not-not (z' Firm) (z Firm) e.forfirm i;
    }

map_both : {A : Type 0} (f g h : A → A) → ((a : A) → f (g a) ≡ h a) → (xs : List A) → map f (map g xs) ≡ map h xs
map_both f g h same xs = map-map f g xs ∙ map_congr_left {l = xs} (λ a m. same a)

log-both : (z' z : Level → Bool) (log : List Entry) → unflagged_log z' (unflagged_log z log) ≡ unflagged_log (λ level. z level || z' level) log
unfolding unflagged_log
log-both z' z log =
    keep-map is_flagged (unflagged z') (still-gone z') (map (unflagged z) log)
    ∙ ap (keep is_flagged) (map_both (unflagged z') (unflagged z) (unflagged (λ level. z level || z' level)) (unflagged-unflagged z' z) log)

-- ---- the marks

-- the bit of a root is cleared, or not
abbrev without : Bool → ℕ → ℕ → ℕ
without b root w = cond b (without_bit w root) w

below_power : (w : ℕ) → w < 2 ^ w
below_power zero = pow_pos 0
below_power (suc w) = omega (arith, pow-suc 2 w, below_power w)

without-both : (b' b : Bool) (root w : ℕ) → without b' root (without b root w) ≡ without (b || b') root w
without-both true true root w = again (without-sets w root) w (below_power w)
without-both true false root w = refl
without-both false true root w = refl
without-both false false root w = refl

without-swap : (b' b : Bool) (root' root w : ℕ) → without b' root' (without b root w) ≡ without b root (without b' root' w)
without-swap true true root' root w = exchange (without-sets w root') (without-sets w root) (λ e. refl) w (below_power w)
without-swap true false root' root w = refl
without-swap false b root' root w = refl

-- one bit more is cleared before the others or after them
cleared-swap : (lifts : Level → Bool) (n : ℕ) (b : Bool) (root w : ℕ) → cleared lifts n (without b root w) ≡ without b root (cleared lifts n w)
unfolding cleared
cleared-swap lifts zero b root w = refl
cleared-swap lifts (suc r) b root w =
    ap (without (lifts (Root r)) r) (cleared-swap lifts r b root w) ∙ without-swap (lifts (Root r)) b r root (cleared lifts r w)

cleared_both : (l' l : Level → Bool) (n w : ℕ) → cleared l' n (cleared l n w) ≡ cleared (λ level. l level || l' level) n w
unfolding cleared
cleared_both l' l zero w = refl
cleared_both l' l (suc r) w =
    ap (without (l' (Root r)) r) (cleared-swap l' r (l (Root r)) r (cleared l r w))
    ∙ without-both (l' (Root r)) (l (Root r)) r (cleared l' r (cleared l r w))
    ∙ ap (without (l (Root r) || l' (Root r)) r) (cleared_both l' l r w)

-- the marks that an order lifts are those of its root alone
module _ (lifts : Level → Bool) (root : ℕ) (others : (r : ℕ) → (r ≡ root → ⊥) → lifts (Root r) ≡ false) where
  cleared-below : (n w : ℕ) → n ≤ root → cleared lifts n w ≡ w
  unfolding cleared
  cleared-below zero w le = refl
  cleared-below (suc r) w le = rw (others r (λ e. omega (arith, le, e))) (cleared-below r w (omega (arith, le)))

  cleared-one : (n w : ℕ) → root < n → cleared lifts n w ≡ without (lifts (Root root)) root w
  unfolding cleared
  cleared-one zero w l = absurd (omega (arith, l))
  cleared-one (suc r) w l = go (eqb r root) refl (λ k. cleared-one r w k)
    where
      go : (b : Bool) → eqb r root ≡ b → (root < r → cleared lifts r w ≡ without (lifts (Root root)) root w)
          → cond (lifts (Root r)) (without_bit (cleared lifts r w) r) (cleared lifts r w) ≡ without (lifts (Root root)) root w
      go true e rest =
          let same = eqb-true r root e in
          ap₂ (λ (k v : ℕ). without (lifts (Root k)) k v) same (cleared-below r w (omega (arith, same)))
      go false e rest = rw (others r (eqb-false r root e)) (rest (omega (arith, l, eqb-false r root e)))

only-root : (root reset r : ℕ) → (r ≡ root → ⊥) → lifting (effect_of reset) root (Root r) ≡ false
unfolding lifting
only-root root reset r other = ap (λ (b : Bool). b && (effect_of reset).liftroot) (ne_eqb r root other)

unlocked-both : (l' l : Level → Bool) (n : ℕ) (locks : Locks) → unlocked l' n (unlocked l n locks) ≡ unlocked (λ level. l level || l' level) n locks
unfolding unlocked
unlocked-both l' l n locks =
    λ i.
    record {
      firm_tripped = not-not (l' Firm) (l Firm) locks.firm_tripped i;
      firm_by_user = not-not (l' Firm) (l Firm) locks.firm_by_user i;
      tripped = cleared_both l' l n locks.tripped i;
      by_user = cleared_both l' l n locks.by_user i;
    }

-- ---- the state

-- ONE SET AFTER ANOTHER leaves what their union leaves
pub resets-join : (t : ℕ) (a b : Sets) (s : State) → reset_to t b (reset_to t a s) ≡ reset_to t (union a b) s
unfolding reset_to union roots_in
resets-join t a b s =
    λ i.
    record {
      part = record {
        clock = t;
        profile = s.part.profile;
        accounts = map_both (wiped b.zeroes) (wiped a.zeroes) (wiped (union a b).zeroes) (wiped-wiped b.zeroes a.zeroes) s.part.accounts i;
        locks = unlocked-both b.lifts a.lifts (roots_in s) s.part.locks i;
        register = s.part.register;
      };
      log = log-both b.zeroes a.zeroes s.log i;
    }

-- AN ORDER'S RESET leaves what its sets leave
pub order-sets : (t root reset : ℕ) (s : State) → root < roots_in s → after (resetting t root (effect_of reset)) s ≡ reset_to t (sets_of root reset) s
unfolding after part_after clock_after accounts_after locks_after log_after register_after lifted reset_to sets_of unlocked
order-sets t root reset s low =
    let lifts = lifting (effect_of reset) root in
    λ i.
    record {
      part = record {
        clock = t;
        profile = s.part.profile;
        accounts = map (wiped (zeroing (effect_of reset) root)) s.part.accounts;
        locks = record {
          firm_tripped = not (lifts Firm) && s.part.locks.firm_tripped;
          firm_by_user = not (lifts Firm) && s.part.locks.firm_by_user;
          tripped = sym (cleared-one lifts root (only-root root reset) (roots_in s) s.part.locks.tripped low) i;
          by_user = sym (cleared-one lifts root (only-root root reset) (roots_in s) s.part.locks.by_user low) i;
        };
        register = s.part.register;
      };
      log = unflagged_log (zeroing (effect_of reset) root) s.log;
    }

-- the union does not depend on the order, and with itself it is the same
pub union-swap : (a b : Sets) → union a b ≡ union b a
unfolding union
union-swap a b =
    λ i.
    record {
      zeroes = fun_ext (λ level. or_comm (a.zeroes level) (b.zeroes level)) i;
      lifts = fun_ext (λ level. or_comm (a.lifts level) (b.lifts level)) i;
    }

pub union_self : (a : Sets) → union a a ≡ a
unfolding union
union_self a = λ i. record { zeroes = fun_ext (λ level. or_self (a.zeroes level)) i; lifts = fun_ext (λ level. or_self (a.lifts level)) i }
