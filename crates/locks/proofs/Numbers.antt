-- What the four numbers of locks tell, and what stores into them leave. Assumes nothing.
use Prim.Native.Nat.{ℕ, zero, suc}
use mathlib.Core.Path.{◌≡◌, refl, sym, ap, ◌∙◌}
use mathlib.Core.Bool.{Bool, true, false, not, cond, ◌&&◌, ◌||◌}
use mathlib.Core.List.{List, [], ◌∷◌}
use lib.ListN.{get_or, set}
use lib.Dec.{eqb}
use borrow.Author.Tests.{eq-eqb}
use Rattle.bits.specs.Locks.{bit, with_bit, without_bit}
use Rattle.rules.specs.declared.Level.{Level}
use Rattle.rules.specs.declared.Level.TheVariants.{Firm, Root}
use Rattle.packing.specs.EntryPlace.{flag_number}
use Rattle.machine.specs.State.{Locks}
use Rattle.machine.specs.declared.Effect.{Effect}
use Rattle.machine.specs.Effects.{lifting}
use Rattle.machine.specs.Locks.{is_tripped, is_by_user, is_locked, verdict_of, lifted, tripped_by, locked_out}
use Rattle.machine.specs.Order.{level_named}
use Rattle.state.specs.State.{locks_numbers}
use Rattle.locks.specs.Inner.Locks.{locks_in, AreLocks, tripping}

-- a mark that is read, that is lifted, and that is set
pub flag-told : (b : Bool) → eqb (flag_number b) 1 ≡ b
flag-told true = refl
flag-told false = refl

flag-lifted : (lifts b : Bool) → cond lifts 0 (flag_number b) ≡ flag_number (not lifts && b)
flag-lifted true b = refl
flag-lifted false b = refl

flag-set : (trips b : Bool) → cond trips 1 (flag_number b) ≡ flag_number (trips || b)
flag-set true b = refl
flag-set false b = refl

-- the root of the order is lifted where the effect lifts a root
lifts-root : (effect : Effect) (root : ℕ) → effect.liftroot ≡ lifting effect root (Root root)
unfolding lifting
lifts-root effect root = ap (λ (b : Bool). b && effect.liftroot) (sym (eq-eqb root root refl))

-- any level but 0 names the firm
names-firm : (level root : ℕ) → (level ≡ 0 → ⊥) → level_named level root ≡ Firm
unfolding level_named
names-firm zero root other = absurd (other refl)
names-firm (suc level) root other = refl

module _ {xs : List ℕ} (h : AreLocks xs) where
  -- the marks and the words
  firm-trip : get_or xs 0 0 ≡ flag_number (locks_in xs).firm_tripped
  firm-trip = ap (λ (q : List ℕ). get_or q 0 0) h.are

  firm-user : get_or xs 1 0 ≡ flag_number (locks_in xs).firm_by_user
  firm-user = ap (λ (q : List ℕ). get_or q 1 0) h.are

  pub trip-word : get_or xs 2 0 ≡ (locks_in xs).tripped
  trip-word = ap (λ (q : List ℕ). get_or q 2 0) h.are

  pub user-word : get_or xs 3 0 ≡ (locks_in xs).by_user
  user-word = ap (λ (q : List ℕ). get_or q 3 0) h.are

  -- the verdict, by the numbers
  pub verdict-told : (root : ℕ) → verdict_of (locks_in xs) root
      ≡ cond (eqb (get_or xs 0 0) 1 || eqb (get_or xs 1 0) 1) 1 (cond (eqb (bit (get_or xs 2 0) root) 1 || eqb (bit (get_or xs 3 0) root) 1) 2 0)
  unfolding verdict_of is_locked is_tripped is_by_user
  verdict-told root =
      let trip = ap (λ (n : ℕ). eqb n 1) firm-trip ∙ flag-told (locks_in xs).firm_tripped in
      let user = ap (λ (n : ℕ). eqb n 1) firm-user ∙ flag-told (locks_in xs).firm_by_user in
      sym (λ i. cond (trip i || user i) 1 (cond (eqb (bit (trip-word i) root) 1 || eqb (bit (user-word i) root) 1) 2 0))

  -- a lockout of a root, and of the firm
  pub locks-root : {level : ℕ} (root : ℕ) {word : ℕ} → level ≡ 0 → word ≡ with_bit (get_or xs 3 0) root
      → set xs 3 word ≡ locks_numbers (locked_out (level_named level root) (locks_in xs))
  unfolding locked_out level_named
  locks-root root {word} none e =
      let l = locks_in xs in
      let marked = e ∙ ap (λ (w : ℕ). with_bit w root) user-word in
      (λ i. set (h.are i) 3 (marked i)) ∙ ap (λ (n : ℕ). locks_numbers (locked_out (level_named n root) l)) (sym none)

  pub locks-firm : (level root : ℕ) → (level ≡ 0 → ⊥) → set xs 1 1 ≡ locks_numbers (locked_out (level_named level root) (locks_in xs))
  unfolding locked_out
  locks-firm level root other =
      ap (λ (q : List ℕ). set q 1 1) h.are ∙ ap (λ (level : Level). locks_numbers (locked_out level (locks_in xs))) (sym (names-firm level root other))

  -- what an effect lifts: first the firm's marks
  firm-lifted : (lifts : Bool) {ys : List ℕ} → ys ≡ cond lifts (set (set xs 0 0) 1 0) xs
      → ys ≡ locks_numbers (record {
        firm_tripped = not lifts && (locks_in xs).firm_tripped;
        firm_by_user = not lifts && (locks_in xs).firm_by_user;
        tripped = (locks_in xs).tripped;
        by_user = (locks_in xs).by_user;
      })
  firm-lifted true e = e ∙ ap (λ (q : List ℕ). set (set q 0 0) 1 0) h.are
  firm-lifted false e = e ∙ h.are

  module _ (root : ℕ) (effect : Effect) {ys : List ℕ} (e : ys ≡ cond effect.liftfirm (set (set xs 0 0) 1 0) xs) where
    pub lifts-on : effect.liftroot ≡ true → {t u : ℕ} → t ≡ without_bit (get_or ys 2 0) root → u ≡ without_bit (get_or (set ys 2 t) 3 0) root
        → set (set ys 2 t) 3 u ≡ locks_numbers (lifted (lifting effect root) root (locks_in xs))
    unfolding lifted lifting
    lifts-on on {t} {u} et eu =
        let l = locks_in xs in
        let y = firm-lifted effect.liftfirm e in
        let lift = sym (lifts-root effect root) ∙ on in
        let trips : t ≡ without_bit l.tripped root = et ∙ (λ i. without_bit (get_or (y i) 2 0) root) in
        let users : u ≡ without_bit l.by_user root = eu ∙ (λ i. without_bit (get_or (set (y i) 2 t) 3 0) root) in
        (λ i. set (set (y i) 2 (trips i)) 3 (users i))
        ∙ sym (λ i. flag_number (not effect.liftfirm && l.firm_tripped) ∷ flag_number (not effect.liftfirm && l.firm_by_user)
        ∷ cond (lift i) (without_bit l.tripped root) l.tripped ∷ cond (lift i) (without_bit l.by_user root) l.by_user ∷ [])

    pub lifts-off : effect.liftroot ≡ false → ys ≡ locks_numbers (lifted (lifting effect root) root (locks_in xs))
    unfolding lifted lifting
    lifts-off off =
        let l = locks_in xs in
        let lift = sym (lifts-root effect root) ∙ off in
        firm-lifted effect.liftfirm e
        ∙ sym (λ i. flag_number (not effect.liftfirm && l.firm_tripped) ∷ flag_number (not effect.liftfirm && l.firm_by_user)
        ∷ cond (lift i) (without_bit l.tripped root) l.tripped ∷ cond (lift i) (without_bit l.by_user root) l.by_user ∷ [])

  -- what trips: first the firm
  firm-trips : (trips : Bool) {ys : List ℕ} → ys ≡ cond trips (set xs 0 1) xs
      → ys ≡ locks_numbers (record {
        firm_tripped = trips || (locks_in xs).firm_tripped;
        firm_by_user = (locks_in xs).firm_by_user;
        tripped = (locks_in xs).tripped;
        by_user = (locks_in xs).by_user;
      })
  firm-trips true e = e ∙ ap (λ (q : List ℕ). set q 0 1) h.are
  firm-trips false e = e ∙ h.are

  module _ (root : ℕ) (roottrips firmtrips : Bool) {ys : List ℕ} (e : ys ≡ cond firmtrips (set xs 0 1) xs) where
    pub trips-on : roottrips ≡ true → {t : ℕ} → t ≡ with_bit (get_or ys 2 0) root
        → set ys 2 t ≡ locks_numbers (tripped_by (tripping roottrips firmtrips) root (locks_in xs))
    unfolding tripped_by tripping
    trips-on on {t} et =
        let l = locks_in xs in
        let y = firm-trips firmtrips e in
        let word : t ≡ with_bit l.tripped root = et ∙ (λ i. with_bit (get_or (y i) 2 0) root) in
        (λ i. set (y i) 2 (word i))
        ∙ sym (λ i. flag_number (firmtrips || l.firm_tripped) ∷ flag_number l.firm_by_user ∷ cond (on i) (with_bit l.tripped root) l.tripped ∷ l.by_user ∷ [])

    pub trips-off : roottrips ≡ false → ys ≡ locks_numbers (tripped_by (tripping roottrips firmtrips) root (locks_in xs))
    unfolding tripped_by tripping
    trips-off off =
        let l = locks_in xs in
        firm-trips firmtrips e
        ∙ sym (λ i. flag_number (firmtrips || l.firm_tripped) ∷ flag_number l.firm_by_user ∷ cond (off i) (with_bit l.tripped root) l.tripped ∷ l.by_user ∷ [])

-- two tests stand for the levels that trip
pub trips-told : (levels : Level → Bool) (root : ℕ) (l : Locks) {roottrips firmtrips : Bool} → roottrips ≡ levels (Root root) → firmtrips ≡ levels Firm
    → tripped_by (tripping roottrips firmtrips) root l ≡ tripped_by levels root l
unfolding tripped_by tripping
trips-told levels root l er ef = λ i. record {
  firm_tripped = ef i || l.firm_tripped;
  firm_by_user = l.firm_by_user;
  tripped = cond (er i) (with_bit l.tripped root) l.tripped;
  by_user = l.by_user;
}
