-- Which orders are open, and what is left of them, after a sending, after a closing and after a reset. Assumes nothing.
use Prim.Native.Nat.{ℕ}
use mathlib.Core.Path.{◌≡◌, refl, sym, ◌∙◌}
use mathlib.Core.Bool.{Bool, true, false, not, cond, ◌&&◌, ◌||◌, false≢true}
use mathlib.Core.List.{List, [], ◌∷◌, ◌++◌}
use lib.Dec.{eqb}
use borrow.Author.Tests.{eqb-true, eq-eqb}
use Rattle.laws.specs.Folds.{any_of, keep}
use Rattle.machine.specs.declared.Effect.{Effect}
use Rattle.machine.specs.declared.Sent.{Sent}
use Rattle.machine.specs.Deeds.{resetting}
use Rattle.machine.specs.Register.{no_sent, has_identity, is_open, sent_at, register_after}
use Rattle.machine.proofs.Register.{or_no}

-- no reset touches the register
pub reset-leaves : (time root : ℕ) (effect : Effect) (register : List Sent) → register_after (resetting time root effect) register ≡ register
unfolding register_after
reset-leaves time root effect register = refl

module _ (identity : ℕ) where
  -- a sending
  pub open-sent : (register : List Sent) (new : Sent) → is_open (register ++ (new ∷ [])) identity ≡ (eqb new.identity identity || is_open register identity)
  unfolding is_open any_of has_identity
  open-sent [] new = refl
  open-sent (sent ∷ rest) new = rw (open-sent rest new) (go (eqb sent.identity identity) (eqb new.identity identity) (any_of (has_identity identity) rest))
    where
      go : (a b c : Bool) → (a || (b || c)) ≡ (b || (a || c))
      go true true c = refl
      go true false c = refl
      go false b c = refl

  pub sent-sent : (register : List Sent) (new : Sent) → is_open register new.identity ≡ false
      → is_open (register ++ (new ∷ [])) identity ≡ true
      → sent_at (register ++ (new ∷ [])) identity ≡ cond (eqb new.identity identity) new (sent_at register identity)
  unfolding is_open any_of sent_at has_identity
  sent-sent [] new fresh o = go (eqb new.identity identity) o
    where
      go : (b : Bool) → (b || false) ≡ true → cond b new no_sent ≡ cond b new no_sent
      go b o = refl
  sent-sent (sent ∷ rest) new fresh o =
      go (eqb sent.identity identity) refl (eqb new.identity identity) refl o (sent-sent rest new (after fresh))
    where
      after : (eqb sent.identity new.identity || is_open rest new.identity) ≡ false → is_open rest new.identity ≡ false
      after h = (or_no (eqb sent.identity new.identity) _ h).1

      both : eqb sent.identity identity ≡ true → eqb new.identity identity ≡ true → ⊥
      both a b = false≢true (sym (or_no (eqb sent.identity new.identity) _ fresh).0 ∙ eq-eqb sent.identity new.identity (eqb-true sent.identity identity a ∙ sym (eqb-true new.identity identity b)))

      go : (a : Bool) → eqb sent.identity identity ≡ a → (b : Bool) → eqb new.identity identity ≡ b
          → (a || is_open (rest ++ (new ∷ [])) identity) ≡ true
          → (is_open (rest ++ (new ∷ [])) identity ≡ true → sent_at (rest ++ (new ∷ [])) identity ≡ cond (eqb new.identity identity) new (sent_at rest identity))
          → cond a sent (sent_at (rest ++ (new ∷ [])) identity) ≡ cond b new (cond a sent (sent_at rest identity))
      go true ea true eb o next = absurd (both ea eb)
      go true ea false eb o next = refl
      go false ea b eb o next = next o ∙ rw eb

  -- a closing
  pub open-closed : (k : ℕ) (register : List Sent)
      → is_open (keep (λ sent. not (has_identity k sent)) register) identity ≡ (not (eqb k identity) && is_open register identity)
  unfolding is_open any_of keep has_identity
  open-closed k [] = go (eqb k identity)
    where
      go : (b : Bool) → false ≡ (not b && false)
      go true = refl
      go false = refl
  open-closed k (sent ∷ rest) =
      go (eqb sent.identity k) refl (eqb sent.identity identity) refl (eqb k identity) refl (open-closed k rest)
    where
      same : eqb sent.identity k ≡ true → eqb sent.identity identity ≡ true → eqb k identity ≡ true
      same a b = eq-eqb k identity (sym (eqb-true sent.identity k a) ∙ eqb-true sent.identity identity b)

      again : eqb sent.identity identity ≡ true → eqb k identity ≡ true → eqb sent.identity k ≡ true
      again a b = eq-eqb sent.identity k (eqb-true sent.identity identity a ∙ sym (eqb-true k identity b))

      go : (a : Bool) → eqb sent.identity k ≡ a → (b : Bool) → eqb sent.identity identity ≡ b → (c : Bool) → eqb k identity ≡ c
          → is_open (keep (λ (x : Sent). not (has_identity k x)) rest) identity ≡ (not (eqb k identity) && is_open rest identity)
          → is_open (cond (not a) (sent ∷ keep (λ (x : Sent). not (has_identity k x)) rest) (keep (λ (x : Sent). not (has_identity k x)) rest)) identity
          ≡ (not c && (b || is_open rest identity))
      go true ea true eb true ec ih = ih ∙ rw ec
      go true ea true eb false ec ih = absurd (false≢true (sym ec ∙ same ea eb))
      go true ea false eb c ec ih = ih ∙ rw ec
      go false ea true eb true ec ih = absurd (false≢true (sym ea ∙ again eb ec))
      go false ea true eb false ec ih = rw eb
      go false ea false eb c ec ih = rw eb (ih ∙ rw ec)

  pub sent-closed : (k : ℕ) (register : List Sent) → eqb k identity ≡ false
      → sent_at (keep (λ sent. not (has_identity k sent)) register) identity ≡ sent_at register identity
  unfolding sent_at keep has_identity
  sent-closed k [] other = refl
  sent-closed k (sent ∷ rest) other = go (eqb sent.identity k) refl (eqb sent.identity identity) refl (sent-closed k rest other)
    where
      same : eqb sent.identity k ≡ true → eqb sent.identity identity ≡ true → eqb k identity ≡ true
      same a b = eq-eqb k identity (sym (eqb-true sent.identity k a) ∙ eqb-true sent.identity identity b)

      go : (a : Bool) → eqb sent.identity k ≡ a → (b : Bool) → eqb sent.identity identity ≡ b
          → sent_at (keep (λ (x : Sent). not (has_identity k x)) rest) identity ≡ sent_at rest identity
          → sent_at (cond (not a) (sent ∷ keep (λ (x : Sent). not (has_identity k x)) rest) (keep (λ (x : Sent). not (has_identity k x)) rest)) identity
          ≡ cond b sent (sent_at rest identity)
      go true ea true eb ih = absurd (false≢true (sym other ∙ same ea eb))
      go true ea false eb ih = ih
      go false ea true eb ih = rw eb
      go false ea false eb ih = rw eb ih
