-- Values put into one number, each below the earlier ones. Assumes nothing.
use mathlib.Core.Path.{◌≡◌, sym, ◌∙◌}
use mathlib.Core.List.{List, [], ◌∷◌}
use mathlib.Core.Logic.{◌⊎◌, inl, inr}
use Prim.Native.Nat.{ℕ, suc, ◌+◌, ◌*◌, ◌%◌, ◌^◌, ◌≤◌, ◌<◌}
use native.Mathlib.Nat.{lt_of_le_of_lt, mod-eq_of_lt}
use native.Mathlib.Omega.{arith}
use lib.ListN.{length}
use lib.Pow.{pow-add, pow_pos}
use Rattle.bits.specs.Fields.{total, packed, Fit}
use Rattle.bits.proofs.Packing.{fit_length}

-- what stands in the number so far, above the fields still to come
unfoldable pub left : ℕ → List ℕ → List ℕ → ℕ
left acc us vs = acc * 2 ^ total us + packed us vs

-- a field goes in below: the number is the same
pub shift_in : (acc u v : ℕ) (us vs : List ℕ) → left acc (u ∷ us) (v ∷ vs) ≡ left (acc * 2 ^ u + v) us vs
unfolding left total packed
shift_in acc u v us vs = rw (pow-add 2 u (total us)) (omega arith)

left_le : (acc : ℕ) (us vs : List ℕ) → acc ≤ left acc us vs
unfolding left
left_le acc us vs = let p = pow_pos (total us) in grind arith

-- the values vs are still to be put below acc, in fields of the widths us: all make the number n
pub record Placed (n acc : ℕ) (us vs : List ℕ) : Type 0 where
  pub fit : Fit us vs
  pub value : left acc us vs ≡ n

pub placed-none : (us vs : List ℕ) → Fit us vs → Placed (packed us vs) 0 us vs
unfolding left
placed-none us vs f = record { fit = f; value = omega arith }

module _ {n acc u v : ℕ} {us vs : List ℕ} (p : Placed n acc (u ∷ us) (v ∷ vs)) (small : n < 2 ^ 128) where
  on : left (acc * 2 ^ u + v) us vs ≡ n
  on = sym (shift_in acc u v us vs) ∙ p.value

  on_lt : acc * 2 ^ u + v < 2 ^ 128
  on_lt = lt_of_le_of_lt (left_le (acc * 2 ^ u + v) us vs) (rw on small)

  exact : acc * 2 ^ u % 2 ^ 128 ≡ acc * 2 ^ u
  exact = mod-eq_of_lt (omega (arith, on_lt))

  pub placed_lt : acc * 2 ^ u % 2 ^ 128 + v < 2 ^ 128
  placed_lt = rw exact on_lt

  pub placed-on : Placed n (acc * 2 ^ u % 2 ^ 128 + v) us vs
  unfolding Fit
  placed-on = record { fit = p.fit.1; value = rw exact on }

pub placed-all : {n acc : ℕ} (us vs : List ℕ) → Placed n acc us vs → (length vs ≡ 0) ⊎ (length us ≡ 0) → acc ≡ n
unfolding left total packed
placed-all [] vs p e = let v = p.value in omega arith
placed-all (u ∷ us) [] p e = absurd (let l : suc (length us) ≡ 0 = fit_length (u ∷ us) [] p.fit in omega arith)
placed-all (u ∷ us) (v ∷ vs) p e = elim e [ inl z ↦ cc | inr z ↦ cc ]
