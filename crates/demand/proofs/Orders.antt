-- The register is what the deeds leave: which orders are open, and what is left of them. Assumes nothing.
use Prim.Native.Nat.{ℕ, ◌-◌}
use mathlib.Core.Path.{◌≡◌, refl, sym, ap, ◌∙◌}
use mathlib.Core.Bool.{Bool, true, false, not, cond, ◌&&◌, ◌||◌, false≢true}
use mathlib.Core.List.{List, [], ◌∷◌, ◌++◌, map}
use lib.Dec.{eqb}
use borrow.Author.Tests.{eqb-true, eq-eqb}
use Rattle.laws.specs.Folds.{any_of, keep}
use Rattle.machine.specs.declared.Sent.{Sent}
use Rattle.machine.specs.State.{State}
use Rattle.machine.specs.Deeds.{granted, reported, Deed, nothing, passing, filling, resetting, locking_out, sending, closing}
use Rattle.machine.specs.Register.{has_identity, is_open, sent_at, used_up, register_by, register_after}
use Rattle.machine.proofs.Register.{open-used}
use Rattle.machine.proofs.Orders.{open-sent, sent-sent, open-closed, sent-closed}
use Rattle.machine.proofs.Meets.{Meets}
use Rattle.demand.specs.Away.{sends, closes, is_for, less_report, sent_after}

module _ (identity : ℕ) where
  -- a report
  used-one : (k n : ℕ) (sent : Sent) → has_identity identity sent ≡ true → used_up k n sent ≡ cond (eqb identity k) (less_report n sent) sent
  unfolding used_up has_identity less_report
  used-one k n sent e = ap (λ (j : ℕ). left (eqb j k)) (eqb-true sent.identity identity e) ∙ go (eqb identity k)
    where
      left : Bool → Sent
      left b = record {
        identity = sent.identity;
        root = sent.root;
        unit = sent.unit;
        premium = sent.premium;
        contracts = record { 0 = cond b (sent.contracts.0 - n) sent.contracts.0 };
        reports = cond b (sent.reports - 1) sent.reports;
      }

      go : (b : Bool) → left b ≡ cond b (less_report n sent) sent
      go true = refl
      go false = refl

  sent-used : (k n : ℕ) (register : List Sent) → is_open register identity ≡ true
      → sent_at (map (used_up k n) register) identity ≡ cond (eqb identity k) (less_report n (sent_at register identity)) (sent_at register identity)
  unfolding is_open any_of sent_at has_identity used_up
  sent-used k n [] o = absurd (false≢true o)
  sent-used k n (sent ∷ rest) o = go (eqb sent.identity identity) refl o (sent-used k n rest)
    where
      go : (b : Bool) → eqb sent.identity identity ≡ b → (b || any_of (has_identity identity) rest) ≡ true
          → (any_of (has_identity identity) rest ≡ true
          → sent_at (map (used_up k n) rest) identity ≡ cond (eqb identity k) (less_report n (sent_at rest identity)) (sent_at rest identity))
          → cond b (used_up k n sent) (sent_at (map (used_up k n) rest) identity)
          ≡ cond (eqb identity k) (less_report n (cond b sent (sent_at rest identity))) (cond b sent (sent_at rest identity))
      go true e o next = used-one k n sent e
      go false e o next = next o

  -- what each deed leaves open
  pub opened_after : (s : State) (deed : Deed)
      → is_open (register_after deed s.part.register) identity ≡ (not (closes identity deed) && (sends identity deed || is_open s.part.register identity))
  unfolding register_after register_by sends closes
  opened_after s nothing = refl
  opened_after s (passing time) = refl
  opened_after s (filling granted o n) = refl
  opened_after s (filling (reported k) o n) = open-used k n s.part.register identity
  opened_after s (resetting time root effect) = refl
  opened_after s (locking_out time level) = refl
  opened_after s (sending time sent) = open-sent identity s.part.register sent
  opened_after s (closing time k) = open-closed identity k s.part.register

  -- and what it leaves of an order that is open
  orders-after : (s : State) (deed : Deed) → Meets s deed → is_open (register_after deed s.part.register) identity ≡ true
      → sent_at (register_after deed s.part.register) identity ≡ sent_after identity deed (sent_at s.part.register identity)
  unfolding register_after register_by sent_after is_for Meets
  orders-after s nothing m o = refl
  orders-after s (passing time) m o = refl
  orders-after s (filling granted f n) m o = refl
  orders-after s (filling (reported k) f n) m o = sent-used k n s.part.register (sym (open-used k n s.part.register identity) ∙ o)
  orders-after s (resetting time root effect) m o = refl
  orders-after s (locking_out time level) m o = refl
  orders-after s (sending time sent) m o = sent-sent identity s.part.register sent m.new o
  orders-after s (closing time k) m o = go (eqb k identity) refl (sym (open-closed identity k s.part.register) ∙ o)
    where
      go : (b : Bool) → eqb k identity ≡ b → (not (eqb k identity) && is_open s.part.register identity) ≡ true
          → sent_at (keep (λ (x : Sent). not (has_identity k x)) s.part.register) identity ≡ sent_at s.part.register identity
      go true e h = absurd (false≢true (rw e at h))
      go false e h = sent-closed identity k s.part.register e

  -- what was sent just now was not open before
  sent-new : (deed : Deed) (x y : Sent) → sends identity deed ≡ true → sent_after identity deed x ≡ sent_after identity deed y
  unfolding sends sent_after
  sent-new nothing x y e = absurd (false≢true e)
  sent-new (passing time) x y e = absurd (false≢true e)
  sent-new (filling source o n) x y e = absurd (false≢true e)
  sent-new (resetting time root effect) x y e = absurd (false≢true e)
  sent-new (locking_out time level) x y e = absurd (false≢true e)
  sent-new (sending time sent) x y e = rw e
  sent-new (closing time k) x y e = absurd (false≢true e)

  pub orders-kept : {x : Sent} (s : State) (deed : Deed) → Meets s deed
      → (is_open s.part.register identity ≡ true → sent_at s.part.register identity ≡ x)
      → is_open (register_after deed s.part.register) identity ≡ true
      → sent_at (register_after deed s.part.register) identity ≡ sent_after identity deed x
  orders-kept {x} s deed m before o =
      orders-after s deed m o ∙ go (sends identity deed) refl (closes identity deed) (sym (opened_after s deed) ∙ o)
    where
      go : (b : Bool) → sends identity deed ≡ b → (c : Bool) → (not c && (sends identity deed || is_open s.part.register identity)) ≡ true
          → sent_after identity deed (sent_at s.part.register identity) ≡ sent_after identity deed x
      go true e c h = sent-new deed _ x e
      go false e true h = absurd (false≢true h)
      go false e false h = ap (sent_after identity deed) (before (rw e at h))
