-- What a text comes to, read from a start: 5 for its size, the first faulty line, or the profile of its lines. Assumes nothing.
use Prim.Native.Nat.{ℕ, suc, ◌+◌, ◌≤◌, ◌<◌}
use native.Mathlib.Omega.{arith}
use mathlib.Core.Path.{◌≡◌, refl, ap, ◌∙◌}
use mathlib.Core.Logic.{◌⊎◌, inl, inr}
use mathlib.Core.Bool.{Bool, true, false, cond, ◌&&◌}
use mathlib.Core.List.{List, [], ◌∷◌}
use lib.ListN.{length}
use lib.Dec.{leb}
use borrow.Author.Tests.{leb-true, leb-false}
use Rattle.text.specs.Text.{lines}
use Rattle.measures.specs.Ranges.{◌to◌, is_in}
use Rattle.machine.specs.State.{Profile}
use Rattle.profile.specs.Profile.{Outcome, read_on, start_of}
use Rattle.promises.specs.Refusals.{profile_of, Faultless, FirstFault, Unsized}
use Rattle.promises.proofs.Tests.{first-least}
use Rattle.promises.proofs.Read.{read_through, read-fault, Split, splits}

-- a text that is read by its lines
abbrev pub Sized : List ℕ → Type 0
Sized text = (1 ≤ length text) × (length text ≤ 65_536)

-- the outcome of a text that has a number at a line, or none, after these lines
abbrev pub outcome : Profile → ℕ → ℕ → Outcome
outcome p number place = record { profile = p; refusal = number; line = place }

-- what it comes to, read from a start: its size is wrong, a line is faulty, or all is read
pub data TextComes (start : Profile) (text : List ℕ) : Type 0 where
  wrong_size : Unsized text → TextComes start text
  wrong_line : (k line : ℕ) → Sized text → 6 ≤ suc k → FirstFault start text (suc k) (suc line) → TextComes start text
  all_read : Sized text → Faultless start (lines text) → TextComes start text

module _ (start : Profile) (text : List ℕ) where
  -- the outcome of a text that is read from a start
  abbrev pub outcome_from : Outcome
  outcome_from = cond (is_in (1 to 65_536) (length text)) (read_on start 0 (lines text)) (outcome (start_of 0) 5 0)

  abbrev Sizes : Type 0
  Sizes = (Unsized text × (outcome_from ≡ outcome (start_of 0) 5 0)) ⊎ (Sized text × (outcome_from ≡ read_on start 0 (lines text)))

  sizes : Sizes
  sizes = go (leb 1 (length text)) (leb (length text) 65_536) refl refl
    where
      go : (a b : Bool) → leb 1 (length text) ≡ a → leb (length text) 65_536 ≡ b → Sizes
      go false b e f = inl (inl (omega (arith, leb-false 1 (length text) e)), rw e)
      go true false e f = inl (inr (leb-false _ _ f), rw (e, f))
      go true true e f = inr ((leb-true _ _ e, leb-true _ _ f), rw (e, f))

  sized-read : Sized text → outcome_from ≡ read_on start 0 (lines text)
  sized-read h = go sizes
    where
      go : Sizes → outcome_from ≡ read_on start 0 (lines text)
      go (inl (inl z, e)) = absurd (omega (arith, h.0, z))
      go (inl (inr z, e)) = absurd (omega (arith, h.1, z))
      go (inr k) = k.1

  pub unsized-is : Unsized text → outcome_from ≡ outcome (start_of 0) 5 0
  unsized-is h = go h sizes
    where
      go : Unsized text → Sizes → outcome_from ≡ outcome (start_of 0) 5 0
      go h (inl k) = k.1
      go (inl z) (inr k) = absurd (omega (arith, k.0.0, z))
      go (inr z) (inr k) = absurd (omega (arith, k.0.1, z))

  pub faulty-is : Sized text → (k line : ℕ) → (f : FirstFault start text (suc k) line) → outcome_from ≡ outcome (profile_of start f.before) (suc k) line
  faulty-is h k line f =
      sized-read h ∙ ap (read_on start 0) f.parts ∙ read-fault start 0 f.before f.line f.behind k line f.fine f.fault (omega (arith, f.placed))

  pub fine-is : Sized text → Faultless start (lines text) → outcome_from ≡ outcome (profile_of start (lines text)) 0 0
  fine-is h f = sized-read h ∙ read_through start 0 (lines text) f

  pub text-comes : TextComes start text
  text-comes = go sizes (splits start (lines text))
    where
      go : Sizes → Faultless start (lines text) ⊎ Split start (lines text) → TextComes start text
      go (inl size) split = wrong_size size.0
      go (inr size) (inl f) = all_read size.0 f
      go (inr size) (inr s) =
          let least : 6 ≤ suc s.number = first-least 6 _ (tt, (tt, (tt, (tt, (tt, (tt, tt)))))) s.number s.fault in
          wrong_line s.number (length s.before) size.0 least
          (record { before = s.before; line = s.line; behind = s.behind; parts = s.parts; placed = omega arith; fine = s.fine; fault = s.fault })
