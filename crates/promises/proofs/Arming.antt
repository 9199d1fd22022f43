-- Each refusal of Arm, Clear and Text has the condition that document 01 gives it, and a refusal changes nothing that is lent. Assumes nothing.
use Prim.Native.Nat.{ℕ, zero, suc, ◌+◌, ◌≤◌, ◌<◌}
use native.Mathlib.Omega.{arith}
use mathlib.Core.Path.{◌≡◌, refl, sym, ap, ◌∙◌, subst}
use mathlib.Core.Logic.{◌↔◌, ◌⊎◌, inl, inr}
use mathlib.Core.Bool.{Bool, true, false}
use mathlib.Core.List.{List, [], ◌∷◌}
use lib.ListN.{length, get_or}
use lib.Dec.{eqb, ltb, leb}
use borrow.Author.Tests.{ltb-true, ltb-false, eqb-true, eqb-false, ne_eqb, leb-true, leb-false}
use Rattle.text.specs.Text.{lines}
use Rattle.machine.specs.State.{Profile}
use Rattle.profile.specs.Profile.{Outcome, start_of, outcome_of, reading_of}
use Rattle.profile.specs.Reading.{Reading, Accepted, Refused as NotRead}
use Rattle.state.specs.State.{size}
use Rattle.calls.specs.Calls.{mark_of, arm_answer}
use Rattle.calls.proofs.Cases.{arm-short, arm-marked}
use Rattle.capi.specs.Rows.{arm_row}
use Rattle.promises.specs.Refusals.{Short, Unmarked, Marked, profile_of, Faultless, start_in, FirstFault, accepted_row, Unsized, ArmRefusals}
use Rattle.promises.proofs.Unarmed.{unarmed-idle}
use Rattle.promises.proofs.Texts.{Sized, outcome_from, unsized-is, faulty-is, fine-is, TextComes, wrong_size, wrong_line, all_read, text-comes}

-- ---- rows

-- the row of a refused Arm: its number and line
pub arm-row : (a : Reading) (n line : ℕ) → (arm_row a ≡ suc n ∷ line ∷ 0 ∷ 0 ∷ 0 ∷ []) ↔ (a ≡ NotRead (suc n) line)
unfolding arm_row
arm-row a n line = (λ e. go a (ap (λ (row : List ℕ). get_or row 0 0) e) (ap (λ (row : List ℕ). get_or row 1 0) e), λ e. ap arm_row e)
  where
    go : (a : Reading) → get_or (arm_row a) 0 0 ≡ suc n → get_or (arm_row a) 1 0 ≡ line → a ≡ NotRead (suc n) line
    go (Accepted firm rules roots) e f = absurd (omega arith)
    go (NotRead number at) e f = λ i. NotRead (e i) (f i)

-- ---- Arm

-- memory is short, or its mark is not 0, or it may be armed
memory-cases : (xs : List ℕ) → Short xs ⊎ Marked xs ⊎ Unmarked xs
memory-cases xs = go (ltb (length xs) size) (eqb (mark_of xs) 0) refl refl
  where
    go : (a b : Bool) → ltb (length xs) size ≡ a → eqb (mark_of xs) 0 ≡ b → Short xs ⊎ Marked xs ⊎ Unmarked xs
    go true b e f = inl (ltb-true _ _ e)
    go false false e f = inr (inl (ltb-false _ _ e, eqb-false _ _ f))
    go false true e f = inr (inr (ltb-false _ _ e, eqb-true _ _ f))

-- what a memory and a text come to
data Comes (xs text : List ℕ) : Type 0 where
  short : Short xs → arm_answer xs text ≡ NotRead 1 0 → Comes xs text
  marked : Marked xs → arm_answer xs text ≡ NotRead 3 0 → Comes xs text
  unsized : Unmarked xs → Unsized text → arm_answer xs text ≡ NotRead 5 0 → Comes xs text
  faulty : (number line : ℕ) → Unmarked xs → Sized text → 6 ≤ number → FirstFault (start_in text) text number line
      → arm_answer xs text ≡ NotRead number line → Comes xs text
  fine : Unmarked xs → Sized text → Faultless (start_in text) (lines text) → Comes xs text

module _ (xs text : List ℕ) where
  abbrev whole : Profile
  whole = profile_of (start_in text) (lines text)

  -- the answers
  unmarked-answer : Unmarked xs → (o : Outcome) → outcome_of text ≡ o → arm_answer xs text ≡ reading_of o
  unmarked-answer u o e = (unarmed-idle xs u.0 u.1).judged text ∙ ap reading_of e

  fault-answer : Unmarked xs → (p : Profile) (k line : ℕ) → outcome_of text ≡ record { profile = p; refusal = suc k; line = line } → arm_answer xs text ≡ NotRead (suc k) line
  unfolding reading_of
  fault-answer u p k line e = unmarked-answer u _ e ∙ rw (ne_eqb (suc k) 0 (λ z. omega arith))

  -- the text is read from the firm of its first line
  from_start : outcome_of text ≡ outcome_from (start_in text) text
  unfolding outcome_of
  from_start = refl

  five-answer : Unmarked xs → Unsized text → arm_answer xs text ≡ NotRead 5 0
  five-answer u h = fault-answer u (start_of 0) 4 0 (from_start ∙ unsized-is (start_in text) text h)

  faulty-answer : Unmarked xs → Sized text → (number line : ℕ) → 6 ≤ number → FirstFault (start_in text) text number line → arm_answer xs text ≡ NotRead number line
  faulty-answer u h zero line least f = absurd (omega (arith, least))
  faulty-answer u h (suc k) line least f = fault-answer u (profile_of (start_in text) f.before) k line (from_start ∙ faulty-is (start_in text) text h k line f)

  fine-answer : Unmarked xs → Sized text → Faultless (start_in text) (lines text) → arm_row (arm_answer xs text) ≡ accepted_row whole
  unfolding reading_of arm_row
  fine-answer u h f = ap arm_row (unmarked-answer u _ (from_start ∙ fine-is (start_in text) text h f))

  comes : Comes xs text
  comes = go (memory-cases xs) (text-comes (start_in text) text)
    where
      go : Short xs ⊎ Marked xs ⊎ Unmarked xs → TextComes (start_in text) text → Comes xs text
      go (inl h) read = short h (sym (arm-short xs text h).0)
      go (inr (inl h)) read = marked h (sym (arm-marked xs text h.0 h.1).0)
      go (inr (inr h)) (wrong_size u) = unsized h u (five-answer h u)
      go (inr (inr h)) (wrong_line k line s least f) = faulty (suc k) (suc line) h s least f (faulty-answer h s _ _ least f)
      go (inr (inr h)) (all_read s f) = fine h s f

  -- why a text is refused with a number and a line
  data Why (number line : ℕ) : Type 0 where
    is_short : number ≡ 1 → Short xs → Why number line
    is_marked : number ≡ 3 → Marked xs → Why number line
    is_unsized : number ≡ 5 → Unmarked xs → Unsized text → Why number line
    is_faulty : 6 ≤ number → Unmarked xs → Sized text → FirstFault (start_in text) text number line → Why number line

  why : (n line : ℕ) → Comes xs text → arm_answer xs text ≡ NotRead (suc n) line → Why (suc n) line
  unfolding arm_row
  why n line (short h a) e = is_short (cc) h
  why n line (marked h a) e = is_marked (cc) h
  why n line (unsized h s a) e = is_unsized (cc) h s
  why n line (faulty number place h s least f a) e =
      let same : number ≡ suc n = cc in
      let at : place ≡ line = cc in
      is_faulty (omega (arith, least, same)) h s (subst (λ (k : ℕ). FirstFault (start_in text) text k line) same (subst (FirstFault (start_in text) text number) at f))
  why n line (fine h s f) e = absurd (omega (arith, ap (λ (row : List ℕ). get_or row 0 0) (sym (fine-answer h s f) ∙ ap arm_row e)))

  -- EACH REFUSAL OF ARM, AS DOCUMENT 01 HAS IT
  pub arm-refusals : ArmRefusals xs text
  unfolding arm_row
  arm-refusals = record {
    one = (λ e. for-one (refused 0 0 e), λ h. ap arm_row (sym (arm-short xs text h).0));
    three = (λ e. for-three (refused 2 0 e), λ h. ap arm_row (sym (arm-marked xs text h.0 h.1).0));
    five = (λ e. for-five (refused 4 0 e), λ h. ap arm_row (five-answer h.0 h.1));
    faulty =
        λ number line least. (
          for-line number line least,
          λ h. ap arm_row (faulty-answer h.0 (h.1, h.2) number line least h.3),
        );
    accepted = (λ e. for-all comes e, λ h. fine-answer h.0 (h.1, h.2) h.3);
  }
    where
      refused : (n line : ℕ) → arm_row (arm_answer xs text) ≡ suc n ∷ line ∷ 0 ∷ 0 ∷ 0 ∷ [] → Why (suc n) line
      refused n line e = why n line comes ((arm-row (arm_answer xs text) n line).0 e)

      for-one : Why 1 0 → Short xs
      for-one (is_short z h) = h
      for-one (is_marked z h) = absurd (omega arith)
      for-one (is_unsized z h s) = absurd (omega arith)
      for-one (is_faulty z h s f) = absurd (omega arith)

      for-three : Why 3 0 → Marked xs
      for-three (is_short z h) = absurd (omega arith)
      for-three (is_marked z h) = h
      for-three (is_unsized z h s) = absurd (omega arith)
      for-three (is_faulty z h s f) = absurd (omega arith)

      for-five : Why 5 0 → Unmarked xs × Unsized text
      for-five (is_short z h) = absurd (omega arith)
      for-five (is_marked z h) = absurd (omega arith)
      for-five (is_unsized z h s) = (h, s)
      for-five (is_faulty z h s f) = absurd (omega arith)

      at-line : (number line : ℕ) → 6 ≤ number → Why number line → Unmarked xs × (1 ≤ length text) × (length text ≤ 65_536) × FirstFault (start_in text) text number line
      at-line number line least (is_short z h) = absurd (omega (arith, least))
      at-line number line least (is_marked z h) = absurd (omega (arith, least))
      at-line number line least (is_unsized z h s) = absurd (omega (arith, least))
      at-line number line least (is_faulty z h s f) = (h, s.0, s.1, f)

      for-line : (number line : ℕ) → 6 ≤ number → arm_row (arm_answer xs text) ≡ number ∷ line ∷ 0 ∷ 0 ∷ 0 ∷ []
          → Unmarked xs × (1 ≤ length text) × (length text ≤ 65_536) × FirstFault (start_in text) text number line
      for-line zero line least e = absurd (omega (arith, least))
      for-line (suc n) line least e = at-line (suc n) line least (refused n line e)

      -- an accepted text's row begins with 0
      zero-first : (number line : ℕ) → arm_answer xs text ≡ NotRead number line → arm_row (arm_answer xs text) ≡ accepted_row whole → number ≡ 0
      zero-first number line a e = ap (λ (row : List ℕ). get_or row 0 0) (sym (ap arm_row a) ∙ e)

      for-all : Comes xs text → arm_row (arm_answer xs text) ≡ accepted_row whole
          → Unmarked xs × (1 ≤ length text) × (length text ≤ 65_536) × Faultless (start_in text) (lines text)
      for-all (short h a) e = absurd (omega (arith, zero-first 1 0 a e))
      for-all (marked h a) e = absurd (omega (arith, zero-first 3 0 a e))
      for-all (unsized h s a) e = absurd (omega (arith, zero-first 5 0 a e))
      for-all (faulty number line h s least f a) e = absurd (omega (arith, least, zero-first number line a e))
      for-all (fine h s f) e = (h, s.0, s.1, f)
