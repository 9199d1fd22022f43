-- Each refusal of arming a firm has its sentence, the other's name included. Assumes nothing.
use Prim.Native.Nat.{ℕ, zero, suc, ◌*◌, ◌-◌, ◌≤◌, ◌<◌}
use native.Mathlib.Omega.{arith}
use mathlib.Core.Path.{◌≡◌, refl, sym, ap, ◌∙◌, subst, subst⁻¹}
use mathlib.Core.Logic.Iff
use mathlib.Core.Logic.{◌↔◌, ◌⊎◌, inl, inr, ⊎_elim}
use mathlib.Core.Bool.{Bool, true, false, not, cond, ◌&&◌}
use mathlib.Core.List.{List, [], ◌∷◌}
use lib.ListN.{length, get_or}
use lib.Dec.{eqb, leb, ltb}
use borrow.Author.Tests.{eqb-true, eqb-false, ne_eqb, le-leb, leb-true}
use Rattle.laws.proofs.Tests.{and_l, and_r, and_i}
use Rattle.measures.specs.Ranges.{◌to◌, is_in}
use Rattle.text.specs.Text.{lines}
use Rattle.line.specs.Line.{firm_in}
use Rattle.machine.specs.State.{Profile, State}
use Rattle.machine.specs.Refusals.{first_of}
use Rattle.profile.specs.Profile.{Outcome, start_of, reading_of, firm_beside, outcome_beside}
use Rattle.profile.specs.Reading.{Reading, Accepted, Refused as NotRead}
use Rattle.profile.proofs.Beside.{accepted-differs}
use Rattle.state.specs.State.{size, decode}
use Rattle.firms.specs.Seats.{Seat, empty, taken, facing}
use Rattle.firms.specs.Doings.{name_of}
use Rattle.seats.specs.Memory.{state_size, seat_part, decode_seat, decode_seats, SoundMemory, is_sound_memory, firm_of, arm_refusal, given_to, arm_answer}
use Rattle.seats.proofs.Calls.{Ready, ready-is, sound-is}
use Rattle.seats.proofs.Both.{other-decoded}
use Rattle.seats.proofs.Armable.{Armable, armable, arm-refused, part-mark, no_name}
use Rattle.capi.specs.Rows.{arm_row}
use Rattle.promises.specs.Refusals.{refusal_row, ◌when◌else◌, none, Unsized, profile_of, Faultless, start_in, FirstFault, accepted_row}
use Rattle.promises.specs.FirmRefusals.{firm_mark, HoldingFirm, unarmed_then, firm_arm_refusals, OtherName, start_beside, Beside, FirmArmRefusals}
use Rattle.promises.proofs.Tests.{Tells, not-tells, and-tells, or-tells, tells_as, ltb-tells, eqb_tells, above-tells}
use Rattle.promises.proofs.Gives.{Gives, or_else, or-zero, none-gives, Leads, ends, tested}
use Rattle.promises.proofs.Texts.{Sized, outcome, outcome_from, unsized-is, faulty-is, fine-is, TextComes, wrong_size, wrong_line, all_read, text-comes}
use Rattle.promises.proofs.Arming.{arm-row}
use Rattle.promises.proofs.FirmRefusals.{unsound-tells, on-held}

-- where the other's mark stands
other_at : (firm : ℕ) → size - firm * size ≡ (1 - firm) * size
other_at zero = refl
other_at (suc zero) = refl
other_at (suc (suc n)) = omega arith

-- a text that is empty or too long fails the test of its size
size-tells : (text : List ℕ) → Tells (not (is_in (1 to 65_536) (length text))) (Unsized text)
size-tells text =
    or-tells (leb 1 (length text)) (leb (length text) 65_536)
    (tells_as (above-tells 1 (length text)) (λ h. omega (arith, h), λ h. omega (arith, h))) (above-tells (length text) 65_536)

module _ (xs : List ℕ) (firm : ℕ) where
  other-tells : Tells (not (eqb (get_or xs (size - firm * size) 0) 0)) (firm_mark xs (1 - firm) ≡ 0 → ⊥)
  other-tells =
      subst (λ (i : ℕ). Tells (not (eqb (get_or xs (size - firm * size) 0) 0)) (get_or xs i 0 ≡ 0 → ⊥)) (other_at firm)
      (not-tells (eqb (get_or xs (size - firm * size) 0) 0) (eqb_tells (get_or xs (size - firm * size) 0) 0))

  -- 1, 13, 3 and 2, and what comes after them
  arm-leads : (r : ℕ) (after : ℕ → Type 0)
      → Leads r after (arm_refusal xs firm) (unarmed_then xs firm after)
  unfolding arm_refusal first_of
  arm-leads r after =
      tested r after (ltb (length xs) state_size) 0 _ (ltb-tells (length xs) state_size)
      (tested r after (ltb 1 firm) 12 _ (ltb-tells 1 firm)
      (tested r after (not (eqb (firm_mark xs firm) 0)) 2 _ (not-tells (eqb (firm_mark xs firm) 0) (eqb_tells (firm_mark xs firm) 0))
      (tested r after (not (eqb (get_or xs (size - firm * size) 0) 0) && not (is_sound_memory xs)) 1 0
      (and-tells (not (eqb (get_or xs (size - firm * size) 0) 0)) (not (is_sound_memory xs)) other-tells (unsound-tells xs)) (ends r after))))

  -- the name beside which a text is read
  abbrev other_seat : Seat
  other_seat = (facing (firm_of firm) (decode_seats xs)).second

  abbrev other_part : List ℕ
  other_part = seat_part (1 - firm) xs

  module _ (a : Armable xs firm) where
    unnamed : firm_mark xs (1 - firm) ≡ 0 → name_of other_seat ≡ 0
    unnamed m = ap name_of (sym (other-decoded xs firm a.known)) ∙ sym (no_name other_part (part-mark xs (1 - firm) ∙ m))

    pub named : (firm_mark xs (1 - firm) ≡ 0 → ⊥) → name_of other_seat ≡ (decode other_part).part.profile.firm
    unfolding decode_seat name_of
    named m =
        ap name_of (sym (other-decoded xs firm a.known))
        ∙ rw (ne_eqb (get_or other_part 0 0) 0 (λ z. m (sym (part-mark xs (1 - firm)) ∙ z)))

    pub other-ready : (firm_mark xs (1 - firm) ≡ 0 → ⊥) → Ready xs (1 - firm)
    other-ready m =
        let sound = a.beside (λ z. m (ap (λ (i : ℕ). get_or xs i 0) (sym (other_at firm)) ∙ z)) in
        ready-is xs (1 - firm) (sym (sound-is xs (1 - firm) a.long (omega arith) m sound))

    held-name : (firm_mark xs (1 - firm) ≡ 0 → ⊥) → (name : ℕ)
        → ((decode other_part).part.profile.firm ≡ name) ↔ HoldingFirm xs (1 - firm) (λ places s. s.part.profile.firm ≡ name)
    held-name m name = on-held xs (1 - firm) (other-ready m) (λ places s. s.part.profile.firm ≡ name)

    pub other_name : (name : ℕ) → (name_of other_seat ≡ name) ↔ OtherName xs firm name
    other_name name = go (eqb (firm_mark xs (1 - firm)) 0) refl
      where
        go : (b : Bool) → eqb (firm_mark xs (1 - firm)) 0 ≡ b → (name_of other_seat ≡ name) ↔ OtherName xs firm name
        go true e = let m = eqb-true (firm_mark xs (1 - firm)) 0 e in (
          λ h. inl (m, sym h ∙ unnamed m),
          ⊎_elim (λ h. unnamed m ∙ sym h.1) (λ h. absurd (h.0 m)),
        )
        go false e = let m = eqb-false (firm_mark xs (1 - firm)) 0 e in (
          λ h. inr (m, (held-name m name).0 (sym (named m) ∙ h)),
          ⊎_elim (λ h. absurd (m h.0)) (λ h. named m ∙ (held-name m name).1 h.1),
        )

  -- ---- a text

  module _ (text : List ℕ) where
    abbrev name : ℕ
    name = name_of other_seat

    abbrev start : Profile
    start = start_beside name text

    -- the number that comes without a line
    abbrev pub wrongly : ℕ
    wrongly = cond (not (is_in (1 to 65_536) (length text))) 5 0

    abbrev pub early : ℕ
    early = or_else (arm_refusal xs firm) wrongly

    pub early-gives : Gives early (firm_arm_refusals xs firm text)
    early-gives =
        arm-leads wrongly (5 when Unsized text else none)
        (λ e n. Iff.trans (λ p. or-zero wrongly ∙ p, λ p. sym (or-zero wrongly) ∙ p)
        (tested 0 none (not (is_in (1 to 65_536) (length text))) 4 0 (size-tells text) (ends 0 none) (λ z. none-gives) n))

    pub given-answer : arm_refusal xs firm ≡ 0 → arm_answer xs firm text ≡ reading_of (outcome_from start text)
    unfolding arm_answer given_to outcome_beside
    given-answer e = rw e

    -- no such number: the memory and the size of the text are as they should be
    pub early-free : early ≡ 0 → (arm_refusal xs firm ≡ 0) × Sized text
    unfolding or_else
    early-free e = go (arm_refusal xs firm) (is_in (1 to 65_536) (length text)) refl refl e
      where
        go : (n : ℕ) (b : Bool) → arm_refusal xs firm ≡ n → is_in (1 to 65_536) (length text) ≡ b → or_else n (cond (not b) 5 0) ≡ 0
            → (arm_refusal xs firm ≡ 0) × Sized text
        go (suc n) b f g z = absurd (omega arith)
        go zero false f g z = absurd (omega arith)
        go zero true f g z = (
          f,
          (
            leb-true 1 (length text) (and_l (leb 1 (length text)) (leb (length text) 65_536) g),
            leb-true (length text) 65_536 (and_r (leb 1 (length text)) (leb (length text) 65_536) g),
          ),
        )

    free-early : arm_refusal xs firm ≡ 0 → Sized text → early ≡ 0
    unfolding or_else
    free-early e s =
        ap (λ (n : ℕ). or_else n wrongly) e
        ∙ ap (λ (b : Bool). cond (not b) 5 0) (and_i (le-leb 1 (length text) s.0) (le-leb (length text) 65_536 s.1))

    -- what a text comes to
    data Comes : Type 0 where
      stopped : (k : ℕ) → early ≡ suc k → arm_answer xs firm text ≡ NotRead (suc k) 0 → Comes
      faulty : (k line : ℕ) → early ≡ 0 → FirstFault start text (suc k) (suc line) → arm_answer xs firm text ≡ NotRead (suc k) (suc line) → Comes
      fine : early ≡ 0 → Faultless start (lines text) → arm_row (arm_answer xs firm text) ≡ accepted_row (profile_of start (lines text)) → Comes

    faulty-answer : early ≡ 0 → (k line : ℕ) → FirstFault start text (suc k) line → arm_answer xs firm text ≡ NotRead (suc k) line
    unfolding reading_of
    faulty-answer z k line f =
        let free = early-free z in
        given-answer free.0 ∙ (ap reading_of (faulty-is start text free.1 k line f) ∙ rw (ne_eqb (suc k) 0 (λ e. omega arith)))

    fine-answer : early ≡ 0 → Faultless start (lines text) → arm_row (arm_answer xs firm text) ≡ accepted_row (profile_of start (lines text))
    unfolding reading_of arm_row
    fine-answer z f =
        let free = early-free z in
        ap arm_row (given-answer free.0 ∙ ap reading_of (fine-is start text free.1 f))

    comes : Comes
    unfolding or_else reading_of
    comes = go (arm_refusal xs firm) refl (text-comes start text)
      where
        go : (n : ℕ) → arm_refusal xs firm ≡ n → TextComes start text → Comes
        go (suc k) e read = stopped k (ap (λ (n : ℕ). or_else n wrongly) e) (sym (arm-refused xs firm text (suc k) (sym e) (λ z. omega arith)).0)
        go zero e (wrong_size u) =
            stopped 4 (ap (λ (n : ℕ). or_else n wrongly) e ∙ ap (λ (b : Bool). cond b 5 0) ((size-tells text).1 u))
            (given-answer e ∙ ap reading_of (unsized-is start text u))
        go zero e (wrong_line k line s least f) = let z = free-early e s in faulty k line z f (faulty-answer z k (suc line) f)
        go zero e (all_read s f) = let z = free-early e s in fine z f (fine-answer z f)

    -- what is accepted is read from the firm of its first line
    start-named : early ≡ 0 → Faultless start (lines text) → start ≡ start_in text
    unfolding outcome_beside firm_beside
    start-named z f =
        let ok : (outcome_beside name text).refusal ≡ 0 = ap (λ (o : Outcome). o.refusal) (fine-is start text (early-free z).1 f) in
        ap start_of (rw (ne_eqb (firm_in (get_or (lines text) 0 [])) name (accepted-differs text name ok)))

    beside-this : (P : ℕ → Type 0) → early ≡ 0 → P name ↔ Beside xs firm P
    beside-this P z =
        let names = other_name (armable xs firm (early-free z).0) in (
          λ p. (name, ((names name).0 refl, p)),
          λ h. subst⁻¹ P ((names h.0).1 h.1.0) h.1.1,
        )

    -- the numbers of a row
    first-is : {a b : List ℕ} → a ≡ b → get_or a 0 0 ≡ get_or b 0 0
    first-is e = ap (λ (row : List ℕ). get_or row 0 0) e

    line-is : {a b : List ℕ} → a ≡ b → get_or a 1 0 ≡ get_or b 1 0
    line-is e = ap (λ (row : List ℕ). get_or row 1 0) e

    -- EACH REFUSAL OF ARMING A FIRM, in the order in which it looks
    pub firm-arm-refusals : FirmArmRefusals xs firm text
    unfolding arm_row
    firm-arm-refusals = record {
      refused = λ n. Iff.trans (λ e. stopped_by n comes e, λ e. by-stopped n comes e) (early-gives (suc n));
      faulty =
          λ n line. (
            λ e. for-line n line comes e,
            λ h. let z = (early-gives 0).1 h.0 in
                ap arm_row (faulty-answer z n (suc line) ((beside-this (λ other. FirstFault (start_beside other text) text (suc n) (suc line)) z).1 h.1)),
          );
      accepted = (
        λ e. for-all comes e,
        λ h. let z = (early-gives 0).1 h.0 in
            let f = (beside-this (λ other. Faultless (start_beside other text) (lines text)) z).1 h.1 in
            fine-answer z f ∙ ap (λ (p : Profile). accepted_row (profile_of p (lines text))) (start-named z f),
      );
    }
      where
        stopped_by : (n : ℕ) → Comes → arm_row (arm_answer xs firm text) ≡ refusal_row (suc n) → early ≡ suc n
        stopped_by n (stopped k z a) e = z ∙ first-is (sym (ap arm_row a) ∙ e)
        stopped_by n (faulty k line z f a) e = absurd (omega (arith, line-is (sym (ap arm_row a) ∙ e)))
        stopped_by n (fine z f a) e = absurd (omega (arith, first-is (sym a ∙ e)))

        by-stopped : (n : ℕ) → Comes → early ≡ suc n → arm_row (arm_answer xs firm text) ≡ refusal_row (suc n)
        by-stopped n (stopped k z a) e = ap arm_row a ∙ ap refusal_row (sym z ∙ e)
        by-stopped n (faulty k line z f a) e = absurd (omega (arith, sym z ∙ e))
        by-stopped n (fine z f a) e = absurd (omega (arith, sym z ∙ e))

        for-line : (n line : ℕ) → Comes → arm_row (arm_answer xs firm text) ≡ suc n ∷ suc line ∷ 0 ∷ 0 ∷ 0 ∷ []
            → firm_arm_refusals xs firm text 0 × Beside xs firm (λ other. FirstFault (start_beside other text) text (suc n) (suc line))
        for-line n line (stopped k z a) e = absurd (omega (arith, line-is (sym (ap arm_row a) ∙ e)))
        for-line n line (faulty k place z f a) e =
            let same : suc k ≡ suc n = first-is (sym (ap arm_row a) ∙ e) in
            let at : suc place ≡ suc line = line-is (sym (ap arm_row a) ∙ e) in (
              (early-gives 0).0 z,
              (beside-this (λ other. FirstFault (start_beside other text) text (suc n) (suc line)) z).0
                  (subst (λ (m : ℕ). FirstFault start text m (suc line)) same (subst (FirstFault start text (suc k)) at f)),
            )
        for-line n line (fine z f a) e = absurd (omega (arith, first-is (sym a ∙ e)))

        for-all : Comes → arm_row (arm_answer xs firm text) ≡ accepted_row (profile_of (start_in text) (lines text))
            → firm_arm_refusals xs firm text 0 × Beside xs firm (λ other. Faultless (start_beside other text) (lines text))
        for-all (stopped k z a) e = absurd (omega (arith, first-is (sym (ap arm_row a) ∙ e)))
        for-all (faulty k line z f a) e = absurd (omega (arith, first-is (sym (ap arm_row a) ∙ e)))
        for-all (fine z f a) e = ((early-gives 0).0 z, (beside-this (λ other. Faultless (start_beside other text) (lines text)) z).0 f)
