-- What 7 says beside the other: its name is read as none, so line 1 has 7 after its 6 and before its 8 to 11. Assumes nothing.
use Prim.Native.Nat.{ℕ, ◌*◌, ◌-◌}
use mathlib.Core.Path.{◌≡◌, refl, sym, ap, ◌∙◌}
use mathlib.Core.Logic.{◌⊎◌, inl, inr}
use mathlib.Core.Bool.{Bool, true, false, cond, false≢true}
use mathlib.Core.List.{List, [], ◌∷◌}
use lib.ListN.{length, get_or}
use lib.Dec.{eqb, leb}
use borrow.Author.Tests.{eqb-true, ne_eqb, le-leb}
use Rattle.laws.proofs.Tests.{and_i}
use Rattle.text.specs.Text.{lines, made}
use Rattle.text.proofs.Lists.{line-here}
use Rattle.line.specs.Line.{firm_in, malformed}
use Rattle.machine.specs.State.{Profile}
use Rattle.profile.specs.Profile.{Outcome, start_of, reading_of, firm_beside, outcome_beside}
use Rattle.profile.specs.Reading.{Refused as NotRead}
use Rattle.profile.proofs.Beside.{beside_same}
use Rattle.given.specs.Names.{digits_up_to, name_bytes, is_name_number}
use Rattle.state.specs.State.{size, decode}
use Rattle.state.proofs.Exactly.{made-parts, decode-made}
use Rattle.firms.specs.Seats.{facing}
use Rattle.firms.specs.Doings.{name_of}
use Rattle.seats.specs.Memory.{seat_part, decode_seats, firm_of, arm_answer}
use Rattle.seats.proofs.Calls.{own-sound}
use Rattle.seats.proofs.Armable.{Armable, armable}
use Rattle.capi.specs.Rows.{arm_row}
use Rattle.promises.specs.Refusals.{first_line, start_in}
use Rattle.promises.specs.FirmRefusals.{firm_mark, OtherName, start_beside, OtherNamed}
use Rattle.promises.proofs.FirmArming.{other-ready, named, other_name, early, early-gives, early-free, given-answer}

-- 0 is no name
name-not-zero : (n : ℕ) → is_name_number 1 4 n ≡ true → n ≡ 0 → ⊥
unfolding is_name_number digits_up_to name_bytes made
name-not-zero n h z = false≢true (rw z at h)

-- a fault in line 1
reading-first : (o : Outcome) (b : Bool) → o.refusal ≡ cond b 6 7 → o.line ≡ 1 → reading_of o ≡ NotRead (cond b 6 7) 1
unfolding reading_of
reading-first o true e f = rw (e, f)
reading-first o false e f = rw (e, f)

module _ (xs : List ℕ) (firm : ℕ) (text : List ℕ) where
  abbrev name : ℕ
  name = name_of (facing (firm_of firm) (decode_seats xs)).second

  -- the other's name is one
  other-some : (a : Armable xs firm) → (firm_mark xs (1 - firm) ≡ 0 → ⊥) → name ≡ 0 → ⊥
  other-some a m z =
      let made = decode-made (seat_part (1 - firm) xs) (own-sound xs (1 - firm) (other-ready xs firm a m)) in
      name-not-zero (decode (seat_part (1 - firm) xs)).part.profile.firm (made-parts (decode (seat_part (1 - firm) xs)).part.profile made).firm
      (sym (named xs firm a m) ∙ z)

  same_answer : early xs firm text ≡ 0 → (firm_mark xs (1 - firm) ≡ 0 → ⊥) → OtherName xs firm (firm_in (first_line text))
      → arm_answer xs firm text ≡ NotRead (cond (malformed (first_line text)) 6 7) 1
  unfolding outcome_beside
  same_answer z m o =
      let free = early-free xs firm text z in
      let a = armable xs firm free.0 in
      let here = line-here text 0 _ free.1.0 refl in
      let long = and_i (le-leb 1 (length text) free.1.0) (le-leb (length text) 65_536 free.1.1) in
      let r = beside_same text name (sym ((other_name xs firm a (firm_in (first_line text))).1 o)) (other-some a m) long _ _ here in
      given-answer xs firm text free.0
      ∙ (reading-first (outcome_beside name text) (malformed _) r.0 r.1
      ∙ ap (λ (line : List ℕ). NotRead (cond (malformed line) 6 7) 1) (sym (ap (λ (ls : List (List ℕ)). get_or ls 0 []) here)))

  pub other-named : OtherNamed xs firm text
  unfolding arm_row firm_beside
  other-named = record {
    another = λ other h. ap start_of (apart other h);
    same = λ free m o. ap arm_row (same_answer ((early-gives xs firm text 0).1 free) m o);
  }
    where
      zero-apart : (b : Bool) → eqb (firm_in (first_line text)) 0 ≡ b → cond b 0 (firm_in (first_line text)) ≡ firm_in (first_line text)
      zero-apart true e = sym (eqb-true (firm_in (first_line text)) 0 e)
      zero-apart false e = refl

      apart : (other : ℕ) → (other ≡ 0) ⊎ (firm_in (first_line text) ≡ other → ⊥) → firm_beside other text ≡ firm_in (first_line text)
      apart other (inl z) = ap (λ (n : ℕ). firm_beside n text) z ∙ zero-apart (eqb (firm_in (first_line text)) 0) refl
      apart other (inr n) = rw (ne_eqb (firm_in (first_line text)) other n)
