-- Arming on lent memory follows the state's meaning, leaves a sound state, and tells of the other's name alone. Assumes nothing.
use Prim.Native.Nat.{ℕ, zero, suc, ◌+◌, ◌*◌, ◌-◌, ◌≤◌}
use native.Mathlib.Omega.{arith}
use mathlib.Core.Path.{◌≡◌, refl, sym, ap, ◌∙◌, subst, subst⁻¹}
use mathlib.Core.Logic.{◌⊎◌, inl, inr}
use mathlib.Core.Bool.{Bool, true, false, not, cond, ◌&&◌, ◌||◌, false≢true}
use mathlib.Core.List.{List, [], ◌∷◌}
use lib.ListN.{length, get_or, drop}
use lib.Dec.{eqb, leb}
use borrow.Author.Tests.{eq-eqb, ne_eqb, eqb-true, eqb-false}
use Rattle.machine.specs.State.{Profile, armed}
use Rattle.machine.specs.Refusals.{first_of}
use Rattle.text.specs.Text.{lines, is_name, made}
use Rattle.text.proofs.Numerals.{name-zero}
use Rattle.line.specs.Line.{firm_in, malformed, fault_of, line_of}
use Rattle.std.specs.Prelude.{Ok, Err}
use Rattle.profile.specs.Profile.{Outcome, after_line, read_on, start_of, reading_of, outcome_of, firm_beside, outcome_beside}
use Rattle.profile.specs.Reading.{Refused as NotRead}
use Rattle.profile.specs.Inner.Lawful.{IsNameNumber}
use Rattle.profile.proofs.Laws.{Answer, none, size, fault, answered, accepted-firm, accepted-named}
use Rattle.profile.proofs.Beside.{beside-other, accepted-beside, accepted-other}
use Rattle.given.specs.Given.{is_made}
use Rattle.given.proofs.Given.{given_made}
use Rattle.state.specs.State.{size as part_size}
use Rattle.state.specs.Sound.{Given}
use Rattle.state.proofs.Exactly.{made-given}
use Rattle.firms.specs.Seats.{Seat, empty, taken, Seats, vacant, turned, facing}
use Rattle.firms.specs.Doings.{arm, Reply, done, refused, is_taken, name_of, beside_of, arm_refusal as firm_arm_refusal, armed_by, stays, at_seat, outcome_of as done_for, after_first, reply_to, after_doing}
use Rattle.firms.specs.Sound.{SoundSeats}
use Rattle.firms.proofs.Sound.{GivenBy, doing-sound, vacant-sound}
use Rattle.seats.specs.Memory.{state_size, seat_part, encode_seats, stored_seats, decode_seat, decode_seats, is_sound_memory, firm_of, arm_refusal, given_to, arm_answer, arm_memory}
use Rattle.seats.proofs.Laws.{taken-apart}
use Rattle.seats.proofs.Exactly.{tested-sound, all-again, all_rest, stored-sound}
use Rattle.seats.proofs.Kept.{someone}
use Rattle.seats.proofs.Armable.{Armable, armable, part-mark, other-mark, own-empty, armed-seats}
use Rattle.seats.proofs.Both.{other-decoded}

-- a text that is accepted gives a profile that passes the test of profiles
pub accepted-given : (text : List ℕ) → (outcome_of text).refusal ≡ 0 → Given (outcome_of text).profile
accepted-given text ok =
    made-given (outcome_of text).profile
    (given_made text (outcome_of text).profile (λ i. record { profile = (outcome_of text).profile; refusal = ok i; line = no_line (answered text) i }))
  where
    no_line : {lines : ℕ} → Answer lines (outcome_of text).refusal (outcome_of text).line → (outcome_of text).line ≡ 0
    no_line (none a b) = b
    no_line (size a b) = b
    no_line (fault a b c d) = absurd (omega arith)

module _ (xs : List ℕ) (firm : ℕ) (free : arm_refusal xs firm ≡ 0) where
  a : Armable xs firm
  a = armable xs firm free

  abbrev beside : Seat
  beside = (facing (firm_of firm) (decode_seats xs)).second

  -- the seats from which arming starts are sound, whatever an unmarked seat held
  pub start-sound : SoundSeats Given (decode_seats xs)
  unfolding decode_seat vacant facing turned
  start-sound = go (eqb (get_or xs (part_size - firm * part_size) 0) 0) refl
    where
      both : (f : Bool) (u : Seats) → (facing f u).first ≡ empty → (facing f u).second ≡ empty → u ≡ vacant
      both true u e g = λ i. record { first = g i; second = e i }
      both false u e g = λ i. record { first = e i; second = g i }

      none_beside : get_or xs (part_size - firm * part_size) 0 ≡ 0 → beside ≡ empty
      none_beside z = sym (other-decoded xs firm a.known) ∙ rw (eq-eqb (get_or (seat_part (1 - firm) xs) 0 0) 0 (other-mark xs firm a ∙ z))

      go : (b : Bool) → eqb (get_or xs (part_size - firm * part_size) 0) 0 ≡ b → SoundSeats Given (decode_seats xs)
      go true h = subst⁻¹ (SoundSeats Given) (both (firm_of firm) (decode_seats xs) (own-empty xs firm a) (none_beside (eqb-true _ _ h))) (vacant-sound Given)
      go false h = (tested-sound xs (taken-apart xs (a.beside (eqb-false _ _ h)))).0

  module _ (text : List ℕ) (ok : (given_to xs firm text).refusal ≡ 0) where
    abbrev p : Profile
    p = (given_to xs firm text).profile

    abbrev left : Seats
    left = after_doing (firm_of firm) (decode_seats xs) (arm p)

    differs : p.firm ≡ name_of beside → ⊥
    unfolding given_to
    differs = accepted-other text (name_of beside) ok

    given-it : Given p
    unfolding given_to
    given-it =
        let same = accepted-beside text (name_of beside) ok in
        subst⁻¹ (λ (o : Outcome). Given o.profile) same (accepted-given text (ap (λ (o : Outcome). o.refusal) (sym same) ∙ ok))

    left-sound : SoundSeats Given left
    unfolding GivenBy
    left-sound = doing-sound Given (firm_of firm) (decode_seats xs) start-sound (arm p) given-it

    left-some : (is_taken left.first || is_taken left.second) ≡ true
    unfolding is_taken
    left-some =
        subst⁻¹ (λ (u : Seats). (is_taken (facing (firm_of firm) u).first || is_taken (facing (firm_of firm) u).second) ≡ true)
        (armed-seats (facing (firm_of firm) (decode_seats xs)) (own-empty xs firm a) p differs).0
        (someone (firm_of firm) (taken (armed p)) beside refl)

    left-stored : arm_memory xs firm text ≡ stored_seats left xs
    unfolding arm_memory
    left-stored = rw (free, ok)

    -- ARMING LEAVES A SOUND STATE
    pub arm-kept : is_sound_memory (arm_memory xs firm text) ≡ true
    unfolding stored_seats encode_seats
    arm-kept = ap is_sound_memory left-stored ∙ stored-sound left left-sound.first left-sound.second (drop state_size xs) left-sound left-some

    -- THE MEMORY FOLLOWS THE STATE'S MEANING, and what is past it stays
    pub arm-follows : decode_seats (arm_memory xs firm text) ≡ left
    unfolding stored_seats encode_seats
    arm-follows = ap decode_seats left-stored ∙ all-again left left-sound.first left-sound.second (drop state_size xs)

    pub arm-past : drop state_size (arm_memory xs firm text) ≡ drop state_size xs
    unfolding stored_seats encode_seats
    arm-past = ap (drop state_size) left-stored ∙ all_rest left left-sound.first left-sound.second (drop state_size xs)

    pub arm-replies : reply_to (firm_of firm) (decode_seats xs) (arm p) ≡ done
    arm-replies = (armed-seats (facing (firm_of firm) (decode_seats xs)) (own-empty xs firm a) p differs).1

-- ---- the other's name

-- the number of a name is not 0
pub name-some : {n : ℕ} → IsNameNumber 1 4 n → n ≡ 0 → ⊥
unfolding made
name-some b z = go b.name b.made (name-zero 1 4 b.name b.made (b.number ∙ z))
  where
    go : (name : List ℕ) → is_name 1 4 name ≡ true → name ≡ [] → ⊥
    go name h e = false≢true (rw e at h)
