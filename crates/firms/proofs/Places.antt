-- 192 places are each firm's own, and no use passes 320, in every history. Assumes nothing.
use Prim.Native.Nat.{ℕ, zero, suc, ◌+◌, ◌-◌, ◌≤◌, ◌<◌, max, zero-le}
use mathlib.Core.Path.{◌≡◌, refl, sym, ap, ◌∙◌, subst⁻¹}
use mathlib.Core.Bool.{Bool, true, false, not, cond, ◌&&◌, false≢true, and-false}
use mathlib.Core.List.{List, [], ◌∷◌}
use lib.Dec.{leb, ltb, eqb}
use borrow.Author.Tests.{leb-false, lt-leb, le-ltb}
use native.Mathlib.Omega.{arith}
use Rattle.rules.specs.Allowance.{All}
use Rattle.rules.specs.Valid.{has_rate}
use Rattle.machine.specs.Answer.{Answer, Refused, Judged, Left, Standing}
use Rattle.machine.specs.declared.Offer.{Offer}
use Rattle.machine.specs.State.{Profile, State, rules_in, armed}
use Rattle.machine.specs.Calls.{Call, order, lockout, offer, remaining, status, send, report, close}
use Rattle.machine.specs.Deeds.{Source, granted, reported}
use Rattle.machine.specs.Register.{fill_of}
use Rattle.machine.specs.Locks.{verdict_of}
use Rattle.machine.specs.Offers.{grant_of}
use Rattle.machine.specs.Refusals.{first_of, used, log_full, no_places, refusal_of}
use Rattle.machine.specs.Step.{part_after, after}
use Rattle.machine.specs.Judge.{Judgement, filled, offered, ordered, sent_away, judged, unless, judge, step_in, is_refusal}
use Rattle.machine.specs.Sound.{SoundIn}
use Rattle.machine.proofs.Places.{use_kept}
use Rattle.firms.specs.Seats.{Seat, empty, taken, Seats, vacant, turned, facing, use_of, own_places, room_beside, left_by}
use Rattle.firms.specs.Doings.{Doing, arm, call, clear, Reply, refused, done, answered, is_taken, name_of, beside_of, stays, arm_refusal, armed_by, called_by, call_at, clear_at, at_seat, outcome_of, after_first, reply_to, after_doing}
use Rattle.firms.specs.Runs.{Asked, of, clear_all, after_asked, seats_after}
use Rattle.firms.specs.Sound.{SoundSeat, SoundSeats, Fair}
use Rattle.firms.proofs.Days.{OfDoing}
use Rattle.firms.proofs.Sound.{left-use, armed-none, sound-facing, GivenBy, doing-sound, vacant-sound}

fair-facing : (firm : Bool) (u : Seats) → Fair u → Fair (facing firm u)
unfolding facing turned
fair-facing false u f = f
fair-facing true u f = record { first = f.second; second = f.first }

module _ (Given : Profile → Type 0) where
  own-fair : (other : Seat) (x : Seat) → SoundSeat Given x → use_of x ≤ 320 → (doing : Doing) → use_of (at_seat (beside_of other) x doing).seat ≤ 320
  unfolding at_seat beside_of arm_refusal armed_by stays call_at called_by clear_at is_taken first_of SoundSeat use_of step_in after part_after room_beside
  own-fair other (taken s) i f (arm p) = f
  own-fair other empty i f (arm p) = armed-by (is_taken other && eqb p.firm (name_of other))
    where
      armed-by : (b : Bool) → use_of (armed_by (cond b 7 0) empty p).seat ≤ 320
      armed-by true = zero-le
      armed-by false = omega (arith, armed-none p)
  own-fair other (taken s) i f (call c) = called i f
    where
      called : SoundIn Given s → use_of (taken s) ≤ 320 → use_of (taken (after (judge (room_beside other) s c).deed s)) ≤ 320
      called i f = use_kept (room_beside other) 320 (omega arith) s i.registered f c
  own-fair other empty i f (call c) = f
  own-fair other (taken s) i f clear = zero
    where
      zero : use_of empty ≤ 320
      zero = zero-le
  own-fair other empty i f clear = cleared (is_taken other)
    where
      cleared : (b : Bool) → use_of (clear_at b empty).seat ≤ 320
      cleared true = zero-le
      cleared false = zero-le

  doing-fair : (firm : Bool) (u : Seats) → SoundSeats Given u → Fair u → (doing : Doing) → Fair (after_doing firm u doing)
  unfolding after_first outcome_of
  doing-fair firm u i f doing =
      let v = facing firm u in
      let g = fair-facing firm u f in
      fair-facing firm (after_first v doing) (record {
        first = own-fair v.second v.first (sound-facing Given firm u i).first g.first doing;
        second = omega (arith, left-use (outcome_of v doing).joined v.second, g.second);
      })

  abbrev pub GivenAsked : Asked → Type 0
  GivenAsked x = OfDoing (GivenBy Given) x

  pub record Reached (u : Seats) : Type 0 where
    pub sound : SoundSeats Given u
    pub fair : Fair u

  vacant-reached : Reached vacant
  unfolding vacant use_of
  vacant-reached = record { sound = vacant-sound Given; fair = record { first = zero-le; second = zero-le } }

  asked-reached : (u : Seats) → Reached u → (x : Asked) → GivenAsked x → Reached (after_asked u x)
  unfolding after_asked OfDoing
  asked-reached u r (of firm doing) given = record {
    sound = doing-sound Given firm u r.sound doing given;
    fair = doing-fair firm u r.sound r.fair doing;
  }
  asked-reached u r clear_all given = vacant-reached

  run-reached : (xs : List Asked) (u : Seats) → Reached u → All GivenAsked xs → Reached (seats_after u xs)
  unfolding seats_after
  run-reached [] u r given = r
  run-reached (x ∷ xs) u r given = run-reached xs (after_asked u x) (asked-reached u r x given.0) given.1

  -- EVERY HISTORY from a state on which no firm is armed: the state is sound, and no use passes 320
  pub reached : (xs : List Asked) → All GivenAsked xs → Reached (seats_after vacant xs)
  reached xs given = run-reached xs vacant vacant-reached given

-- ---- never 15 within 192

-- a call that is not refused is not answered a refusal
offered-never : (s : State) (o : Offer) (verdict : ℕ) → is_refusal (offered s o verdict).answer ≡ false
unfolding offered filled is_refusal
offered-never s o zero = refl
offered-never s o (suc verdict) = refl

sent-never : (o : Offer) (identity reports verdict : ℕ) → is_refusal (sent_away o identity reports verdict).answer ≡ false
unfolding sent_away is_refusal
sent-never o identity reports zero = refl
sent-never o identity reports (suc verdict) = refl

filled-never : (s : State) (source : Source) (o : Offer) (n : ℕ) → is_refusal (filled s source o n).answer ≡ false
unfolding filled is_refusal
filled-never s source o n = refl

pub never-refusal : (s : State) (c : Call) → is_refusal (judged s c).answer ≡ false
unfolding judged ordered is_refusal
never-refusal s (order time root reset) = refl
never-refusal s (lockout time level root) = refl
never-refusal s (offer o) = offered-never s o (verdict_of s.part.locks o.root)
never-refusal s (remaining time rule unit) = refl
never-refusal s status = refl
never-refusal s (send o identity reports) = sent-never o identity reports (verdict_of s.part.locks o.root)
never-refusal s (report time identity n) = filled-never s (reported identity) (fill_of s.part.register time identity n) n
never-refusal s (close time identity) = refl

number_in : Answer → ℕ
number_in (Refused n) = n
number_in (Judged verdict grant roottrip firmtrip) = 0
number_in (Left n) = 0
number_in (Standing roots) = 0

pub told-number : (n : ℕ) (j : Judgement) → is_refusal j.answer ≡ false → (unless n j).answer ≡ Refused 15 → n ≡ 15
unfolding unless is_refusal number_in
told-number zero j never e = absurd (false≢true (sym never ∙ ap is_refusal e))
told-number (suc n) j never e = ap number_in e

not_last : (a b c : Bool) → first_of ((a, 12) ∷ (b, 13) ∷ (c, 14) ∷ (false, 15) ∷ []) ≡ 15 → ⊥
unfolding first_of
not_last true b c e = omega arith
not_last false true c e = omega arith
not_last false false true e = omega arith
not_last false false false e = omega arith

not-last₂ : (a b c d f : Bool) → first_of ((a, 12) ∷ (b, 13) ∷ (c, 14) ∷ (d, 17) ∷ (f, 18) ∷ (false, 15) ∷ []) ≡ 15 → ⊥
unfolding first_of
not-last₂ true b c d f e = omega arith
not-last₂ false true c d f e = omega arith
not-last₂ false false true d f e = omega arith
not-last₂ false false false true f e = omega arith
not-last₂ false false false false true e = omega arith
not-last₂ false false false false false e = omega arith

module _ (room : ℕ) (s : State) (own : own_places ≤ room) where
  room-free : (o : Offer) → used s o.time < own_places → log_full room s o ≡ false
  unfolding log_full
  room-free o few = rw (lt-leb room (used s o.time) (omega (arith, own, few)))
      (and-false (eqb (verdict_of s.part.locks o.root) 0 && ltb 0 (grant_of s.log o s.part.accounts) && has_rate (rules_in s)))

  places-free : (o : Offer) (reports : ℕ) → used s o.time + reports ≤ own_places → no_places room s o reports ≡ false
  unfolding no_places
  places-free o reports few = rw (le-ltb room (used s o.time + reports) (omega (arith, own, few)))
      (and-false (eqb (verdict_of s.part.locks o.root) 0 && has_rate (rules_in s)))

  offer-free : (o : Offer) → used s o.time < own_places → (judge room s (offer o)).answer ≡ Refused 15 → ⊥
  unfolding judge judged refusal_of
  offer-free o few e =
      not_last _ _ _ (rw (room-free o few) at (told-number (refusal_of room s (offer o)) (judged s (offer o)) (never-refusal s (offer o)) e))

  send-free : (o : Offer) (identity reports : ℕ) → used s o.time + reports ≤ own_places → (judge room s (send o identity reports)).answer ≡ Refused 15 → ⊥
  unfolding judge judged refusal_of
  send-free o identity reports few e =
      not-last₂ _ _ _ _ _
      (rw (places-free o reports few) at
      (told-number (refusal_of room s (send o identity reports)) (judged s (send o identity reports)) (never-refusal s (send o identity reports)) e))

-- 192 PLACES ARE EACH FIRM'S OWN: in every history an offer of a firm whose use at its time is below 192, or a sending that stays within 192, is never
-- refused with 15, whatever the other firm uses
pub own-places : (firm : Bool) (u : Seats) → Fair u → (s : State) → (facing firm u).first ≡ taken s → (o : Offer)
    → (used s o.time < own_places → reply_to firm u (call (offer o)) ≡ answered (Refused 15) → ⊥)
    × ((identity reports : ℕ) → used s o.time + reports ≤ own_places → reply_to firm u (call (send o identity reports)) ≡ answered (Refused 15) → ⊥)
unfolding room_beside outcome_of at_seat beside_of call_at called_by
own-places firm u f s is o = (
  λ few e. offer-free room s low o few (told (offer o) e),
  λ identity reports few e. send-free room s low o identity reports few (told (send o identity reports) e),
)
  where
    room : ℕ
    room = room_beside (facing firm u).second

    low : own_places ≤ room
    low = omega (arith, (fair-facing firm u f).second)

    answer_in : Reply → Answer
    answer_in (answered a) = a
    answer_in done = Refused 0
    answer_in (refused n) = Refused 0

    told : (c : Call) → reply_to firm u (call c) ≡ answered (Refused 15) → (judge room s c).answer ≡ Refused 15
    told c e = ap answer_in (sym (ap (λ (x : Seat). (call_at room x c).reply) is ∙ by_call) ∙ e)
      where
        by_call : (call_at room (taken s) c).reply ≡ answered (judge room s c).answer
        by_call = refl
