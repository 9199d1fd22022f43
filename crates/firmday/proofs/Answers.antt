-- What concerns a firm is answered the same on two memories on which its seat is alike, but for three exceptions. Assumes nothing.
use Prim.Native.Nat.{ℕ}
use mathlib.Core.Path.{◌≡◌, refl, sym, ap, ◌∙◌, subst, subst⁻¹}
use mathlib.Core.Logic.{◌⊎◌, inl, inr}
use mathlib.Core.Bool.{Bool, true, false, cond, ◌&&◌}
use mathlib.Core.List.{List}
use lib.Dec.{eqb}
use borrow.Author.Tests.{eqb-true, le-ltb}
use Rattle.machine.specs.Answer.{Answer}
use Rattle.machine.specs.State.{Profile, State, armed}
use Rattle.machine.specs.Calls.{Call}
use Rattle.machine.specs.Refusals.{first_of}
use Rattle.machine.specs.Step.{after}
use Rattle.machine.specs.Judge.{Judgement, judge}
use Rattle.profile.specs.Profile.{reading_of, outcome_of}
use Rattle.profile.specs.Reading.{Reading}
use Rattle.profile.proofs.Beside.{beside-other}
use Rattle.std.specs.Prelude.{Result}
use Rattle.std.specs.declared.result.Result.TheVariants.{Ok, Err}
use Rattle.firms.specs.Seats.{Seat, empty, taken, seat_of, room_beside}
use Rattle.firms.specs.Doings.{arm as arming, Reply, refused, done, answered, is_taken, name_of, Beside, beside_of, arm_refusal, armed_by, stays, call_at, called_by, clear_at, at_seat}
use Rattle.firms.proofs.Seats.{same-firm, AlikeSeat}
use Rattle.firms.proofs.Told.{Crowded, by-room, less-room}
use Rattle.seats.specs.Memory.{decode_seats, answer_in, firm_answer, arm_answer, clear_firm_answer, clear_all_answer}
use Rattle.firmday.specs.Day.{Asking, arm, call, clear, clear_all, number_of, read_reply, clear_reply}
use Rattle.firmday.specs.Isolated.{concerns, read, judged, cleared, answer_on, beside_in, OtherNamed, NoneArmed, OtherAbove, ToldOfOther}
use Rattle.firmday.proofs.Texts.{own-seven, Alike, Named, by_name}
use Rattle.firmday.proofs.Follows.{Lent}
use Rattle.firmday.proofs.Moments.{arm-empty, arm-taken, call-alike, clear-alike, arm-alike, next_by}

clearing_in : Reply → Result (Unit {0}) ℕ
clearing_in done = Ok tt
clearing_in (refused n) = Err n
clearing_in (answered a) = Ok tt

clearing-back : (c : Result (Unit {0}) ℕ) → clearing_in (clear_reply c) ≡ c
unfolding clear_reply clearing_in
clearing-back (Ok tt) = refl
clearing-back (Err n) = refl

-- the seat that an answer to arming leaves of an empty one
armed_in : Reply → Profile → Seat
armed_in done p = taken (armed p)
armed_in (refused n) p = empty
armed_in (answered a) p = empty

armed-in : (beside : Beside) (p : Profile) → (at_seat beside empty (arming p)).seat ≡ armed_in (at_seat beside empty (arming p)).reply p
unfolding at_seat arm_refusal first_of armed_by stays is_taken armed_in
armed-in beside p = go (beside.armed && eqb p.firm beside.name)
  where
    go : (b : Bool) → (armed_by (cond b 7 0) empty p).seat ≡ armed_in (armed_by (cond b 7 0) empty p).reply p
    go true = refl
    go false = refl

empty-alike : {y : Seat} → AlikeSeat y empty → y ≡ empty
unfolding AlikeSeat
empty-alike {y} i = go y i
  where
    go : (y : Seat) → AlikeSeat y empty → y ≡ empty
    go empty i = refl
    go (taken s) i = absurd i

taken-alike : (y : Seat) (s : State) → AlikeSeat y (taken s) → (r : State) × (y ≡ taken r)
unfolding AlikeSeat
taken-alike empty s i = absurd i
taken-alike (taken r) s i = (r, refl)

not_taken : (y : Seat) → is_taken y ≡ false → y ≡ empty
unfolding is_taken
not_taken empty e = refl
not_taken (taken s) e = absurd (subst (λ (b : Bool). cond b Unit ⊥) e tt)

module _ (firm : Bool) (xs ys : List ℕ) (l : Lent xs) (k : Lent ys) (x : Seat)
    (i : AlikeSeat (seat_of firm (decode_seats xs)) x) (j : AlikeSeat (seat_of firm (decode_seats ys)) x) where
  abbrev bx : Beside
  bx = beside_of (beside_in firm xs)

  abbrev by' : Beside
  by' = beside_of (beside_in firm ys)

  abbrev Goes : Asking → Type 0
  Goes a =
      ((answer_on xs a ≡ answer_on ys a) × (next_by bx x a ≡ next_by by' x a))
      ⊎ (ToldOfOther firm xs ys a ⊎ ToldOfOther firm ys xs a)

  abbrev n : ℕ
  n = number_of firm

  call_step : (c : Call) → Goes (call firm c)
  unfolding answer_on next_by ToldOfOther at_seat call_at called_by beside_of answer_in
  call_step c = go x (call-alike xs l firm x i c) (call-alike ys k firm x j c)
    where
      rx : ℕ
      rx = room_beside (beside_in firm xs)

      ry : ℕ
      ry = room_beside (beside_in firm ys)

      told : {a b : Answer} → answered a ≡ answered b → a ≡ b
      told e = ap answer_in e

      crowded : (vs ws : List ℕ) (s : State) → answered (firm_answer vs n c) ≡ answered (judge (room_beside (beside_in firm vs)) s c).answer
          → answered (firm_answer ws n c) ≡ answered (judge (room_beside (beside_in firm ws)) s c).answer
          → Crowded (room_beside (beside_in firm vs)) (room_beside (beside_in firm ws)) s c → OtherAbove firm vs ws c
      crowded vs ws s e f w =
          let uses = less-room (beside_in firm vs) (beside_in firm ws) w.less in
          record { told = told (e ∙ ap answered w.full); above = uses.0; less = uses.1; never = λ z. w.free (told (sym f ∙ ap answered z)) }

      go : (x : Seat) → answered (firm_answer xs n c) ≡ (call_at rx x c).reply → answered (firm_answer ys n c) ≡ (call_at ry x c).reply
          → ((judged (firm_answer xs n c) ≡ judged (firm_answer ys n c)) × ((call_at rx x c).seat ≡ (call_at ry x c).seat))
          ⊎ (OtherAbove firm xs ys c ⊎ OtherAbove firm ys xs c)
      go empty e f = inl (ap judged (told (e ∙ sym f)), refl)
      go (taken s) e f = by-places (by-room s c rx ry)
        where
          by-places : (judge rx s c ≡ judge ry s c) ⊎ (Crowded rx ry s c ⊎ Crowded ry rx s c)
              → ((judged (firm_answer xs n c) ≡ judged (firm_answer ys n c)) × ((call_at rx (taken s) c).seat ≡ (call_at ry (taken s) c).seat))
              ⊎ (OtherAbove firm xs ys c ⊎ OtherAbove firm ys xs c)
          by-places (inl same) =
              inl (ap judged (told (e ∙ (ap (λ (w : Judgement). answered w.answer) same ∙ sym f))), ap (λ (w : Judgement). taken (after w.deed s)) same)
          by-places (inr (inl w)) = inr (inl (crowded xs ys s e f w))
          by-places (inr (inr w)) = inr (inr (crowded ys xs s f e w))

  clear_step : Goes (clear firm)
  unfolding answer_on next_by ToldOfOther at_seat clear_at stays beside_of clearing_in
  clear_step = go x i j (clear-alike xs l firm x i) (clear-alike ys k firm x j)
    where
      told : {a b : Result (Unit {0}) ℕ} → clear_reply a ≡ clear_reply b → a ≡ b
      told {a} {b} e = sym (clearing-back a) ∙ (ap clearing_in e ∙ clearing-back b)

      is-told : {a : Result (Unit {0}) ℕ} {r : Reply} → clear_reply a ≡ r → a ≡ clearing_in r
      is-told {a} e = sym (clearing-back a) ∙ ap clearing_in e

      Wanted : Bool → Bool → Seat → Type 0
      Wanted a b x =
          ((cleared (clear_firm_answer xs n) ≡ cleared (clear_firm_answer ys n)) × ((clear_at a x).seat ≡ (clear_at b x).seat))
          ⊎ (NoneArmed firm xs ys ⊎ NoneArmed firm ys xs)

      by-other : AlikeSeat (seat_of firm (decode_seats xs)) empty → AlikeSeat (seat_of firm (decode_seats ys)) empty
          → (a b : Bool) → is_taken (beside_in firm xs) ≡ a → is_taken (beside_in firm ys) ≡ b
          → clear_reply (clear_firm_answer xs n) ≡ (clear_at a empty).reply → clear_reply (clear_firm_answer ys n) ≡ (clear_at b empty).reply → Wanted a b empty
      by-other i j true true hx hy e f = inl (ap cleared (told (e ∙ sym f)), refl)
      by-other i j false false hx hy e f = inl (ap cleared (told (e ∙ sym f)), refl)
      by-other i j false true hx hy e f =
          inr (inl (record { told = is-told e; own = (empty-alike i, empty-alike j); none = not_taken _ hx; other = hy; done = is-told f }))
      by-other i j true false hx hy e f =
          inr (inr (record { told = is-told f; own = (empty-alike j, empty-alike i); none = not_taken _ hy; other = hx; done = is-told e }))

      go : (x : Seat) → AlikeSeat (seat_of firm (decode_seats xs)) x → AlikeSeat (seat_of firm (decode_seats ys)) x
          → clear_reply (clear_firm_answer xs n) ≡ (clear_at (is_taken (beside_in firm xs)) x).reply
          → clear_reply (clear_firm_answer ys n) ≡ (clear_at (is_taken (beside_in firm ys)) x).reply
          → Wanted (is_taken (beside_in firm xs)) (is_taken (beside_in firm ys)) x
      go (taken s) i j e f = inl (ap cleared (told (e ∙ sym f)), refl)
      go empty i j e f = by-other i j (is_taken (beside_in firm xs)) (is_taken (beside_in firm ys)) refl refl e f

  all-step : Goes clear_all
  unfolding answer_on next_by clear_all_answer
  all-step = inl (rw (le-ltb _ _ l.long, le-ltb _ _ k.long) refl, refl)

  module _ (text : List ℕ) where
    abbrev p : Profile
    p = (outcome_of text).profile

    abbrev fine : Bool
    fine = eqb (outcome_of text).refusal 0

    abbrev Wanted : Seat → Type 0
    Wanted x =
        ((read (arm_answer xs n text) ≡ read (arm_answer ys n text))
        × (cond fine (at_seat bx x (arming p)).seat x ≡ cond fine (at_seat by' x (arming p)).seat x))
        ⊎ (OtherNamed firm xs ys text ⊎ OtherNamed firm ys xs text)

    -- the seat that an empty one becomes is told by the answer
    next-is : (vs : List ℕ) → Lent vs → AlikeSeat (seat_of firm (decode_seats vs)) empty
        → cond fine (at_seat (beside_of (beside_in firm vs)) empty (arming p)).seat empty ≡ cond fine (armed_in (read_reply (arm_answer vs n text)) p) empty
    next-is vs lv iv = go fine refl
      where
        go : (b : Bool) → eqb (outcome_of text).refusal 0 ≡ b
            → cond b (at_seat (beside_of (beside_in firm vs)) empty (arming p)).seat empty ≡ cond b (armed_in (read_reply (arm_answer vs n text)) p) empty
        go true e =
            armed-in (beside_of (beside_in firm vs)) p ∙ ap (λ (r : Reply). armed_in r p) (sym (arm-alike vs lv firm empty iv text (eqb-true _ _ e)))
        go false e = refl

    named : (vs ws : List ℕ) → Lent vs → Lent ws → AlikeSeat (seat_of firm (decode_seats vs)) empty → AlikeSeat (seat_of firm (decode_seats ws)) empty
        → Named text (name_of (beside_in firm vs)) (name_of (beside_in firm ws)) → OtherNamed firm vs ws text
    named vs ws lv lw iv iw w =
        let own : arm_answer ws n text ≡ reading_of (outcome_of text) =
        arm-empty ws lw firm (empty-alike iw) text ∙ ap reading_of (beside-other text (name_of (beside_in firm ws)) w.differs)
        in
        record {
          told = arm-empty vs lv firm (empty-alike iv) text ∙ w.told;
          same = w.same;
          differs = w.differs;
          itself = own;
          never = λ z. own-seven text (sym own ∙ z);
        }

    empty-step : AlikeSeat (seat_of firm (decode_seats xs)) empty → AlikeSeat (seat_of firm (decode_seats ys)) empty → Wanted empty
    empty-step i j = go (by_name text (name_of (beside_in firm xs)) (name_of (beside_in firm ys)))
      where
        go : Alike text (name_of (beside_in firm xs)) (name_of (beside_in firm ys))
            ⊎ (Named text (name_of (beside_in firm xs)) (name_of (beside_in firm ys)) ⊎ Named text (name_of (beside_in firm ys)) (name_of (beside_in firm xs)))
            → Wanted empty
        go (inl e) =
            let same : arm_answer xs n text ≡ arm_answer ys n text =
            arm-empty xs l firm (empty-alike i) text ∙ (e ∙ sym (arm-empty ys k firm (empty-alike j) text))
            in
            inl (
              ap read same,
              next-is xs l i ∙ (ap (λ (r : Reading). cond fine (armed_in (read_reply r) p) empty) same ∙ sym (next-is ys k j)),
            )
        go (inr (inl w)) = inr (inl (named xs ys l k i j w))
        go (inr (inr w)) = inr (inr (named ys xs k l j i w))

    arm_step : Goes (arm firm text)
    unfolding answer_on next_by ToldOfOther at_seat arm_refusal first_of armed_by stays is_taken
    arm_step = go x i j
      where
        go : (x : Seat) → AlikeSeat (seat_of firm (decode_seats xs)) x → AlikeSeat (seat_of firm (decode_seats ys)) x → Wanted x
        go empty i j = empty-step i j
        go (taken s) i j =
            let a = taken-alike _ s i in
            let b = taken-alike _ s j in
            inl (ap read ((arm-taken xs l firm a.0 a.1 text).0 ∙ sym (arm-taken ys k firm b.0 b.1 text).0), refl)

  -- WHAT CONCERNS A FIRM, ON TWO MEMORIES on which its seat is alike: the same answer and the same seat after, or one of the three exceptions
  pub step : (a : Asking) → concerns firm a ≡ true → Goes a
  unfolding concerns
  step (arm other text) e = subst⁻¹ (λ (g : Bool). Goes (arm g text)) (same-firm firm other e) (arm_step text)
  step (call other c) e = subst⁻¹ (λ (g : Bool). Goes (call g c)) (same-firm firm other e) (call_step c)
  step (clear other) e = subst⁻¹ (λ (g : Bool). Goes (clear g)) (same-firm firm other e) clear_step
  step clear_all e = all-step
