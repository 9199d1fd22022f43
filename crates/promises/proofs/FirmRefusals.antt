-- Each refusal of a firm's calls has its sentence; nothing passes a firm that is not armed, and what passes has rules. Assumes nothing.
use Prim.Native.Nat.{ℕ, zero, suc, ◌*◌, ◌≤◌, ◌<◌}
use native.Mathlib.Omega.{arith}
use mathlib.Core.Path.{◌≡◌, refl, sym, ap, ◌∙◌, subst, subst⁻¹}
use mathlib.Core.Logic.Iff
use mathlib.Core.Logic.{◌↔◌}
use mathlib.Core.Bool.{Bool, true, false, not, cond, false≢true}
use mathlib.Core.List.{List, ◌++◌}
use lib.ListN.{length, get_or, take, drop, take-append-drop}
use lib.Dec.{eqb, ltb}
use borrow.Author.Tests.{le-leb, ne_eqb}
use Rattle.laws.proofs.Tests.{and_i}
use Rattle.machine.specs.State.{State}
use Rattle.machine.specs.Calls.{Call}
use Rattle.machine.specs.Refusals.{first_of, bad_time, used, refusal_of}
use Rattle.machine.specs.Judge.{judged, unless, judge, is_refusal}
use Rattle.machine.specs.Answer.{Refused}
use Rattle.state.specs.State.{size, decode}
use Rattle.state.proofs.Exactly.{made-parts, decode-made}
use Rattle.firms.specs.Seats.{taken, Seats, facing, room_beside}
use Rattle.seats.specs.Memory.{state_size, seat_part, encode_seats, decode_seats, SoundMemory, is_sound_memory, firm_refusal, firm_of, firm_answer, firm_memory, use_in, use_answer}
use Rattle.seats.specs.declared.Using.{Using}
use Rattle.std.specs.declared.result.Result.TheVariants.{Ok, Err}
use Rattle.std.specs.Prelude.{Result}
use Rattle.seats.proofs.Laws.{Tests}
use Rattle.seats.proofs.Exactly.{all-again, exactly}
use Rattle.seats.proofs.Calls.{Ready, ready-is, refused-is, unarmed-is, own-sound, own-taken, firm-answer}
use Rattle.promises.specs.Refusals.{◌when◌else◌, none, BadTime, refusals_of}
use Rattle.promises.specs.FirmRefusals.{firm_mark, HoldsSeats, HoldingFirm, memory_then, firm_refusals, FirmCallRefusals, use_refusals, UseRefusals}
use Rattle.promises.proofs.Tests.{Tells, not-tells, ltb-tells, eqb_tells}
use Rattle.promises.proofs.Gives.{Gives, or_else, or-zero, none-gives, Leads, ends, tested}
use Rattle.promises.proofs.Judged.{time-tells, call-leads}
use Rattle.promises.proofs.Answered.{row_number, none_number}

-- ---- what the memory holds

-- memory that holds sound seats decodes to them
held-seats : (u : Seats) (xs : List ℕ) → HoldsSeats u xs → decode_seats xs ≡ u
unfolding encode_seats
held-seats u xs h =
    ap decode_seats (sym (take-append-drop state_size xs) ∙ ap (λ (l : List ℕ). l ++ drop state_size xs) h.1)
    ∙ all-again u h.0.first h.0.second (drop state_size xs)

passes : (xs : List ℕ) → Tests xs → is_sound_memory xs ≡ true
unfolding is_sound_memory
passes xs t = and_i (and_i (and_i (le-leb state_size (length xs) t.long) t.first) t.second) t.fit

taken-same : {s t : State} → taken s ≡ taken t → s ≡ t
taken-same e = cc

pub unsound-tells : (xs : List ℕ) → Tells (not (is_sound_memory xs)) (SoundMemory xs → ⊥)
unsound-tells xs = not-tells (is_sound_memory xs) (Iff.symm (exactly xs))

module _ (xs : List ℕ) (firm : ℕ) where
  -- the firm's state, and the places that the other leaves it
  abbrev pub own_state : State
  own_state = decode (seat_part firm xs)

  abbrev pub places_left : ℕ
  places_left = room_beside (facing (firm_of firm) (decode_seats xs)).second

  -- a property of the places and the state of a firm whose calls meet no refusal by the memory
  pub on-held : Ready xs firm → (P : ℕ → State → Type 0) → P places_left own_state ↔ HoldingFirm xs firm P
  unfolding SoundMemory
  on-held r P = (to, from)
    where
      to : P places_left own_state → HoldingFirm xs firm P
      to p =
          let h = (exactly xs).1 (passes xs r.tests) in
          let holds : HoldsSeats h.0 xs = (h.1.0, h.1.1.1) in
          let same = held-seats h.0 xs holds in
          record {
            seats = h.0;
            holds = holds;
            own = own_state;
            seated = ap (λ (u : Seats). (facing (firm_of firm) u).first) (sym same) ∙ own-taken xs firm r;
            so = subst (λ (u : Seats). P (room_beside (facing (firm_of firm) u).second) own_state) same p;
          }

      from : HoldingFirm xs firm P → P places_left own_state
      from g =
          let same = held-seats g.seats xs g.holds in
          let own : own_state ≡ g.own = taken-same (sym (own-taken xs firm r) ∙ (ap (λ (u : Seats). (facing (firm_of firm) u).first) same ∙ g.seated)) in
          subst⁻¹ (λ (u : Seats). P (room_beside (facing (firm_of firm) u).second) own_state) same
          (subst⁻¹ (P (room_beside (facing (firm_of firm) g.seats).second)) own g.so)

  -- 1, 13, 4 and 2, and what comes after them
  memory-leads : (r : ℕ) (after : ℕ → Type 0) → Leads r after (firm_refusal xs firm) (memory_then xs firm after)
  unfolding firm_refusal first_of
  memory-leads r after =
      tested r after (ltb (length xs) state_size) 0 _ (ltb-tells (length xs) state_size)
      (tested r after (ltb 1 firm) 12 _ (ltb-tells 1 firm)
      (tested r after (eqb (firm_mark xs firm) 0) 3 _ (eqb_tells (firm_mark xs firm) 0)
      (tested r after (not (is_sound_memory xs)) 1 0 (unsound-tells xs) (ends r after))))

  module _ (call : Call) where
    -- the number that the machine gives, and the call's: that of memory and firm, or else the machine's
    abbrev machine : ℕ
    machine = refusal_of places_left own_state call

    abbrev number : ℕ
    number = or_else (firm_refusal xs firm) machine

    answer-number : firm_answer xs firm call ≡ (unless number (judged own_state call)).answer
    unfolding or_else unless judge
    answer-number = go (firm_refusal xs firm) refl
      where
        go : (n : ℕ) → firm_refusal xs firm ≡ n → firm_answer xs firm call ≡ (unless (or_else n machine) (judged own_state call)).answer
        go zero e = firm-answer xs firm (ready-is xs firm e) call
        go (suc n) e = sym (refused-is xs firm (suc n) (sym e) (λ z. omega arith) call).0

    held_gives : firm_refusal xs firm ≡ 0 → Gives machine (λ n. HoldingFirm xs firm (λ places s. refusals_of places s call none n))
    held_gives e n =
        Iff.trans (λ p. or-zero machine ∙ p, λ p. sym (or-zero machine) ∙ p)
        (Iff.trans (call-leads places_left 0 none own_state call (λ z. none-gives) n)
        (on-held (ready-is xs firm e) (λ places s. refusals_of places s call none n)))

    number-gives : Gives number (firm_refusals xs firm call)
    number-gives = memory-leads machine (λ n. HoldingFirm xs firm (λ places s. refusals_of places s call none n)) held_gives

    -- EACH REFUSAL OF A FIRM'S CALL, in the order in which it looks
    pub firm-call-refusals : FirmCallRefusals xs firm call
    firm-call-refusals = record {
      refused = λ n. Iff.trans (row_number own_state call number (firm_answer xs firm call) answer-number n) (number-gives (suc n));
      accepted = Iff.trans (none_number own_state call number (firm_answer xs firm call) answer-number) (number-gives 0);
    }

    -- NOTHING PASSES A FIRM THAT IS NOT ARMED: its calls are refused with 4 and change nothing, whatever else the memory holds
    pub unarmed-firm-refuses : state_size ≤ length xs → firm ≤ 1 → firm_mark xs firm ≡ 0
        → (firm_answer xs firm call ≡ Refused 4) × (firm_memory xs firm call ≡ xs)
    unarmed-firm-refuses long known mark =
        let r = refused-is xs firm 4 (unarmed-is xs firm long known mark) (λ z. omega arith) call in (sym r.0, sym r.1)

    -- WHAT PASSES HAS RULES: memory that answers a firm's call anything else than a refusal holds at least one rule for it
    pub armed-firm-has-rules : is_refusal (firm_answer xs firm call) ≡ false → HoldingFirm xs firm (λ places s. 0 < length s.part.profile.rules)
    unfolding is_refusal
    armed-firm-has-rules answered = go (firm_refusal xs firm) refl
      where
        go : (n : ℕ) → firm_refusal xs firm ≡ n → HoldingFirm xs firm (λ places s. 0 < length s.part.profile.rules)
        go zero e =
            let r = ready-is xs firm e in
            (on-held r (λ places s. 0 < length s.part.profile.rules)).0
            (made-parts own_state.part.profile (decode-made (seat_part firm xs) (own-sound xs firm r))).some
        go (suc n) e = absurd (false≢true (sym answered ∙ ap is_refusal (sym (refused-is xs firm (suc n) (sym e) (λ z. omega arith) call).0)))

  -- ---- a question for the use

  module _ (time : ℕ) where
    abbrev late : ℕ
    late = cond (bad_time own_state.part time) 12 0

    abbrev use_number : ℕ
    use_number = or_else (firm_refusal xs firm) late

    use-gives : Gives use_number (use_refusals xs firm time)
    use-gives =
        memory-leads late (λ n. HoldingFirm xs firm (λ places s. (12 when BadTime s time else none) n))
        (λ e n. Iff.trans (λ p. or-zero late ∙ p, λ p. sym (or-zero late) ∙ p)
        (Iff.trans (tested 0 none (bad_time own_state.part time) 11 0 (time-tells own_state time) (ends 0 none) (λ z. none-gives) n)
        (on-held (ready-is xs firm e) (λ places s. (12 when BadTime s time else none) n))))

    -- the answer by that number
    use_by : ℕ → Result Using ℕ
    use_by zero = Ok (record { used = used own_state time; places = places_left })
    use_by (suc n) = Err (suc n)

    use-number : use_answer xs firm time ≡ use_by use_number
    unfolding use_answer use_in or_else use_by
    use-number = go (firm_refusal xs firm) (bad_time own_state.part time)
      where
        go : (n : ℕ) (b : Bool)
            → cond (eqb n 0) (cond b (Err 12) (Ok (record { used = used own_state time; places = places_left }))) (Err n) ≡ use_by (or_else n (cond b 12 0))
        go zero true = refl
        go zero false = refl
        go (suc n) b = rw (ne_eqb (suc n) 0 (λ z. omega arith))

    use-free : use_number ≡ 0 → firm_refusal xs firm ≡ 0
    unfolding or_else
    use-free e = go (firm_refusal xs firm) e
      where
        go : (n : ℕ) → or_else n late ≡ 0 → n ≡ 0
        go zero e = refl
        go (suc n) e = absurd (omega arith)

    -- EACH REFUSAL OF A QUESTION FOR THE USE, and what it tells
    pub use-refusals : UseRefusals xs firm time
    unfolding use_by
    use-refusals = record {
      refused = λ n. Iff.trans (λ e. to n use_number (sym use-number ∙ e), λ e. use-number ∙ ap use_by e) (use-gives (suc n));
      told =
          λ h. let z = (use-gives 0).1 h in
          (on-held (ready-is xs firm (use-free z)) (λ places s. use_answer xs firm time ≡ Ok (record { used = used s time; places = places }))).0 (use-number ∙ ap use_by z);
    }
      where
        to : (n k : ℕ) → use_by k ≡ Err (suc n) → k ≡ suc n
        to n zero e = cc
        to n (suc k) e = cc
