-- A firm's call on its own seat is its call on the state, where no entry joins the log and the room does not matter. Assumes nothing.
use Prim.Native.Nat.{ℕ, zero, suc, ◌+◌, ◌*◌, ◌-◌, ◌≤◌, ◌<◌}
use native.Mathlib.Omega.{arith}
use native.Mathlib.Nat.{suc-ne-zero}
use mathlib.Core.Path.{◌≡◌, refl, sym, ap, ap₂, ◌∙◌, subst}
use mathlib.Core.Bool.{Bool, true, false, not, cond, ◌&&◌, false≢true}
use mathlib.Core.List.{List, [], ◌∷◌, ◌++◌, append-nil}
use lib.ListN.{length, get_or, take, drop, take-append-drop, drop_of_length-le}
use lib.Seq.{get_or-take, get_or-drop}
use lib.Dec.{eqb, ltb}
use borrow.Author.Tests.{eq-eqb, eqb-true, eqb-false, ne_eqb, ltb-true, ltb-false, lt-ltb, le-ltb, not-true, not-false}
use Rattle.machine.specs.Answer.{Answer, Refused}
use Rattle.machine.specs.State.{State, rules_in}
use Rattle.machine.specs.Calls.{Call, order, lockout, remaining, status, close}
use Rattle.machine.specs.Deeds.{Deed}
use Rattle.machine.specs.Refusals.{first_of, refusal_of}
use Rattle.machine.specs.Step.{after}
use Rattle.machine.specs.Judge.{Judgement, ordered, judged, unless, judge, step_in, step, log_places, is_refusal}
use Rattle.tables.specs.Inner.Tables.{all_zero}
use Rattle.state.specs.State.{size, encode, decode, stored}
use Rattle.state.specs.Sound.{is_sound}
use Rattle.calls.specs.Calls.{is_short, mark_of, memory_refusal, call_answer, call_memory}
use Rattle.firms.specs.Seats.{Seat, empty, taken, Seats, facing, room_beside, left_by}
use Rattle.firms.specs.Doings.{call, Reply, answered, beside_of, joins, Outcome, called_by, call_at, at_seat, outcome_of, after_first, reply_to, after_doing}
use Rattle.seats.specs.Memory.{state_size, seat_part, encode_seat, decode_seat, stored_seats, decode_seats, is_seat, is_sound_memory, firm_refusal, answer_in, firm_of, firm_answer, firm_memory}
use Rattle.seats.proofs.Laws.{Tests, seated, taken-apart, seat-long, seat-at, seat-put}

-- ---- the refusals by the memory and the firm

module _ (xs : List ℕ) (firm : ℕ) where
  pub short-is : length xs < state_size → 1 ≡ firm_refusal xs firm
  unfolding firm_refusal first_of
  short-is h = rw (lt-ltb _ _ h)

  pub firm-is : state_size ≤ length xs → 1 < firm → 13 ≡ firm_refusal xs firm
  unfolding firm_refusal first_of
  firm-is l h = rw (le-ltb _ _ l, lt-ltb _ _ h)

  pub unarmed-is : state_size ≤ length xs → firm ≤ 1 → get_or xs (firm * size) 0 ≡ 0 → 4 ≡ firm_refusal xs firm
  unfolding firm_refusal first_of
  unarmed-is l f h = rw (le-ltb _ _ l, le-ltb _ _ f, eq-eqb _ _ h)

  pub unsound-is : state_size ≤ length xs → firm ≤ 1 → (get_or xs (firm * size) 0 ≡ 0 → ⊥) → is_sound_memory xs ≡ false → 2 ≡ firm_refusal xs firm
  unfolding firm_refusal first_of
  unsound-is l f m h = rw (le-ltb _ _ l, le-ltb _ _ f, ne_eqb _ _ m, h)

  pub sound-is : state_size ≤ length xs → firm ≤ 1 → (get_or xs (firm * size) 0 ≡ 0 → ⊥) → is_sound_memory xs ≡ true → 0 ≡ firm_refusal xs firm
  unfolding firm_refusal first_of
  sound-is l f m h = rw (le-ltb _ _ l, le-ltb _ _ f, ne_eqb _ _ m, h)

  -- a call that is refused so
  pub refused-is : (n : ℕ) → n ≡ firm_refusal xs firm → (n ≡ 0 → ⊥) → (c : Call) → (Refused n ≡ firm_answer xs firm c) × (xs ≡ firm_memory xs firm c)
  unfolding firm_answer firm_memory is_refusal
  refused-is n e h c = rw (← e, ne_eqb n 0 h) (refl, refl)

-- what a firm's call meets that is not refused by the memory
pub record Ready (xs : List ℕ) (firm : ℕ) : Type 0 where
  pub none : firm_refusal xs firm ≡ 0
  pub tests : Tests xs
  pub known : firm ≤ 1
  pub marked : get_or xs (firm * size) 0 ≡ 0 → ⊥

pub ready-is : (xs : List ℕ) (firm : ℕ) → firm_refusal xs firm ≡ 0 → Ready xs firm
unfolding firm_refusal first_of
ready-is xs firm e = made (go (ltb (length xs) state_size) (ltb 1 firm) refl (eqb (get_or xs (firm * size) 0) 0) refl (is_sound_memory xs) refl e)
  where
    go : (a b : Bool) → ltb 1 firm ≡ b → (c : Bool) → eqb (get_or xs (firm * size) 0) 0 ≡ c → (d : Bool) → is_sound_memory xs ≡ d
        → ◌≡◌ {A = ℕ} (cond a 1 (cond b 13 (cond c 4 (cond (not d) 2 0)))) 0
        → (is_sound_memory xs ≡ true) × ((firm ≤ 1) × (get_or xs (firm * size) 0 ≡ 0 → ⊥))
    go true b eb c ec d ed e = absurd (suc-ne-zero 0 e)
    go false true eb c ec d ed e = absurd (suc-ne-zero 12 e)
    go false false eb true ec d ed e = absurd (suc-ne-zero 3 e)
    go false false eb false ec false ed e = absurd (suc-ne-zero 1 e)
    go false false eb false ec true ed e = (ed, (ltb-false 1 firm eb, eqb-false _ _ ec))

    made : (is_sound_memory xs ≡ true) × ((firm ≤ 1) × (get_or xs (firm * size) 0 ≡ 0 → ⊥)) → Ready xs firm
    made h = record { none = e; tests = taken-apart xs h.0; known = h.1.0; marked = h.1.1 }

-- ---- a firm's seat

module _ (xs : List ℕ) (firm : ℕ) (r : Ready xs firm) where
  abbrev pub own : List ℕ
  own = seat_part firm xs

  pub own-long : length own ≡ size
  own-long = seat-long xs r.tests.long firm r.known

  own-mark : get_or own 0 0 ≡ get_or xs (firm * size) 0
  own-mark = get_or-take size (drop (firm * size) xs) 0 0 (omega arith) ∙ (get_or-drop (firm * size) xs 0 0 ∙ ap (λ (i : ℕ). get_or xs i 0) (omega arith))

  own-marked : get_or own 0 0 ≡ 0 → ⊥
  own-marked e = r.marked (sym own-mark ∙ e)

  own-seat : is_seat own ≡ true
  own-seat = go firm r.known
    where
      go : (f : ℕ) → f ≤ 1 → is_seat (seat_part f xs) ≡ true
      go zero le = r.tests.first
      go (suc zero) le = r.tests.second
      go (suc (suc n)) le = absurd (omega arith)

  pub own-sound : is_sound own ≡ true
  unfolding is_seat
  own-sound = rw (ne_eqb _ _ own-marked) at own-seat

  pub own-ready : memory_refusal own ≡ 0
  unfolding memory_refusal first_of is_short
  own-ready = rw (le-ltb (length own) size (omega (arith, own-long)), ne_eqb (get_or own 0 0) 0 own-marked, own-sound)

  pub own-taken : (facing (firm_of firm) (decode_seats xs)).first ≡ taken (decode own)
  unfolding decode_seat
  own-taken = seat-at xs firm r.known ∙ rw (ne_eqb _ _ own-marked)

  abbrev pub other : Seat
  other = (facing (firm_of firm) (decode_seats xs)).second

  put-own : (s : State)
      → take (firm * size) xs ++ (encode s ++ drop size (drop (firm * size) xs))
      ≡ stored_seats (facing (firm_of firm) (record { first = taken s; second = other })) xs
  unfolding encode_seat
  put-own s = seat-put xs (seated r.tests) firm r.known (taken s)

  pub put-stored : (s : State)
      → take (firm * size) xs ++ (stored s own ++ drop size (drop (firm * size) xs))
      ≡ stored_seats (facing (firm_of firm) (record { first = taken s; second = other })) xs
  unfolding stored
  put-stored s =
      let alone : encode s ++ drop size own ≡ encode s =
      ap (λ (l : List ℕ). encode s ++ l) (drop_of_length-le own {i = size} (omega (arith, own-long))) ∙ append-nil (encode s)
      in
      ap (λ (l : List ℕ). take (firm * size) xs ++ (l ++ drop size (drop (firm * size) xs))) alone ∙ put-own s

  -- what the state's meaning says of the firm's call
  module _ (c : Call) where
    abbrev pub judgement : Judgement
    judgement = judge (room_beside other) (decode own) c

    pub firm-answer : firm_answer xs firm c ≡ judgement.answer
    unfolding firm_answer answer_in outcome_of at_seat beside_of call_at called_by
    firm-answer =
        rw r.none (ap (λ (x : Seat). answer_in (call_at (room_beside other) x c).reply) own-taken)

    pub seats-after : after_doing (firm_of firm) (decode_seats xs) (call c)
        ≡ facing (firm_of firm) (record { first = taken (after judgement.deed (decode own)); second = left_by (joins (rules_in (decode own)) judgement.deed) other })
    unfolding after_first outcome_of at_seat beside_of call_at called_by
    seats-after =
        ap (λ (x : Seat). facing (firm_of firm) (record { first = (call_at (room_beside other) x c).seat; second = left_by (call_at (room_beside other) x c).joined other })) own-taken

    -- the memory that the call leaves of the firm's seat, in its place
    module _ (same : judgement ≡ judge log_places (decode own) c) (quiet : joins (rules_in (decode own)) judgement.deed ≡ false) where
      pub answer-own : call_answer own c ≡ firm_answer xs firm c
      unfolding call_answer step step_in
      answer-own = rw own-ready (ap (λ (j : Judgement). j.answer) (sym same) ∙ sym firm-answer)

      after-own : after_doing (firm_of firm) (decode_seats xs) (call c)
          ≡ facing (firm_of firm) (record { first = taken (after (judge log_places (decode own) c).deed (decode own)); second = other })
      after-own =
          seats-after
          ∙ (ap (λ (b : Bool). facing (firm_of firm) (record { first = taken (after judgement.deed (decode own)); second = left_by b other })) quiet
          ∙ ap (λ (j : Judgement). facing (firm_of firm) (record { first = taken (after j.deed (decode own)); second = other })) same)

      pub memory-own : take (firm * size) xs ++ (call_memory own c ++ drop size (drop (firm * size) xs)) ≡ firm_memory xs firm c
      unfolding call_memory firm_memory step step_in
      memory-own = rw answer-own (go (is_refusal (firm_answer xs firm c)))
        where
          go : (b : Bool)
              → take (firm * size) xs ++ (cond b own (stored (step (decode own) c).after own) ++ drop size (drop (firm * size) xs))
              ≡ cond b xs (stored_seats (after_doing (firm_of firm) (decode_seats xs) (call c)) xs)
          go true = ap (λ (l : List ℕ). take (firm * size) xs ++ l) (take-append-drop size (drop (firm * size) xs)) ∙ take-append-drop (firm * size) xs
          go false = put-stored (after (judge log_places (decode own) c).deed (decode own)) ∙ ap (λ (u : Seats). stored_seats u xs) (sym after-own)

-- a lockout and Status have these
pub lockout-rooms : (room : ℕ) (s : State) (time level root : ℕ) → judge room s (lockout time level root) ≡ judge log_places s (lockout time level root)
unfolding judge refusal_of
lockout-rooms room s time level root = refl

pub lockout-quiet : (room : ℕ) (s : State) (time level root : ℕ) → joins (rules_in s) (judge room s (lockout time level root)).deed ≡ false
unfolding judge judged unless joins
lockout-quiet room s time level root = go (refusal_of room s (lockout time level root))
  where
    go : (n : ℕ) → joins (rules_in s) (unless n (judged s (lockout time level root))).deed ≡ false
    go zero = refl
    go (suc n) = refl

pub status-rooms : (room : ℕ) (s : State) → judge room s status ≡ judge log_places s status
unfolding judge refusal_of
status-rooms room s = refl

pub status-quiet : (room : ℕ) (s : State) → joins (rules_in s) (judge room s status).deed ≡ false
unfolding judge judged unless joins refusal_of
status-quiet room s = refl

pub order-rooms : (room : ℕ) (s : State) (time root reset : ℕ) → judge room s (order time root reset) ≡ judge log_places s (order time root reset)
unfolding judge refusal_of
order-rooms room s time root reset = refl

pub order-quiet : (room : ℕ) (s : State) (time root reset : ℕ) → joins (rules_in s) (judge room s (order time root reset)).deed ≡ false
unfolding judge judged ordered unless joins
order-quiet room s time root reset = go (refusal_of room s (order time root reset))
  where
    go : (n : ℕ) → joins (rules_in s) (unless n (judged s (order time root reset))).deed ≡ false
    go zero = refl
    go (suc n) = refl

pub remaining-rooms : (room : ℕ) (s : State) (time rule unit : ℕ) → judge room s (remaining time rule unit) ≡ judge log_places s (remaining time rule unit)
unfolding judge refusal_of
remaining-rooms room s time rule unit = refl

pub remaining-quiet : (room : ℕ) (s : State) (time rule unit : ℕ) → joins (rules_in s) (judge room s (remaining time rule unit)).deed ≡ false
unfolding judge judged ordered unless joins
remaining-quiet room s time rule unit = go (refusal_of room s (remaining time rule unit))
  where
    go : (n : ℕ) → joins (rules_in s) (unless n (judged s (remaining time rule unit))).deed ≡ false
    go zero = refl
    go (suc n) = refl

pub close-rooms : (room : ℕ) (s : State) (time identity : ℕ) → judge room s (close time identity) ≡ judge log_places s (close time identity)
unfolding judge refusal_of
close-rooms room s time identity = refl

pub close-quiet : (room : ℕ) (s : State) (time identity : ℕ) → joins (rules_in s) (judge room s (close time identity)).deed ≡ false
unfolding judge judged ordered unless joins
close-quiet room s time identity = go (refusal_of room s (close time identity))
  where
    go : (n : ℕ) → joins (rules_in s) (unless n (judged s (close time identity))).deed ≡ false
    go zero = refl
    go (suc n) = refl

-- a firm's seat as it is lent
pub span : (a : ℕ) → a + size - a ≡ size
span a = omega arith

pub lent_is : (xs : List ℕ) (firm : ℕ) → take (firm * size + size - firm * size) (drop (firm * size) xs) ≡ seat_part firm xs
lent_is xs firm = ap (λ (n : ℕ). take n (drop (firm * size) xs)) (span (firm * size))

-- a call on a lent seat that answers and leaves what the one-firm call does is the state's call
pub own-call : (xs : List ℕ) (firm : ℕ) → firm_refusal xs firm ≡ 0 → (c : Call)
    → ((room : ℕ) (s : State) → judge room s c ≡ judge log_places s c) → ((room : ℕ) (s : State) → joins (rules_in s) (judge room s c).deed ≡ false)
    → (a : Answer) (ys : List ℕ) → a ≡ call_answer (take (firm * size + size - firm * size) (drop (firm * size) xs)) c
    → ys ≡ call_memory (take (firm * size + size - firm * size) (drop (firm * size) xs)) c
    → (a ≡ firm_answer xs firm c)
    × (take (firm * size) xs ++ (ys ++ drop (firm * size + size - firm * size) (drop (firm * size) xs)) ≡ firm_memory xs firm c)
own-call xs firm none c rooms quiet a ys e f =
    let r = ready-is xs firm none in
    let is = lent_is xs firm in (
      e ∙ (ap (λ (l : List ℕ). call_answer l c) is ∙ answer-own xs firm r c (rooms _ _) (quiet _ _)),
      ap₂ (λ (l : List ℕ) (n : ℕ). take (firm * size) xs ++ (l ++ drop n (drop (firm * size) xs))) (f ∙ ap (λ (l : List ℕ). call_memory l c) is) (span (firm * size))
          ∙ memory-own xs firm r c (rooms _ _) (quiet _ _),
    )

pub own-lent : (xs : List ℕ) (firm : ℕ) → Ready xs firm → is_sound (take (firm * size + size - firm * size) (drop (firm * size) xs)) ≡ true
own-lent xs firm r = ap is_sound (lent_is xs firm) ∙ own-sound xs firm r

-- and it meets no refusal by the memory, so that no call tests it again
pub own-tested : (xs : List ℕ) (firm : ℕ) → Ready xs firm → memory_refusal (take (firm * size + size - firm * size) (drop (firm * size) xs)) ≡ 0
own-tested xs firm r = ap memory_refusal (lent_is xs firm) ∙ own-ready xs firm r
