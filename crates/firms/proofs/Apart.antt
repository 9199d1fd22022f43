-- What one firm does changes nothing that the other is answered, but 7 at arming, 2 at clearing a firm not armed, and 15. Assumes nothing.
use Prim.Native.Nat.{ℕ, zero, suc, ◌+◌, ◌-◌, ◌≤◌, max}
use mathlib.Core.Path.{◌≡◌, refl, sym, ap, ap₂, ◌∙◌, subst, subst⁻¹}
use mathlib.Core.Logic.{◌⊎◌, inl, inr}
use mathlib.Core.Bool.{Bool, true, false, not, cond, ◌&&◌}
use mathlib.Core.List.{List, [], ◌∷◌, ◌++◌, map, nil≢cons, cons≢nil, head-eq_of_cons-eq, tail-eq_of_cons-eq}
use lib.Dec.{eqb}
use native.Mathlib.Omega.{arith}
use Rattle.rules.specs.Allowance.{All}
use Rattle.machine.specs.Answer.{Answer, Refused}
use Rattle.machine.specs.State.{Profile, State}
use Rattle.machine.specs.Calls.{Call, order, lockout, offer, remaining, status, send, report, close}
use Rattle.machine.specs.Refusals.{first_of, log_full, no_places, refusal_of}
use Rattle.machine.specs.Judge.{Judgement, judged, unless, judge}
use Rattle.firms.specs.Seats.{Seat, empty, taken, Seats, vacant, facing, seat_of, use_of, own_places, room_beside, left_by}
use Rattle.firms.specs.Doings.{Doing, arm, call, clear, Reply, refused, done, answered, is_taken, Beside, beside_of, Outcome, stays, arm_refusal, armed_by, called_by, call_at, clear_at, at_seat, outcome_of, after_first, reply_to, after_doing}
use Rattle.firms.specs.Runs.{is_same, doings_of, replies_to, Excepted, Plain}
use Rattle.firms.proofs.Seats.{facing-twice, own-seat, own-after, same-firm, other-left, AlikeSeat, trim-alike, Same, at_same}

-- ---- 15 is the only answer by which the room is told

-- the last of several refusals, where it is not 15, with one room nor with another
last-alike : (earlier : List (Bool × ℕ)) (x y : Bool)
    → (first_of (earlier ++ ((x, 15) ∷ [])) ≡ 15 → ⊥) → (first_of (earlier ++ ((y, 15) ∷ [])) ≡ 15 → ⊥)
    → first_of (earlier ++ ((x, 15) ∷ [])) ≡ first_of (earlier ++ ((y, 15) ∷ []))
unfolding first_of
last-alike [] true y f g = absurd (f refl)
last-alike [] false true f g = absurd (g refl)
last-alike [] false false f g = refl
last-alike (test ∷ earlier) x y f g = go test.0 f g (last-alike earlier x y)
  where
    go : (b : Bool) → (cond b test.1 (first_of (earlier ++ ((x, 15) ∷ []))) ≡ 15 → ⊥) → (cond b test.1 (first_of (earlier ++ ((y, 15) ∷ []))) ≡ 15 → ⊥)
        → ((first_of (earlier ++ ((x, 15) ∷ [])) ≡ 15 → ⊥) → (first_of (earlier ++ ((y, 15) ∷ [])) ≡ 15 → ⊥)
        → first_of (earlier ++ ((x, 15) ∷ [])) ≡ first_of (earlier ++ ((y, 15) ∷ [])))
        → cond b test.1 (first_of (earlier ++ ((x, 15) ∷ []))) ≡ cond b test.1 (first_of (earlier ++ ((y, 15) ∷ [])))
    go true f g next = refl
    go false f g next = next f g

pub refusal-rooms : (room room' : ℕ) (s : State) (c : Call) → (refusal_of room s c ≡ 15 → ⊥) → (refusal_of room' s c ≡ 15 → ⊥)
    → refusal_of room s c ≡ refusal_of room' s c
unfolding refusal_of
refusal-rooms room room' s (order time root reset) f g = refl
refusal-rooms room room' s (lockout time level root) f g = refl
refusal-rooms room room' s (offer o) f g = last-alike (_ ∷ _ ∷ _ ∷ []) (log_full room s o) (log_full room' s o) f g
refusal-rooms room room' s (remaining time rule unit) f g = refl
refusal-rooms room room' s status f g = refl
refusal-rooms room room' s (send o identity reports) f g =
    last-alike (_ ∷ _ ∷ _ ∷ _ ∷ _ ∷ []) (no_places room s o reports) (no_places room' s o reports) f g
refusal-rooms room room' s (report time identity n) f g = refl
refusal-rooms room room' s (close time identity) f g = refl

full-told : (room : ℕ) (s : State) (c : Call) → ((judge room s c).answer ≡ Refused 15 → ⊥) → refusal_of room s c ≡ 15 → ⊥
unfolding judge unless
full-told room s c none e = none (ap (λ (n : ℕ). (unless n (judged s c)).answer) e)

-- a call that neither room refuses with 15 is judged the same in both
pub judge-rooms : (room room' : ℕ) (s : State) (c : Call) → ((judge room s c).answer ≡ Refused 15 → ⊥) → ((judge room' s c).answer ≡ Refused 15 → ⊥)
    → judge room s c ≡ judge room' s c
unfolding judge
judge-rooms room room' s c f g =
    ap (λ (n : ℕ). unless n (judged s c)) (refusal-rooms room room' s c (full-told room s c f) (full-told room' s c g))

-- ---- the three exceptions are the only ones

module _ (a b : Beside) where
  call-apart : (seat : Seat) (c : Call) → Plain (call_at a.room seat c).reply → Plain (call_at b.room seat c).reply
      → call_at a.room seat c ≡ call_at b.room seat c
  unfolding call_at called_by Excepted
  call-apart empty c f g = refl
  call-apart (taken s) c f g =
      ap (λ (j : Judgement). called_by j s)
      (judge-rooms a.room b.room s c (λ e. f (inr (inr (ap answered e)))) (λ e. g (inr (inr (ap answered e)))))

  clear_apart : (seat : Seat) (x y : Bool) → Plain (clear_at x seat).reply → Plain (clear_at y seat).reply → clear_at x seat ≡ clear_at y seat
  unfolding clear_at stays Excepted
  clear_apart (taken s) x y f g = refl
  clear_apart empty true true f g = refl
  clear_apart empty true false f g = absurd (g (inr (inl refl)))
  clear_apart empty false true f g = absurd (f (inr (inl refl)))
  clear_apart empty false false f g = refl

  arm-number : (t x y : Bool) (seat : Seat) (p : Profile)
      → Plain (armed_by (first_of ((t, 3) ∷ (x, 7) ∷ [])) seat p).reply → Plain (armed_by (first_of ((t, 3) ∷ (y, 7) ∷ [])) seat p).reply
      → armed_by (first_of ((t, 3) ∷ (x, 7) ∷ [])) seat p ≡ armed_by (first_of ((t, 3) ∷ (y, 7) ∷ [])) seat p
  unfolding first_of armed_by stays Excepted
  arm-number true x y seat p f g = refl
  arm-number false true true seat p f g = refl
  arm-number false true false seat p f g = absurd (f (inl refl))
  arm-number false false true seat p f g = absurd (g (inl refl))
  arm-number false false false seat p f g = refl

  -- WHAT A FIRM IS ANSWERED does not depend on the other, nor what it leaves of its seat, where neither answer is one of the three
  pub exceptions : (seat : Seat) (doing : Doing) → Plain (at_seat a seat doing).reply → Plain (at_seat b seat doing).reply
      → at_seat a seat doing ≡ at_seat b seat doing
  unfolding at_seat arm_refusal
  exceptions seat (arm p) f g = arm-number (is_taken seat) _ _ seat p f g
  exceptions seat (call c) f g = call-apart seat c f g
  exceptions seat clear f g = clear_apart seat a.armed b.armed f g

-- 15 THROUGH PLACES USED ABOVE 192 ALONE: a firm that uses no more than its own leaves 320, and so does one that is not armed
pub room-own : (other : Seat) → use_of other ≤ own_places → room_beside other ≡ 320
unfolding room_beside
room-own other few = omega (arith, few)

-- ---- histories

-- all that a firm could tell of the other at each thing that it did
unfoldable pub besides : Bool → Seats → List (Bool × Doing) → List (Beside × Doing)
besides firm u [] = []
besides firm u (x ∷ xs) =
    cond (is_same firm x.0) ((beside_of (facing x.0 u).second, x.1) ∷ besides firm (after_doing x.0 u x.1) xs)
    (besides firm (after_doing x.0 u x.1) xs)

-- the answers to a firm on a seat of its own, where it can tell so much of another
unfoldable pub replies_alone : Seat → List (Beside × Doing) → List Reply
replies_alone seat [] = []
replies_alone seat (x ∷ xs) = (at_seat x.0 seat x.1).reply ∷ replies_alone (at_seat x.0 seat x.1).seat xs

module _ (firm : Bool) where
  -- EITHER FIRM'S DAY IS ITS OWN: what it is answered on the state, whatever the other does, is what it is answered alone
  pub apart : (xs : List (Bool × Doing)) (u : Seats) (seat : Seat) → AlikeSeat (seat_of firm u) seat
      → replies_to firm u xs ≡ replies_alone seat (besides firm u xs)
  unfolding replies_to replies_alone besides is_same outcome_of after_first
  apart [] u seat a = refl
  apart (x ∷ xs) u seat a = go (apart xs (after_doing x.0 u x.1)) (is_same firm x.0) refl
    where
      next : Seats
      next = after_doing x.0 u x.1

      beside : Beside
      beside = beside_of (facing x.0 u).second

      Goes : Type 0
      Goes = (seat : Seat) → AlikeSeat (seat_of firm next) seat → replies_to firm next xs ≡ replies_alone seat (besides firm next xs)

      go : Goes → (b : Bool) → is_same firm x.0 ≡ b
          → cond b (reply_to x.0 u x.1 ∷ replies_to firm next xs) (replies_to firm next xs)
          ≡ replies_alone seat (cond b ((beside, x.1) ∷ besides firm next xs) (besides firm next xs))
      go on true e = own-way (same-firm firm x.0 e)
        where
          own-way : x.0 ≡ firm
              → reply_to x.0 u x.1 ∷ replies_to firm next xs ≡ (at_seat beside seat x.1).reply ∷ replies_alone (at_seat beside seat x.1).seat (besides firm next xs)
          own-way is =
              let first-is : (facing x.0 u).first ≡ seat_of firm u = ap (λ (f : Bool). (facing f u).first) is ∙ own-seat firm u in
              let t = at_same beside (seat_of firm u) seat a x.1 in
              let now : seat_of firm next ≡ (at_seat beside (seat_of firm u) x.1).seat =
              ap (λ (f : Bool). seat_of firm (facing f (after_first (facing x.0 u) x.1))) is
              ∙ (own-after firm (after_first (facing x.0 u) x.1) ∙ ap (λ (y : Seat). (at_seat beside y x.1).seat) first-is)
              in
              ap₂ (λ (r : Reply) (rs : List Reply). r ∷ rs)
              (ap (λ (y : Seat). (at_seat beside y x.1).reply) first-is ∙ sym t.reply)
              (on (at_seat beside seat x.1).seat (subst⁻¹ (λ (y : Seat). AlikeSeat y (at_seat beside seat x.1).seat) now t.seat))
      go on false e =
          on seat
          (subst⁻¹ (λ (y : Seat). AlikeSeat y seat) (other-left firm x.0 e u x.1)
          (trim-alike (outcome_of (facing x.0 u) x.1).joined (seat_of firm u) seat a))

  -- a firm's own things
  doings-of : (xs : List (Bool × Doing)) (u : Seats) → map (λ (z : Beside × Doing). z.1) (besides firm u xs) ≡ doings_of firm xs
  unfolding besides doings_of
  doings-of [] u = refl
  doings-of (x ∷ xs) u = go (is_same firm x.0) _ _ _ (doings-of xs (after_doing x.0 u x.1))
    where
      go : (b : Bool) (zs : List (Beside × Doing)) (ds : List Doing) (z : Beside) → map (λ (z : Beside × Doing). z.1) zs ≡ ds
          → map (λ (z : Beside × Doing). z.1) (cond b ((z, x.1) ∷ zs) zs) ≡ cond b (x.1 ∷ ds) ds
      go true zs ds z e = ap (λ (ds : List Doing). x.1 ∷ ds) e
      go false zs ds z e = e

-- answers that are none of the three do not depend on what could be told of the other
alone-same : (zs ws : List (Beside × Doing)) → map (λ (z : Beside × Doing). z.1) zs ≡ map (λ (z : Beside × Doing). z.1) ws → (seat : Seat)
    → All Plain (replies_alone seat zs) → All Plain (replies_alone seat ws) → replies_alone seat zs ≡ replies_alone seat ws
unfolding replies_alone
alone-same [] [] e seat f g = refl
alone-same [] (w ∷ ws) e seat f g = absurd (nil≢cons e)
alone-same (z ∷ zs) [] e seat f g = absurd (cons≢nil e)
alone-same (z ∷ zs) (w ∷ ws) e seat f g =
    let did : z.1 ≡ w.1 = head-eq_of_cons-eq e in
    let same : at_seat z.0 seat z.1 ≡ at_seat w.0 seat w.1 =
    exceptions z.0 w.0 seat z.1 f.0 (subst⁻¹ (λ (d : Doing). Plain (at_seat w.0 seat d).reply) did g.0) ∙ ap (at_seat w.0 seat) did
    in
    ap₂ (λ (r : Reply) (rs : List Reply). r ∷ rs) (ap (λ (o : Outcome). o.reply) same)
    (ap (λ (o : Outcome). replies_alone o.seat zs) same
    ∙ alone-same zs ws (tail-eq_of_cons-eq e) (at_seat w.0 seat w.1).seat
    (subst (λ (o : Outcome). All Plain (replies_alone o.seat zs)) same f.1) g.1)

-- ISOLATION: whatever the other does in one history and in another, a firm that does the same in both is answered the same in both, as long as it
-- is not told 7 at arming, 2 at clearing, or 15
pub isolation : (firm : Bool) (xs ys : List (Bool × Doing)) → doings_of firm xs ≡ doings_of firm ys
    → All Plain (replies_to firm vacant xs) → All Plain (replies_to firm vacant ys) → replies_to firm vacant xs ≡ replies_to firm vacant ys
unfolding vacant seat_of AlikeSeat
isolation firm xs ys e f g =
    let p = apart firm xs vacant empty (none firm) in
    let q = apart firm ys vacant empty (none firm) in
    p
    ∙ (alone-same (besides firm vacant xs) (besides firm vacant ys) (doings-of firm xs vacant ∙ (e ∙ sym (doings-of firm ys vacant))) empty
    (subst (λ (rs : List Reply). All Plain rs) p f) (subst (λ (rs : List Reply). All Plain rs) q g)
    ∙ sym q)
  where
    none : (firm : Bool) → AlikeSeat (seat_of firm vacant) empty
    none true = tt
    none false = tt
