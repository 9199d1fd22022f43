-- Isolation on lent memory: two histories in which a firm does the same are answered the same, up to the first of three exceptions. Assumes nothing.
use Prim.Native.Nat.{ℕ}
use mathlib.Core.Path.{◌≡◌, refl, sym, ap, ◌∙◌, subst, subst⁻¹}
use mathlib.Core.Logic.{◌⊎◌, inl, inr}
use mathlib.Core.Bool.{Bool, true, false, cond}
use mathlib.Core.List.{List, [], ◌∷◌, map, nil≢cons, cons≢nil, head-eq_of_cons-eq, tail-eq_of_cons-eq}
use Rattle.firms.specs.Seats.{Seat, empty, Seats, vacant, seat_of}
use Rattle.firms.specs.Doings.{Beside, beside_of}
use Rattle.firms.specs.Runs.{seats_after}
use Rattle.firms.proofs.Seats.{AlikeSeat}
use Rattle.seats.specs.Memory.{decode_seats}
use Rattle.firmday.specs.Day.{Asking, memory_after, asked}
use Rattle.firmday.specs.Promised.{Unarmed}
use Rattle.firmday.specs.Isolated.{concerns, own_of, Moment, moments_of, answer_on, answer_at, beside_in, ToldOfOther, SameUntil, Isolated}
use Rattle.firmday.proofs.Follows.{Lent, Goes as LentTo}
use Rattle.firmday.proofs.AllDay.{step_follows, unarmed-lent}
use Rattle.firmday.proofs.Moments.{next_by, own-next, other-next}
use Rattle.firmday.proofs.Answers.{step}

none_alike : (firm : Bool) → AlikeSeat (seat_of firm vacant) empty
unfolding vacant seat_of AlikeSeat
none_alike true = tt
none_alike false = tt

-- ---- the moments of a firm in one history

-- at a moment that concerns the firm, its seat is like this one
record Here (firm : Bool) (x : Seat) (m : Moment) : Type 0 where
  lent : Lent m.memory
  own : concerns firm m.asking ≡ true
  alike : AlikeSeat (seat_of firm (decode_seats m.memory)) x

unfoldable Course : Bool → Seat → List Moment → Type 0
Course firm x [] = Unit {0}
Course firm x (m ∷ ms) = Here firm x m × Course firm (next_by (beside_of (beside_in firm m.memory)) x m.asking) ms

course : (firm : Bool) (qs : List Asking) (xs : List ℕ) → Lent xs → (x : Seat) → AlikeSeat (seat_of firm (decode_seats xs)) x → Course firm x (moments_of firm xs qs)
unfolding Course moments_of
course firm [] xs l x i = tt
course firm (a ∷ qs) xs l x i = go (course firm qs (memory_after xs a) g.0) (concerns firm a) refl
  where
    g : LentTo (memory_after xs a) (seats_after (decode_seats xs) (asked a))
    g = (step_follows xs l a).0

    go : ((y : Seat) → AlikeSeat (seat_of firm (decode_seats (memory_after xs a))) y → Course firm y (moments_of firm (memory_after xs a) qs))
        → (b : Bool) → concerns firm a ≡ b
        → Course firm x (cond b (record { memory = xs; asking = a } ∷ moments_of firm (memory_after xs a) qs) (moments_of firm (memory_after xs a) qs))
    go on true e = (
      record { lent = l; own = e; alike = i },
      on _ (subst⁻¹ (λ (u : Seats). AlikeSeat (seat_of firm u) (next_by (beside_of (beside_in firm xs)) x a)) g.1 (own-next firm (decode_seats xs) x i a e)),
    )
    go on false e = on x (subst⁻¹ (λ (u : Seats). AlikeSeat (seat_of firm u) x) g.1 (other-next firm (decode_seats xs) x i a e))

asked-at : (firm : Bool) (qs : List Asking) (xs : List ℕ) → map (λ (m : Moment). m.asking) (moments_of firm xs qs) ≡ own_of firm qs
unfolding moments_of own_of
asked-at firm [] xs = refl
asked-at firm (a ∷ qs) xs = go (concerns firm a) (asked-at firm qs (memory_after xs a))
  where
    ms : List Moment
    ms = moments_of firm (memory_after xs a) qs

    go : (b : Bool) → map (λ (m : Moment). m.asking) ms ≡ own_of firm qs
        → map (λ (m : Moment). m.asking) (cond b (record { memory = xs; asking = a } ∷ ms) ms) ≡ cond b (a ∷ own_of firm qs) (own_of firm qs)
    go true e = ap (λ (l : List Asking). a ∷ l) e
    go false e = e

-- ---- two histories

same-until : (firm : Bool) (ms ks : List Moment) (x : Seat) → Course firm x ms → Course firm x ks
    → map (λ (m : Moment). m.asking) ms ≡ map (λ (m : Moment). m.asking) ks → SameUntil firm ms ks
unfolding Course SameUntil
same-until firm [] [] x a b e = tt
same-until firm [] (k ∷ ks) x a b e = absurd (nil≢cons e)
same-until firm (m ∷ ms) [] x a b e = absurd (cons≢nil e)
same-until firm (m ∷ ms) (k ∷ ks) x a b e =
    go (λ y c d. same-until firm ms ks y c d (tail-eq_of_cons-eq e))
    (step firm m.memory k.memory a.0.lent b.0.lent x a.0.alike b.0.alike m.asking a.0.own)
  where
    same : m.asking ≡ k.asking
    same = head-eq_of_cons-eq e

    bm : Beside
    bm = beside_of (beside_in firm m.memory)

    bk : Beside
    bk = beside_of (beside_in firm k.memory)

    go : ((y : Seat) → Course firm y ms → Course firm y ks → SameUntil firm ms ks)
        → ((answer_on m.memory m.asking ≡ answer_on k.memory m.asking) × (next_by bm x m.asking ≡ next_by bk x m.asking))
        ⊎ (ToldOfOther firm m.memory k.memory m.asking ⊎ ToldOfOther firm k.memory m.memory m.asking)
        → ((answer_at m ≡ answer_at k) × SameUntil firm ms ks)
        ⊎ (ToldOfOther firm m.memory k.memory m.asking ⊎ ToldOfOther firm k.memory m.memory k.asking)
    go on (inl s) =
        inl (
          s.0 ∙ ap (answer_on k.memory) same,
          on (next_by bm x m.asking) a.1 (subst⁻¹ (λ (y : Seat). Course firm y ks) (s.1 ∙ ap (next_by bk x) same) b.1),
        )
    go on (inr (inl w)) = inr (inl w)
    go on (inr (inr w)) = inr (inr (subst (ToldOfOther firm k.memory m.memory) same w))

-- ISOLATION ON LENT MEMORY: from memory on which no firm is armed, two histories in which a firm does the same, with any texts, and the whole state is
-- cleared at the same places among these: it is answered the same in both, up to the first answer that differs, and that is one of the three
pub isolated : (firm : Bool) (xs ys : List ℕ) → Unarmed xs → Unarmed ys → (qs rs : List Asking) → own_of firm qs ≡ own_of firm rs → Isolated firm xs qs ys rs
unfolding Isolated
isolated firm xs ys un un' qs rs same =
    let start = begins firm xs un in
    let start' = begins firm ys un' in
    same-until firm (moments_of firm xs qs) (moments_of firm ys rs) empty (course firm qs xs start.0 empty start.1) (course firm rs ys start'.0 empty start'.1)
    (asked-at firm qs xs ∙ (same ∙ sym (asked-at firm rs ys)))
  where
    begins : (firm : Bool) (xs : List ℕ) → Unarmed xs → Lent xs × AlikeSeat (seat_of firm (decode_seats xs)) empty
    begins firm xs un =
        let l = unarmed-lent xs un in
        (l.0, subst⁻¹ (λ (u : Seats). AlikeSeat (seat_of firm u) empty) l.1 (none_alike firm))
