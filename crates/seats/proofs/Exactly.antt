-- The test of the state says just what soundness asks. Assumes nothing.
use Prim.Native.Nat.{ℕ, zero, suc, ◌+◌, ◌*◌, ◌≤◌, zero-le}
use native.Mathlib.Omega.{arith}
use mathlib.Core.Path.{◌≡◌, refl, sym, ap, ap₂, ◌∙◌, subst, subst⁻¹}
use mathlib.Core.Logic.{◌↔◌}
use mathlib.Core.Bool.{Bool, true, false, not, cond, ◌&&◌, ◌||◌, false≢true}
use mathlib.Core.List.{List, [], ◌∷◌, ◌++◌, append_assoc, append-nil}
use lib.ListN.{length, get_or, take, drop, length-append, take-append-drop}
use lib.Seq.{take_all, take_at, drop_at, drop-nil}
use lib.Dec.{eqb, leb}
use borrow.Author.Tests.{eq-eqb, eqb-false, ne_eqb, leb-true, le-leb, not-false, not-true}
use Rattle.laws.proofs.Tests.{and_l, and_r, and_i}
use Rattle.tables.specs.Inner.Tables.{zeros, all_zero}
use Rattle.shapes.specs.Shape.{both, cell}
use Rattle.shapes.proofs.Tables.{length-zeros, all-zeros}
use Rattle.machine.specs.State.{State}
use Rattle.machine.specs.Refusals.{used}
use Rattle.machine.specs.Judge.{log_places}
use Rattle.state.specs.State.{size, numbers_shape, numbers_of, encode, decode, stored}
use Rattle.state.specs.Sound.{Given, SoundState, is_sound}
use Rattle.state.proofs.Stored.{encode-long, decode-stored}
use Rattle.state.proofs.Exactly.{sound-decode, sound-stored, sound-state-fits}
use Rattle.firms.specs.Seats.{Seat, empty, taken, Seats, entries_in, use_of}
use Rattle.firms.specs.Doings.{is_taken, name_of}
use Rattle.firms.specs.Sound.{SoundSeat, SoundSeats}
use Rattle.seats.specs.Memory.{state_size, seat_part, encode_seat, decode_seat, encode_seats, stored_seats, decode_seats, SoundMemory, is_seat, fit_together, fit_by, seats_fit, is_sound_memory}
use Rattle.seats.proofs.Laws.{Tests, Seated, taken-apart, seat-long, seats-parts, seat-again}

-- ---- what passes is sound

seat-sound : (ys : List ℕ) → is_seat ys ≡ true → SoundSeat Given (decode_seat ys)
unfolding is_seat decode_seat SoundSeat
seat-sound ys h = go (eqb (get_or ys 0 0) 0) h
  where
    go : (b : Bool) → cond b (all_zero ys) (is_sound ys) ≡ true → SoundSeat Given (cond b empty (taken (decode ys)))
    go true h = tt
    go false h = sound-decode ys h

abbrev Some : Seat → Seat → Type 0
Some x y = (is_taken x || is_taken y) ≡ true

fit-sound : (x y : Seat) → SoundSeat Given x → SoundSeat Given y → fit_by x y ≡ true → SoundSeats Given (record { first = x; second = y }) × Some x y
unfolding fit_by fit_together SoundSeat entries_in use_of is_taken name_of
fit-sound empty empty i j h = absurd (false≢true h)
fit-sound empty (taken r) i j h = (
  record { first = tt; second = j; differ = λ a b e. false≢true a; entries = omega (arith, j.number); uses = omega (arith, j.in_use) },
  refl,
)
fit-sound (taken s) empty i j h = (
  record { first = i; second = tt; differ = λ a b e. false≢true b; entries = omega (arith, i.number); uses = omega (arith, i.in_use) },
  refl,
)
fit-sound (taken s) (taken r) i j h =
    let a = not (eqb s.part.profile.firm r.part.profile.firm) in
    let b = leb (length s.log + length r.log) log_places in
    let c = leb (used s s.part.clock + used r r.part.clock) log_places in
    let ab = and_l (a && b) c h in (
      record {
        first = i;
        second = j;
        differ = λ t u e. eqb-false _ _ (not-true (eqb s.part.profile.firm r.part.profile.firm) (and_l a b ab)) e;
        entries = leb-true _ _ (and_r a b ab);
        uses = leb-true _ _ (and_r (a && b) c h);
      },
      refl,
    )

pub tested-sound : (xs : List ℕ) → Tests xs → SoundSeats Given (decode_seats xs) × Some (decode_seats xs).first (decode_seats xs).second
unfolding decode_seats seats_fit
tested-sound xs t = fit-sound _ _ (seat-sound (seat_part 0 xs) t.first) (seat-sound (seat_part 1 xs) t.second) t.fit

-- ---- what is sound passes

sound-fit : (x y : Seat) → SoundSeats Given (record { first = x; second = y }) → Some x y → fit_by x y ≡ true
unfolding fit_by fit_together entries_in use_of is_taken name_of
sound-fit empty empty i h = h
sound-fit empty (taken r) i h = refl
sound-fit (taken s) empty i h = refl
sound-fit (taken s) (taken r) i h =
    and_i (and_i (ap not (ne_eqb _ _ (i.differ refl refl))) (le-leb _ _ i.entries)) (le-leb _ _ i.uses)

armed-mark : (s : State) → get_or (encode s) 0 0 ≡ 1
unfolding encode numbers_of numbers_shape both cell
armed-mark s = refl

armed-alone : (s : State) → stored s [] ≡ encode s
unfolding stored
armed-alone s = ap (λ (l : List ℕ). encode s ++ l) (drop-nil size) ∙ append-nil (encode s)

module _ (x : Seat) (i : SoundSeat Given x) where
  pub encoded-long : length (encode_seat x) ≡ size
  unfolding encode_seat SoundSeat
  encoded-long = go x i
    where
      go : (x : Seat) → SoundSeat Given x → length (encode_seat x) ≡ size
      go empty i = length-zeros size
      go (taken s) i = encode-long s (sound-state-fits s i) []

  pub encoded-passes : is_seat (encode_seat x) ≡ true
  unfolding encode_seat SoundSeat is_seat zeros
  encoded-passes = go x i
    where
      go : (x : Seat) → SoundSeat Given x → is_seat (encode_seat x) ≡ true
      go empty i = zeros-pass
        where
          zeros-pass : cond (eqb (get_or (zeros size) 0 0) 0) (all_zero (zeros size)) (is_sound (zeros size)) ≡ true
          zeros-pass = all-zeros size
      go (taken s) i = rw (armed-mark s) (subst (λ (l : List ℕ). is_sound l ≡ true) (armed-alone s) (sound-stored s [] i))

  pub encoded-again : decode_seat (encode_seat x) ≡ x
  unfolding encode_seat SoundSeat decode_seat zeros
  encoded-again = go x i
    where
      go : (x : Seat) → SoundSeat Given x → decode_seat (encode_seat x) ≡ x
      go empty i = zeros-again
        where
          zeros-again : cond (eqb (get_or (zeros size) 0 0) 0) empty (taken (decode (zeros size))) ≡ empty
          zeros-again = refl
      go (taken s) i = rw (armed-mark s) (ap taken (ap decode (sym (armed-alone s)) ∙ decode-stored s (sound-state-fits s i) []))

module _ (u : Seats) (i : SoundSeat Given u.first) (j : SoundSeat Given u.second) (rest : List ℕ) where
  abbrev a : List ℕ
  a = encode_seat u.first

  abbrev b : List ℕ
  b = encode_seat u.second

  abbrev all : List ℕ
  all = (a ++ b) ++ rest

  pub part-first : seat_part 0 all ≡ a
  part-first = ap (take size) (append_assoc a b rest) ∙ take_at a (b ++ rest) size (encoded-long u.first i)

  pub part-second : seat_part 1 all ≡ b
  part-second =
      ap (λ (l : List ℕ). take size (drop size l)) (append_assoc a b rest)
      ∙ (ap (take size) (drop_at a (b ++ rest) size (encoded-long u.first i)) ∙ take_at b rest size (encoded-long u.second j))

  pub all-again : decode_seats all ≡ u
  unfolding decode_seats
  all-again = λ k. record {
    first = (ap decode_seat part-first ∙ encoded-again u.first i) k;
    second = (ap decode_seat part-second ∙ encoded-again u.second j) k;
  }

  all-long : state_size ≤ length all
  all-long = omega (arith, length-append (a ++ b) rest, length-append a b, encoded-long u.first i, encoded-long u.second j)

  pub all-seated : Seated all
  all-seated = record {
    long = all-long;
    first = ap is_seat part-first ∙ encoded-passes u.first i;
    second = ap is_seat part-second ∙ encoded-passes u.second j;
  }

  pub all_rest : drop state_size all ≡ rest
  all_rest = drop_at (a ++ b) rest state_size (omega (arith, length-append a b, encoded-long u.first i, encoded-long u.second j))

  pub stored-sound : SoundSeats Given u → Some u.first u.second → is_sound_memory all ≡ true
  unfolding is_sound_memory seats_fit
  stored-sound whole some =
      and_i
      (and_i
      (and_i
      (le-leb state_size (length all) all-long)
      (ap is_seat part-first ∙ encoded-passes u.first i))
      (ap is_seat part-second ∙ encoded-passes u.second j))
      (ap (λ (v : Seats). fit_by v.first v.second) all-again ∙ sound-fit u.first u.second whole some)

-- EXACTLY: the test that the code runs holds exactly if the state is sound
pub exactly : (xs : List ℕ) → SoundMemory xs ↔ (is_sound_memory xs ≡ true)
unfolding SoundMemory encode_seats decode_seats
exactly xs = (
  λ h. subst (λ (l : List ℕ). is_sound_memory l ≡ true)
      (ap (λ (l : List ℕ). l ++ drop state_size xs) (sym h.1.1.1) ∙ take-append-drop state_size xs)
      (stored-sound h.0 h.1.0.first h.1.0.second (drop state_size xs) h.1.0 h.1.1.0),
  λ h. let t = taken-apart xs h in
      let s = tested-sound xs t in
      (decode_seats xs, (s.0, (s.1, whole xs t))),
)
  where
    whole : (xs : List ℕ) → Tests xs → take state_size xs ≡ encode_seat (decode_seats xs).first ++ encode_seat (decode_seats xs).second
    whole xs t =
        let p = seat_part 0 xs in
        let q = seat_part 1 xs in
        let lp = seat-long xs t.long 0 (omega arith) in
        let lq = seat-long xs t.long 1 (omega arith) in
        ap (take state_size) (sym (seats-parts xs t.long) ∙ sym (append_assoc p q (drop state_size xs)))
        ∙ (take_at (p ++ q) (drop state_size xs) state_size (length-append p q ∙ omega (arith, lp, lq))
        ∙ ap₂ (λ (l m : List ℕ). l ++ m) (sym (seat-again p lp t.first)) (sym (seat-again q lq t.second)))
