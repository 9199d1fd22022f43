-- An offer on a firm's own seat, with a room: refused, locked out, or granted. Assumes nothing.
use Prim.Native.Nat.{ℕ, zero, suc, ◌+◌, ◌-◌, ◌≤◌, ◌<◌, max}
use native.Mathlib.Omega.{arith}
use native.Mathlib.Nat.{suc-ne-zero}
use mathlib.Core.Path.{◌≡◌, refl, sym, ap, ap₂, ◌∙◌}
use mathlib.Core.Bool.{Bool, true, false, not, cond, ◌&&◌, and_comm}
use mathlib.Core.List.{List, [], ◌∷◌, ◌++◌}
use lib.ListN.{length, get_or}
use lib.Dec.{eqb, leb, ltb}
use borrow.Author.Tests.{eq-eqb, ne_eqb, lt-ltb, le-ltb, leb-false, not-true, not-false}
use Rattle.laws.proofs.Tests.{and_i}
use Rattle.measures.specs.Ranges.{◌to◌, is_in, times, units, premiums, offers}
use Rattle.rules.specs.Valid.{has_rate}
use Rattle.rules.specs.declared.Level.TheVariants.{Firm, Root}
use Rattle.machine.specs.Answer.{Answer, Refused, Judged}
use Rattle.machine.specs.declared.Offer.{Offer}
use Rattle.machine.specs.State.{State, rules_in, roots_in}
use Rattle.machine.specs.Entries.{recent}
use Rattle.machine.specs.Calls.{Call, offer}
use Rattle.machine.specs.Deeds.{granted, nothing, passing, filling, clock_after}
use Rattle.machine.specs.Locks.{verdict_of}
use Rattle.machine.specs.Offers.{grant_of, level_trips, longest}
use Rattle.machine.specs.Register.{kept_places, register_after}
use Rattle.machine.specs.Refusals.{first_of, bad_time, is_root, used, log_full, offer_faults, refusal_of}
use Rattle.machine.specs.Step.{accounts_after, locks_after, log_after, part_after, after}
use Rattle.machine.specs.Judge.{Judgement, filled, offered, judged, unless, judge}
use Rattle.machine.proofs.Keeps.{nothing-same}
use Rattle.machine.proofs.Windows.{rate-longest}
use Rattle.state.specs.State.{size, stored, decode}
use Rattle.state.specs.Sound.{is_sound}
use Rattle.state.specs.Inner.Laid.{Laid, Fits, with_clock}
use Rattle.state.proofs.Map.{map-test}
use Rattle.state.proofs.Exactly.{taken-apart, sound-decode, sound-is-laid}
use Rattle.grant.specs.declared.Levels.{Levels}
use Rattle.grant.specs.declared.Inside.{Inside}
use Rattle.grant.specs.Inner.Grant.{inside_of, AreCuts, Ready, HasRoom}
use Rattle.grant.proofs.Joined.{window-is, passed_is}
use Rattle.calls.specs.Calls.{is_short, mark_of, memory_refusal, Met, Granting}
use Rattle.calls.proofs.Armed.{sound-memory}
use Rattle.calls.proofs.Offers.{met-asked, met-free}
use Rattle.firms.specs.Seats.{Seat, empty, taken, use_of, own_places, room_beside}
use Rattle.firms.specs.Doings.{joins}
use Rattle.seats.specs.Memory.{decode_seat, is_seat, Done, Called}
use Rattle.seats.proofs.Tested.{use-low}
use borrow.Author.Tests.{eqb-true}
use Rattle.laws.proofs.Tests.{and_l}

-- a sound seat meets no refusal by the memory
pub ready_of : (xs : List ℕ) → is_sound xs ≡ true → memory_refusal xs ≡ 0
unfolding memory_refusal first_of is_short
ready_of xs h =
    let t = taken-apart xs h in
    let one : get_or xs 0 0 ≡ 1 = eqb-true (get_or xs 0 0) 1 (and_l (eqb (get_or xs 0 0) 1) _ (sym (map-test xs) ∙ t.map)) in
    rw (le-ltb (length xs) size t.long, ne_eqb (get_or xs 0 0) 0 (λ z. omega (arith, one)), h)

-- ---- the room

pub room-empty : (xs : List ℕ) → get_or xs 0 0 ≡ 0 → 320 ≡ room_beside (decode_seat xs)
unfolding decode_seat room_beside use_of
room-empty xs m = rw (eq-eqb (get_or xs 0 0) 0 m)

pub room-armed : (xs : List ℕ) → (get_or xs 0 0 ≡ 0 → ⊥) → {u g : ℕ} → u ≡ used (decode xs) (decode xs).part.clock → g ≡ max 192 u → 512 - g ≡ room_beside (decode_seat xs)
unfolding decode_seat room_beside use_of
room-armed xs m e f = rw (ne_eqb (get_or xs 0 0) 0 m, f, e)

-- ---- a call that is refused, and one that is not

module _ (room : ℕ) (c : Call) (xs : List ℕ) (laid : Laid xs) where
  pub refused-done : (n : ℕ) → refusal_of room (decode xs) c ≡ suc n → Done room c xs xs (record { answer = Refused (suc n); joined = false })
  unfolding judge unless joins
  refused-done n e = record {
    answer = sym (ap (λ (k : ℕ). (unless k (judged (decode xs) c)).answer) e);
    joined = sym (ap (λ (k : ℕ). joins (rules_in (decode xs)) (unless k (judged (decode xs) c)).deed) e);
    memory =
        laid.is
        ∙ (ap (λ (s : State). stored s xs) (sym (nothing-same (decode xs)))
        ∙ sym (ap (λ (k : ℕ). stored (after (unless k (judged (decode xs) c)).deed (decode xs)) xs) e));
  }

  pub acts-done : refusal_of room (decode xs) c ≡ 0 → (r : Called) (ys : List ℕ) → r.answer ≡ (judged (decode xs) c).answer
      → r.joined ≡ joins (rules_in (decode xs)) (judged (decode xs) c).deed → ys ≡ stored (after (judged (decode xs) c).deed (decode xs)) xs → Done room c xs ys r
  unfolding judge unless
  acts-done e r ys a j m = record {
    answer = a ∙ sym (ap (λ (k : ℕ). (unless k (judged (decode xs) c)).answer) e);
    joined = j ∙ sym (ap (λ (k : ℕ). joins (rules_in (decode xs)) (unless k (judged (decode xs) c)).deed) e);
    memory = m ∙ sym (ap (λ (k : ℕ). stored (after (unless k (judged (decode xs) c)).deed (decode xs)) xs) e);
  }

-- ---- an offer's numbers

module _ (xs : List ℕ) (o : Offer) where
  abbrev late : Bool
  late = bad_time (decode xs).part o.time

  abbrev unknown : Bool
  unknown = not (is_root (decode xs).part o.root && is_in units o.unit)

  abbrev unpriced : Bool
  unpriced = not (is_in premiums o.premium && is_in offers o.contracts)

  pub late_is : {a : Bool} {clock : ℕ} → a ≡ is_in (0 to 86_399_999) o.time → clock ≡ (decode xs).part.clock → {b : Bool} → not (a && leb clock o.time) ≡ b → late ≡ b
  unfolding bad_time
  late_is p q e = rw (← p, ← q) e

  pub unknown-is : {roots : ℕ} {a : Bool} → roots ≡ roots_in (decode xs) → a ≡ is_in (0 to 3) o.unit → {b : Bool} → not (ltb o.root roots && a) ≡ b → unknown ≡ b
  unfolding is_root roots_in
  unknown-is p q e = rw (← p, ← q) e

  pub unpriced-is : {a b : Bool} → a ≡ is_in (1 to 100_000_000) o.premium → b ≡ is_in (1 to 1_000_000) o.contracts → {d : Bool} → not (a && b) ≡ d → unpriced ≡ d
  unpriced-is p q e = rw (← p, ← q) e

  pub fault-late : late ≡ true → 12 ≡ first_of (offer_faults (decode xs).part o)
  unfolding first_of
  fault-late e = rw e

  pub fault-unknown : late ≡ false → unknown ≡ true → 13 ≡ first_of (offer_faults (decode xs).part o)
  unfolding first_of
  fault-unknown e f = rw (e, f)

  pub fault-price : late ≡ false → unknown ≡ false → {b : Bool} → unpriced ≡ b → cond b 14 0 ≡ first_of (offer_faults (decode xs).part o)
  unfolding first_of
  fault-price e f g = rw (e, f, g)

  -- a fault is the refusal, and without one the offer has met all that its numbers ask
  pub fault-refuses : (room n : ℕ) → suc n ≡ first_of (offer_faults (decode xs).part o) → refusal_of room (decode xs) (offer o) ≡ suc n
  unfolding refusal_of first_of
  fault-refuses room n e = sym (go late unknown unpriced e)
    where
      go : (a b c : Bool) → suc n ≡ cond a 12 (cond b 13 (cond c 14 0)) → suc n ≡ cond a 12 (cond b 13 (cond c 14 (cond (log_full room (decode xs) o) 15 0)))
      go true b c e = e
      go false true c e = e
      go false false true e = e
      go false false false e = absurd (suc-ne-zero n e)

  pub fault-done : is_sound xs ≡ true → (room n : ℕ) → n ≡ first_of (offer_faults (decode xs).part o) → (n ≡ 0 → ⊥)
      → Done room (offer o) xs xs (record { answer = Refused n; joined = false })
  fault-done h room zero e z = absurd (z refl)
  fault-done h room (suc n) e z = refused-done room (offer o) xs (sound-is-laid xs h) n (fault-refuses room n e)

  module _ (h : is_sound xs ≡ true) (none : first_of (offer_faults (decode xs).part o) ≡ 0) where
    pub met : Met xs o
    unfolding first_of
    met = go late refl unknown refl unpriced refl none
      where
        go : (a : Bool) → late ≡ a → (b : Bool) → unknown ≡ b → (c : Bool) → unpriced ≡ c → ◌≡◌ {A = ℕ} (cond a 12 (cond b 13 (cond c 14 0))) 0 → Met xs o
        go true ea b eb c ec e = absurd (omega arith)
        go false ea true eb c ec e = absurd (omega arith)
        go false ea false eb true ec e = absurd (omega arith)
        go false ea false eb false ec e = record { ready = ready_of xs h; timely = ea; known = eb; priced = ec }

    by_place : (room : ℕ) {b : Bool} → log_full room (decode xs) o ≡ b → refusal_of room (decode xs) (offer o) ≡ cond b 15 0
    unfolding refusal_of first_of
    by_place room e = rw (met.timely, met.known, met.priced, e)

    -- locked out
    pub locked-done : (room v : ℕ) → v ≡ verdict_of (decode xs).part.locks o.root → (v ≡ 0 → ⊥) → {ys : List ℕ} → ys ≡ stored (with_clock (decode xs) o.time) xs
        → Done room (offer o) xs ys (record { answer = Judged v 0 false false; joined = false })
    unfolding judged offered log_full joins after part_after clock_after accounts_after locks_after log_after register_after
    locked-done room v e z {ys} m = acts-done room (offer o) xs (sound-is-laid xs h) (by_place room free) _ ys (answer v e z) (joined v e z) (memory v e z)
      where
        free : log_full room (decode xs) o ≡ false
        free = rw (← e, ne_eqb v 0 z)

        answer : (v : ℕ) → v ≡ verdict_of (decode xs).part.locks o.root → (v ≡ 0 → ⊥) → Judged v 0 false false ≡ (offered (decode xs) o (verdict_of (decode xs).part.locks o.root)).answer
        answer zero e z = absurd (z refl)
        answer (suc v) e z = ap (λ (n : ℕ). (offered (decode xs) o n).answer) e

        joined : (v : ℕ) → v ≡ verdict_of (decode xs).part.locks o.root → (v ≡ 0 → ⊥) → false ≡ joins (rules_in (decode xs)) (offered (decode xs) o (verdict_of (decode xs).part.locks o.root)).deed
        joined zero e z = absurd (z refl)
        joined (suc v) e z = ap (λ (n : ℕ). joins (rules_in (decode xs)) (offered (decode xs) o n).deed) e

        memory : (v : ℕ) → v ≡ verdict_of (decode xs).part.locks o.root → (v ≡ 0 → ⊥)
            → ys ≡ stored (after (offered (decode xs) o (verdict_of (decode xs).part.locks o.root)).deed (decode xs)) xs
        memory zero e z = absurd (z refl)
        memory (suc v) e z = m ∙ ap (λ (n : ℕ). stored (after (offered (decode xs) o n).deed (decode xs)) xs) e

-- ---- an offer that is not locked out

module _ (xs : List ℕ) (o : Offer) (g : Granting xs o) (room : ℕ) (few : room ≤ 512)
    {grant : ℕ} (is : grant ≡ grant_of (decode xs).log o (decode xs).part.accounts)
    {inside : Inside} (at : inside ≡ inside_of (decode xs) o.time) {kept : ℕ} (keeps : kept ≡ kept_places (decode xs).part.register) where
  abbrev s : State
  s = decode xs

  rated : ltb 0 inside.window ≡ has_rate (rules_in s)
  rated = ap (ltb 0) (window-is s o.time at) ∙ sym (rate-longest (roots_in s) (rules_in s) g.asked.laid.fits.valid).0

  many : inside.read.passed + kept ≡ length (recent (longest (rules_in s)) o.time s.log) + kept_places s.part.register
  many =
      ap₂ (λ (a b : ℕ). a + b) (passed_is s o.time at ∙ ap (λ (w : ℕ). length (recent w o.time s.log)) (window-is s o.time at)) keeps

  full_is : ((ltb 0 grant && ltb 0 inside.window) && leb room (inside.read.passed + kept)) ≡ log_full room s o
  unfolding log_full used
  full_is = rw (g.free, ← is, rated, many) (go (ltb 0 grant) (has_rate (rules_in s)) _)
    where
      go : (a b : Bool) (n : ℕ) → ((a && b) && leb room n) ≡ ((a && b) && leb room (cond b n 0))
      go true true n = refl
      go true false n = refl
      go false b n = refl

  by-full : {b : Bool} → log_full room s o ≡ b → refusal_of room s (offer o) ≡ cond b 15 0
  unfolding refusal_of first_of
  by-full e = rw (g.met.timely, g.met.known, g.met.priced, e)

  pub full-done : ((ltb 0 grant && ltb 0 inside.window) && leb room (inside.read.passed + kept)) ≡ true
      → Done room (offer o) xs xs (record { answer = Refused 15; joined = false })
  full-done e = refused-done room (offer o) xs g.asked.laid 14 (by-full (sym full_is ∙ e))

  module _ (e : ((ltb 0 grant && ltb 0 inside.window) && leb room (inside.read.passed + kept)) ≡ false) where
    pub has_room : HasRoom s o grant
    has_room has pos =
        omega (arith, few, leb-false room (inside.read.passed + kept) (rw (lt-ltb 0 grant pos, rated ∙ has) at e), many)

    pub ready-is : {cuts : Levels ℕ} → AreCuts xs o cuts → Ready xs o grant cuts
    ready-is k = record {
      asked = g.asked;
      totals = (sound-decode xs (sound-memory xs g.met.ready)).totals;
      levels = k;
      least = is;
      room = has_room;
    }

    pub granted-done : {a b : Bool} → a ≡ level_trips granted s.log o grant s.part.accounts (Root o.root) → b ≡ level_trips granted s.log o grant s.part.accounts Firm
        → {ys : List ℕ} → ys ≡ stored (after (filling granted o grant) s) xs
        → Done room (offer o) xs ys (record { answer = Judged 0 grant a b; joined = ltb 0 grant && ltb 0 inside.window })
    unfolding judged offered filled joins
    granted-done p q m =
        acts-done room (offer o) xs g.asked.laid (by-full (sym full_is ∙ e)) _ _
        (rw (g.free, ← is, p, q)) (rw (g.free, ← is, rated) (and_comm (ltb 0 grant) (has_rate (rules_in s)))) (rw (g.free, ← is) m)
