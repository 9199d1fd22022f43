-- What holds of every record of 16 bytes, and of records moved from one form to the other. Assumes nothing.
use Prim.Native.Nat.{ℕ, ◌<◌}
use mathlib.Core.Path.{◌≡◌, refl, sym, ap, ◌∙◌}
use mathlib.Core.Bool.{Bool, true, false, cond, false≢true}
use mathlib.Core.List.{List, [], ◌∷◌}
use lib.ListN.{get_or}
use lib.Dec.{leb}
use native.Mathlib.Omega.{arith}
use Rattle.bits.specs.Fields.{total, packed, unpacked, eights, fields_of, bytes_of}
use Rattle.records.specs.declared.Event16.{Event16}
use Rattle.records.specs.declared.Event16.TheVariants.{Offer, Sending}
use Rattle.std.specs.declared.result.Result.TheVariants.{Ok, Err}
use Rattle.refusals.specs.declared.Refusal.TheVariants.{FaultyRecord}
use Rattle.refusals.specs.Numbers.{refused_with}
use Rattle.records.specs.Form.{accepts, event_at, record_of}
use Rattle.records.specs.Event.{widths, form}
use Rattle.records.specs.Event16.{widths16, values16_of, is_valid16, form16, read16_of}
use Rattle.records.specs.Moves.{moving_of, moved_record, widening, narrowing, widened, narrowed, moves_back}
use Rattle.records.proofs.Round.{fields-are, read_again_lem, write_again, read-values, write-fields-again, record-inj}
use Rattle.records.proofs.Forms.{lawful, lawful16}
use Rattle.records.proofs.Across.{widened-back, narrowed-back}
use Rattle.records.proofs.Moved.{fields16-are, widened-holds, narrowed-holds}

-- an event that is written is read again

pub read-written : (e : Event16) → is_valid16 e ≡ true → read16_of (record_of form16 e) ≡ Ok e
unfolding read16_of
read-written e h = let r = read_again_lem form16 lawful16 e h in rw (r.0, r.1)

-- a test that gave an event passed
pub picked : (b : Bool) (x e : Event16) → cond b (Ok x) (Err FaultyRecord) ≡ Ok e → (b ≡ true) × (x ≡ e)
picked true x e h = (refl, cc)
picked false x e h = absurd (cc)

-- what is read is valid, and written again as the same bytes
pub written_read : (s : List ℕ) (e : Event16) → ((i : ℕ) → get_or s i 0 < 256) → read16_of s ≡ Ok e → (is_valid16 e ≡ true) × (record_of form16 e ≡ s)
unfolding read16_of
written_read s e b h =
    let p = picked (accepts form16 s) (event_at form16 s) e h in
    let q = write_again form16 lawful16 s b p.0 in
    (ap is_valid16 (sym p.1) ∙ q.0, ap (record_of form16) (sym p.1) ∙ q.1)

-- each event has one record: two valid events with the same bytes are the same
pub one-record : (e x : Event16) → is_valid16 e ≡ true → is_valid16 x ≡ true → record_of form16 e ≡ record_of form16 x → e ≡ x
one-record = record-inj form16 lawful16

-- bytes are refused with 16 exactly if they are the record of no valid event
pub refused_none : (s : List ℕ) (e : Event16) → refused_with (read16_of s) ≡ 16 → is_valid16 e ≡ true → record_of form16 e ≡ s → ⊥
refused_none s e f h r = let z : ◌≡◌ {A = ℕ} 0 16 = sym (ap refused_with (read-written e h)) ∙ ap (λ (x : List ℕ). refused_with (read16_of x)) r ∙ f in omega arith

pub none-refused : (s : List ℕ) → ((i : ℕ) → get_or s i 0 < 256) → ((e : Event16) → is_valid16 e ≡ true → record_of form16 e ≡ s → ⊥) → refused_with (read16_of s) ≡ 16
unfolding read16_of
none-refused s b free = go (accepts form16 s) refl
  where
    go : (t : Bool) → accepts form16 s ≡ t → refused_with (read16_of s) ≡ 16
    go true p = let q = written_read s (event_at form16 s) b (rw p) in absurd (free _ q.0 q.1)
    go false p = rw p

-- an old record that is moved is a record, with the same fields but for the time
pub moved-record : (s : List ℕ) → accepts form s ≡ true → (accepts form16 (moved_record widening s) ≡ true) × (fields_of widths16 (moved_record widening s) ≡ widened (fields_of widths s))
unfolding moved_record
moved-record s a = read-values form16 lawful16 (widened (fields_of widths s)) (widened-holds s a)

-- moved there and back it has the same 12 bytes
pub there_and_back_lem : (s : List ℕ) → ((i : ℕ) → get_or s i 0 < 256) → accepts form s ≡ true
    → (moving_of narrowing (moved_record widening s) 12 ≡ Ok tt) × (moved_record narrowing (moved_record widening s) ≡ s)
unfolding moving_of moved_record
there_and_back_lem s b a =
    let m = moved-record s a in
    let f = fields-are form s a in
    let k = widened-back (event_at form s) f.1 in
    let fits : moves_back (widened (fields_of widths s)) ≡ true = ap (λ (v : List ℕ). moves_back (widened v)) f.0 ∙ k.0 in
    let same : narrowed (widened (fields_of widths s)) ≡ fields_of widths s = ap (λ (v : List ℕ). narrowed (widened v)) f.0 ∙ k.1 ∙ sym f.0 in
    (rw (m.0, m.1, fits), rw (m.1, same) (write-fields-again form lawful s b a))

-- and a new record that moves back is one that an old record moves to: moved back and there again it has the same 16 bytes
pub back-and-there : (t : List ℕ) → ((i : ℕ) → get_or t i 0 < 256) → accepts form16 t ≡ true → moves_back (fields_of widths16 t) ≡ true
    → (accepts form (moved_record narrowing t) ≡ true) × (moved_record widening (moved_record narrowing t) ≡ t)
unfolding moved_record
back-and-there t b a k =
    let r = read-values form lawful (narrowed (fields_of widths16 t)) (narrowed-holds t a k) in
    let f = (fields16-are t a).0 in
    let same : widened (narrowed (fields_of widths16 t)) ≡ fields_of widths16 t =
    ap (λ (v : List ℕ). widened (narrowed v)) f ∙ narrowed-back (event_at form16 t) (sym (ap moves_back f) ∙ k) ∙ sym f
    in
    (r.0, rw (r.1, same) (write-fields-again form16 lawful16 t b a))

-- a new record is refused with 20 exactly if its kind is above 2, its time no multiple of 1000, or its reset above 3; then no old record moves to it
pub refused-unfit : (t : List ℕ) (n : ℕ) → accepts form16 t ≡ true → moves_back (fields_of widths16 t) ≡ false → refused_with (moving_of narrowing t n) ≡ 20
unfolding moving_of
refused-unfit t n a k = rw (a, k)

pub unfit-none : (t s : List ℕ) (n : ℕ) → refused_with (moving_of narrowing t n) ≡ 20 → accepts form s ≡ true → moved_record widening s ≡ t → ⊥
unfolding moving_of
unfit-none t s n h a e = go (accepts form16 t) (moves_back (fields_of widths16 t)) (leb 12 n) refl refl refl
  where
    fits : moves_back (fields_of widths16 t) ≡ true
    fits =
        let f = fields-are form s a in
        ap (λ (x : List ℕ). moves_back (fields_of widths16 x)) (sym e) ∙ ap moves_back (moved-record s a).1
        ∙ ap (λ (v : List ℕ). moves_back (widened v)) f.0 ∙ (widened-back (event_at form s) f.1).0

    go : (x y z : Bool) → accepts form16 t ≡ x → moves_back (fields_of widths16 t) ≡ y → leb 12 n ≡ z → ⊥
    go false y z p q r = let w : ◌≡◌ {A = ℕ} 16 20 = rw p at h in omega arith
    go true true true p q r = let w : ◌≡◌ {A = ℕ} 0 20 = rw (p, q, r) at h in omega arith
    go true true false p q r = let w : ◌≡◌ {A = ℕ} 1 20 = rw (p, q, r) at h in omega arith
    go true false z p q r = false≢true (sym q ∙ fits)

pub none-unfit : (t : List ℕ) (n : ℕ) → ((i : ℕ) → get_or t i 0 < 256) → accepts form16 t ≡ true
    → ((s : List ℕ) → accepts form s ≡ true → moved_record widening s ≡ t → ⊥) → refused_with (moving_of narrowing t n) ≡ 20
none-unfit t n b a free = go (moves_back (fields_of widths16 t)) refl
  where
    go : (k : Bool) → moves_back (fields_of widths16 t) ≡ k → refused_with (moving_of narrowing t n) ≡ 20
    go true p = let r = back-and-there t b a p in absurd (free (moved_record narrowing t) r.0 r.1)
    go false p = refused-unfit t n a p

-- an offer at 10,999 microseconds, root 0, unit 0, premium 70,000, 200 contracts; and the same sent away with identity 7 and 2 reports
pub example-offer : record_of form16 (Offer 10_999 0 0 70_000 200)
    ≡ 0x10 ∷ 0x00 ∷ 0x00 ∷ 0x15 ∷ 0x7B ∷ 0x80 ∷ 0x00 ∷ 0x11 ∷ 0x17 ∷ 0x00 ∷ 0x00 ∷ 0xC8 ∷ 0x00 ∷ 0x00 ∷ 0x00 ∷ 0x00 ∷ []
unfolding record_of values16_of bytes_of unpacked packed total eights
example-offer = refl

pub example-sending : record_of form16 (Sending 10_999 0 0 70_000 200 7 2)
    ≡ 0x30 ∷ 0x00 ∷ 0x00 ∷ 0x15 ∷ 0x7B ∷ 0x80 ∷ 0x00 ∷ 0x11 ∷ 0x17 ∷ 0x00 ∷ 0x00 ∷ 0xC8 ∷ 0x00 ∷ 0x00 ∷ 0x38 ∷ 0x80 ∷ []
unfolding record_of values16_of bytes_of unpacked packed total eights
example-sending = refl
