-- A call's time is its record's in whole milliseconds, and the remainder plays no part. Assumes nothing.
use Prim.Native.Nat.{ℕ, ◌/◌}
use mathlib.Core.Path.{◌≡◌, refl, sym, ap, ◌∙◌}
use mathlib.Core.Bool.{cond}
use mathlib.Core.List.{List, ◌∷◌}
use lib.ListN.{get_or, drop}
use lib.Dec.{eqb}
use Rattle.bits.specs.Fields.{fields_of}
use Rattle.machine.specs.declared.Offer.{Offer as Offered}
use Rattle.machine.specs.Calls.{Call, order, lockout, offer, send, report, close}
use Rattle.records.specs.Form.{accepts, event_at}
use Rattle.records.specs.Event16.{widths16, values16_of, form16, read16_of}
use Rattle.records.specs.declared.Event16.{Event16}
use Rattle.records.specs.declared.Event16.TheVariants.{Order, Offer, Lockout, Sending, Report, Closing}
use Rattle.std.specs.declared.result.Result.TheVariants.{Ok}
use Rattle.records.proofs.Moved.{fields16-are}
use Rattle.records.proofs.Promises16.{picked}
use Rattle.answering.specs.Run.{record_call, reading_answer, memory_of, record_answer, record_memory}
use Rattle.answering.specs.Times.{call_time, whole_fields, RemainderDropped}

-- the values of a record that is read as an event are its fields
fields-of : (s : List ℕ) (e : Event16) → read16_of s ≡ Ok e → fields_of widths16 s ≡ values16_of e
unfolding read16_of
fields-of s e h = let p = picked (accepts form16 s) (event_at form16 s) e h in (fields16-are s p.0).0 ∙ ap values16_of p.1

time-of : (e : Event16) → call_time (record_call e) ≡ get_or (values16_of e) 1 0 / 1000
unfolding call_time record_call values16_of
time-of (Order time root reset) = refl
time-of (Offer time root unit premium contracts) = refl
time-of (Lockout time level root) = refl
time-of (Sending time root unit premium contracts identity reports) = refl
time-of (Report time identity contracts) = refl
time-of (Closing time identity) = refl

-- the call by the fields with the time in whole milliseconds
abbrev offer_from : List ℕ → Offered
offer_from v = record { time = get_or v 1 0; root = get_or v 2 0; unit = get_or v 3 0; premium = get_or v 4 0; contracts = get_or v 5 0 }

abbrev away_from : List ℕ → Call
away_from v =
    cond (eqb (get_or v 0 0) 3) (send (offer_from v) (get_or v 8 0) (get_or v 9 0))
    (cond (eqb (get_or v 0 0) 4) (report (get_or v 1 0) (get_or v 8 0) (get_or v 5 0)) (close (get_or v 1 0) (get_or v 8 0)))

abbrev call_from : List ℕ → Call
call_from v =
    cond (eqb (get_or v 0 0) 0) (order (get_or v 1 0) (get_or v 2 0) (get_or v 6 0))
    (cond (eqb (get_or v 0 0) 1) (offer (offer_from v)) (cond (eqb (get_or v 0 0) 2) (lockout (get_or v 1 0) (get_or v 7 0) (get_or v 2 0)) (away_from v)))

abbrev whole : List ℕ → List ℕ
whole v = get_or v 0 0 ∷ get_or v 1 0 / 1000 ∷ drop 2 v

call_from_lem : (e : Event16) → record_call e ≡ call_from (whole (values16_of e))
unfolding record_call values16_of
call_from_lem (Order time root reset) = refl
call_from_lem (Offer time root unit premium contracts) = refl
call_from_lem (Lockout time level root) = refl
call_from_lem (Sending time root unit premium contracts identity reports) = refl
call_from_lem (Report time identity contracts) = refl
call_from_lem (Closing time identity) = refl

same-call : (s t : List ℕ) (e x : Event16) → read16_of s ≡ Ok e → read16_of t ≡ Ok x → whole_fields s ≡ whole_fields t → record_call e ≡ record_call x
unfolding whole_fields
same-call s t e x p q h =
    call_from_lem e ∙ ap (λ (v : List ℕ). call_from (whole v)) (sym (fields-of s e p)) ∙ ap call_from h
    ∙ ap (λ (v : List ℕ). call_from (whole v)) (fields-of t x q) ∙ sym (call_from_lem x)

same_answer : (s t : List ℕ) (e x : Event16) → read16_of s ≡ Ok e → read16_of t ≡ Ok x → record_call e ≡ record_call x → (xs : List ℕ)
    → (record_answer xs s ≡ record_answer xs t) × (record_memory xs s ≡ record_memory xs t)
unfolding reading_answer memory_of
same_answer s t e x p q h xs = rw (p, q, h) (refl, refl)

pub remainder-dropped : RemainderDropped
remainder-dropped = record {
  divided = λ s e p. time-of e ∙ ap (λ (v : List ℕ). get_or v 1 0 / 1000) (sym (fields-of s e p));
  alike = λ s t e x p q h. let c = same-call s t e x p q h in (c, same_answer s t e x p q c);
}
