-- The rows on records come out, by computing. Assumes nothing.
use mathlib.Core.Path.{◌≡◌, refl}
use mathlib.Core.List.{List, [], ◌∷◌, map}
use Rattle.laws.specs.Lists.{same}
use Rattle.rules.specs.Allowance.{All}
use Rattle.bits.specs.Fields.{total, packed, unpacked, eights, fields_of, bytes_of}
use Rattle.records.specs.Form.{accepts, event_at, stands, record_of, wrote_values}
use Rattle.records.specs.Event.{values_of, event_of, is_valid}
use Rattle.records.specs.Event16.{values16_of, away_event_of, event16_of, is_valid16, form16, read16_of}
use Rattle.records.specs.Moves.{moving_of, moved_record, moved, widened, narrowed, moves_back, widening, narrowing}
use Rattle.answering.specs.Run.{record_call}
use Rattle.bench.specs.Records.{Tried16, tried16, tried_writing, written16, widened12, narrowed16, asked_calls, seen16, wanted16, seen_writing, seen_move, wanted_move, RecordRows}

-- lists made the same way, element by element
each : {A B : Type 0} (f g : A → B) (xs : List A) → map f xs ≡ map g xs → All (λ x. f x ≡ g x) xs
each f g [] e = tt
each f g (x ∷ xs) e =
    let first : f x ≡ g x = cc in
    let rest : map f xs ≡ map g xs = cc in (first, each f g xs rest)

read : map seen16 tried16 ≡ map wanted16 tried16
unfolding tried16 seen16 wanted16 read16_of accepts event_at stands same values16_of away_event_of event16_of is_valid16 moving_of moves_back total packed unpacked eights fields_of bytes_of
read = refl

wrote : map seen_writing tried_writing ≡ map (λ row. row.refusal) tried_writing
unfolding tried_writing seen_writing wrote_values stands same values16_of away_event_of event16_of is_valid16
wrote = refl

written : map (λ row. record_of form16 row.0) written16 ≡ map (λ row. row.1) written16
unfolding written16 record_of values16_of total packed unpacked eights bytes_of
written = refl

moves : map (seen_move widening) widened12 ≡ map wanted_move widened12
unfolding widened12 seen_move wanted_move moving_of moved moved_record widened accepts stands same values_of event_of is_valid total packed unpacked eights fields_of bytes_of
moves = refl

back : map (seen_move narrowing) narrowed16 ≡ map wanted_move narrowed16
unfolding narrowed16 seen_move wanted_move moving_of moved moved_record narrowed moves_back accepts stands same values16_of away_event_of event16_of is_valid16 total packed unpacked eights fields_of bytes_of
back = refl

calls : map (λ row. record_call row.0) asked_calls ≡ map (λ row. row.1) asked_calls
unfolding asked_calls record_call
calls = refl

pub record-rows : RecordRows
record-rows = record {
  read = each seen16 wanted16 tried16 read;
  wrote = each seen_writing (λ row. row.refusal) tried_writing wrote;
  written = each (λ row. record_of form16 row.0) (λ row. row.1) written16 written;
  widened = each (seen_move widening) wanted_move widened12 moves;
  narrowed = each (seen_move narrowing) wanted_move narrowed16 back;
  calls = each (λ row. record_call row.0) (λ row. row.1) asked_calls calls;
}
