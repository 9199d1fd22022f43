-- The times of records and of calls: a record counts microseconds, a call whole milliseconds. Assumes nothing.
use Rattle.std.specs.Prelude.{ℕ, ◌/◌, ◌≡◌, List, ◌∷◌, get_or, drop}
use Rattle.bits.specs.Fields.{fields_of}
use Rattle.machine.specs.Calls.{Call, order, lockout, offer, remaining, status, send, report, close}
use Rattle.records.specs.Event16.{widths16, read16_of}
use Rattle.records.specs.declared.Event16.{Event16}
use Rattle.std.specs.declared.result.Result.TheVariants.{Ok}
use Rattle.answering.specs.Run.{record_call, record_answer, record_memory}

-- the time of a call; Status has none, and no record asks for it
unfoldable pub call_time : Call → ℕ
call_time (order time root reset) = time
call_time (lockout time level root) = time
call_time (offer o) = o.time
call_time (remaining time rule unit) = time
call_time status = 0
call_time (send o identity reports) = o.time
call_time (report time identity contracts) = time
call_time (close time identity) = time

-- the microseconds of a record
abbrev pub stamp_of : List ℕ → ℕ
stamp_of s = get_or (fields_of widths16 s) 1 0

-- a record's fields with the time in whole milliseconds: two records have the same exactly if they differ in the remainder alone
unfoldable pub whole_fields : List ℕ → List ℕ
whole_fields s = get_or (fields_of widths16 s) 0 0 ∷ stamp_of s / 1000 ∷ drop 2 (fields_of widths16 s)

pub record RemainderDropped : Type 0 where
  -- the call's time is the record's divided by 1000, the remainder dropped
  pub divided : (s : List ℕ) (e : Event16) → read16_of s ≡ Ok e → call_time (record_call e) ≡ stamp_of s / 1000
  -- two records that differ only in that remainder ask for the same call, get the same answer and leave the same memory
  pub alike :
      (s t : List ℕ) (e x : Event16) → read16_of s ≡ Ok e → read16_of t ≡ Ok x → whole_fields s ≡ whole_fields t
      → (record_call e ≡ record_call x) × ((xs : List ℕ) → (record_answer xs s ≡ record_answer xs t) × (record_memory xs s ≡ record_memory xs t))
