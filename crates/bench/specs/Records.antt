-- Rows on event records: what reading, writing and moving them answers at each edge, the bytes of each kind, and the call that an event asks for.
-- Assumes nothing.
use Rattle.std.specs.Prelude.{ℕ, ◌≡◌, List, [], ◌∷◌, ◌++◌, length, take, set, replicate}
use Rattle.bits.specs.Fields.{bytes_of}
use Rattle.machine.specs.Calls.{Call, order, lockout, offer, send, report, close}
use Rattle.refusals.specs.Numbers.{refused_with}
use Rattle.records.specs.Form.{record_of, wrote_values}
use Rattle.records.specs.Event16.{bytes16, widths16, form16, read16_of}
use Rattle.records.specs.Moves.{Move, moving_of, moved, widening, narrowing}
use Rattle.records.specs.declared.Event16.{Event16}
use Rattle.answering.specs.Run.{record_call}
use Rattle.rules.specs.Allowance.{All}
use Rattle.records.specs.declared.Event16.TheVariants.{Order, Offer, Lockout, Sending, Report, Closing}

-- the fields of each kind, those that it does not use at 0
abbrev ordered : ℕ → ℕ → List ℕ
ordered time reset = 0 ∷ time ∷ 0 ∷ 0 ∷ 0 ∷ 0 ∷ reset ∷ 0 ∷ 0 ∷ 0 ∷ 0 ∷ []

abbrev offers : ℕ → ℕ → ℕ → List ℕ
offers time premium contracts = 1 ∷ time ∷ 0 ∷ 0 ∷ premium ∷ contracts ∷ 0 ∷ 0 ∷ 0 ∷ 0 ∷ 0 ∷ []

abbrev locks : ℕ → ℕ → ℕ → List ℕ
locks time root level = 2 ∷ time ∷ root ∷ 0 ∷ 0 ∷ 0 ∷ 0 ∷ level ∷ 0 ∷ 0 ∷ 0 ∷ []

abbrev sent : ℕ → ℕ → ℕ → List ℕ
sent time identity reports = 3 ∷ time ∷ 0 ∷ 0 ∷ 1 ∷ 1 ∷ 0 ∷ 0 ∷ identity ∷ reports ∷ 0 ∷ []

abbrev reported : ℕ → ℕ → ℕ → List ℕ
reported time identity contracts = 4 ∷ time ∷ 0 ∷ 0 ∷ 0 ∷ contracts ∷ 0 ∷ 0 ∷ identity ∷ 0 ∷ 0 ∷ []

abbrev closed : ℕ → ℕ → List ℕ
closed time identity = 5 ∷ time ∷ 0 ∷ 0 ∷ 0 ∷ 0 ∷ 0 ∷ 0 ∷ identity ∷ 0 ∷ 0 ∷ []

-- the bytes of such fields
abbrev pub packs : List ℕ → List ℕ
packs v = bytes_of bytes16 widths16 v

-- bytes, what reading them as a record of 16 is refused with, and what moving them to so many bytes of room is; 0 where it is done
pub record Tried16 : Type 0 where
  pub bytes : List ℕ
  pub reading : ℕ
  pub room : ℕ
  pub moving : ℕ

-- a record that moves back, one that has no place in the old form, and bytes that are none: these last two are refused so with no room too
abbrev both : List ℕ → Tried16
both v = record { bytes = packs v; reading = 0; room = 12; moving = 0 }

abbrev new_alone : List ℕ → Tried16
new_alone v = record { bytes = packs v; reading = 0; room = 0; moving = 20 }

abbrev faulty : List ℕ → Tried16
faulty v = record { bytes = packs v; reading = 16; room = 0; moving = 16 }

unfoldable pub tried16 : List Tried16
tried16 =
    -- the ends of time, a multiple of 1000 or not; resets to 3 and to 6; the two levels
    both (ordered 0 0)
    ∷ both (ordered 86_399_999_000 3)
    ∷ new_alone (ordered 86_399_999_999 0)
    ∷ new_alone (ordered 999 0)
    ∷ new_alone (ordered 0 4)
    ∷ new_alone (ordered 0 6)
    ∷ both (offers 1000 1 1)
    ∷ both (offers 86_399_999_000 100_000_000 1_000_000)
    ∷ new_alone (offers 1001 1 1)
    ∷ both (locks 5000 63 0)
    ∷ both (locks 5000 0 1)
    ∷ new_alone (locks 5500 0 1)
    -- kinds 3 to 5 have no old record, at any time
    ∷ new_alone (sent 0 0 1)
    ∷ new_alone (sent 86_399_999_999 65_535 16)
    ∷ new_alone (reported 0 65_535 1_000_000)
    ∷ new_alone (closed 1000 65_535)
    -- a record that would move finds no room
    ∷ record { bytes = packs (ordered 0 0); reading = 0; room = 11; moving = 1 }
    -- kinds above 5, a time past the day, resets above 6, reports out of range
    ∷ faulty (set (ordered 0 0) 0 6)
    ∷ faulty (set (ordered 0 0) 0 15)
    ∷ faulty (ordered 86_400_000_000 0)
    ∷ faulty (closed 86_400_000_000 0)
    ∷ faulty (ordered 0 7)
    ∷ faulty (ordered 0 15)
    ∷ faulty (sent 0 0 0)
    ∷ faulty (sent 0 0 17)
    -- premium and contracts out of range, a root of a firm's lockout
    ∷ faulty (offers 0 0 1)
    ∷ faulty (offers 0 100_000_001 1)
    ∷ faulty (offers 0 1 0)
    ∷ faulty (offers 0 1 1_000_001)
    ∷ faulty (set (sent 0 0 1) 4 0)
    ∷ faulty (reported 0 0 0)
    ∷ faulty (reported 0 0 1_000_001)
    ∷ faulty (locks 0 7 1)
    -- a field that the kind does not use, and the spare bits from the first to the last
    ∷ faulty (set (ordered 0 0) 8 1)
    ∷ faulty (set (offers 0 1 1) 9 1)
    ∷ faulty (set (locks 0 0 0) 6 1)
    ∷ faulty (set (sent 0 0 1) 6 1)
    ∷ faulty (set (reported 0 0 1) 2 1)
    ∷ faulty (set (reported 0 0 1) 9 1)
    ∷ faulty (set (closed 0 0) 5 1)
    ∷ faulty (set (ordered 0 0) 10 1)
    ∷ faulty (set (ordered 0 0) 10 32)
    -- not 16 bytes
    ∷ record { bytes = []; reading = 16; room = 12; moving = 16 }
    ∷ record { bytes = take 15 (packs (ordered 0 0)); reading = 16; room = 12; moving = 16 }
    ∷ record { bytes = packs (ordered 0 0) ++ (0 ∷ []); reading = 16; room = 12; moving = 16 }
    ∷ []

-- fields to be written, how much room there is, and what that is refused with: 16 before 1
pub record TriedWriting : Type 0 where
  pub fields : List ℕ
  pub room : ℕ
  pub refusal : ℕ

unfoldable pub tried_writing : List TriedWriting
tried_writing =
    record { fields = sent 0 0 1; room = 16; refusal = 0 }
    ∷ record { fields = sent 0 0 1; room = 15; refusal = 1 }
    ∷ record { fields = sent 0 0 0; room = 15; refusal = 16 }
    -- numbers too wide for their fields
    ∷ record { fields = set (ordered 0 0) 0 16; room = 16; refusal = 16 }
    ∷ record { fields = ordered 137_438_953_472 0; room = 16; refusal = 16 }
    ∷ record { fields = ordered 0 16; room = 16; refusal = 16 }
    ∷ record { fields = sent 0 65_536 1; room = 16; refusal = 16 }
    ∷ record { fields = sent 0 0 33; room = 16; refusal = 16 }
    ∷ []

-- the bytes of an event of each kind
unfoldable pub written16 : List (Event16 × List ℕ)
written16 =
    (Order 20_000 0 4, 0x00 ∷ 0x00 ∷ 0x00 ∷ 0x27 ∷ 0x10 ∷ 0x00 ∷ 0x00 ∷ 0x00 ∷ 0x00 ∷ 0x00 ∷ 0x00 ∷ 0x00 ∷ 0x40 ∷ 0x00 ∷ 0x00 ∷ 0x00 ∷ [])
    ∷ (Offer 10_000 0 0 70_000 200, 0x10 ∷ 0x00 ∷ 0x00 ∷ 0x13 ∷ 0x88 ∷ 0x00 ∷ 0x00 ∷ 0x11 ∷ 0x17 ∷ 0x00 ∷ 0x00 ∷ 0xC8 ∷ 0x00 ∷ 0x00 ∷ 0x00 ∷ 0x00 ∷ [])
    ∷ (Lockout 1_100_000 1 0, 0x20 ∷ 0x00 ∷ 0x08 ∷ 0x64 ∷ 0x70 ∷ 0x00 ∷ 0x00 ∷ 0x00 ∷ 0x00 ∷ 0x00 ∷ 0x00 ∷ 0x00 ∷ 0x08 ∷ 0x00 ∷ 0x00 ∷ 0x00 ∷ [])
    ∷ (Sending 10_999 0 0 70_000 200 7 2, 0x30 ∷ 0x00 ∷ 0x00 ∷ 0x15 ∷ 0x7B ∷ 0x80 ∷ 0x00 ∷ 0x11 ∷ 0x17 ∷ 0x00 ∷ 0x00 ∷ 0xC8 ∷ 0x00 ∷ 0x00 ∷ 0x38 ∷ 0x80 ∷ [])
    ∷ (Report 10_999 7 150, 0x40 ∷ 0x00 ∷ 0x00 ∷ 0x15 ∷ 0x7B ∷ 0x80 ∷ 0x00 ∷ 0x00 ∷ 0x00 ∷ 0x00 ∷ 0x00 ∷ 0x96 ∷ 0x00 ∷ 0x00 ∷ 0x38 ∷ 0x00 ∷ [])
    ∷ (Closing 11_000 7, 0x50 ∷ 0x00 ∷ 0x00 ∷ 0x15 ∷ 0x7C ∷ 0x00 ∷ 0x00 ∷ 0x00 ∷ 0x00 ∷ 0x00 ∷ 0x00 ∷ 0x00 ∷ 0x00 ∷ 0x00 ∷ 0x38 ∷ 0x00 ∷ [])
    ∷ []

-- the scope's example, and the bytes that it moves to
abbrev pub old : List ℕ
old = 0x40 ∷ 0x00 ∷ 0x00 ∷ 0x50 ∷ 0x00 ∷ 0x01 ∷ 0x11 ∷ 0x70 ∷ 0x00 ∷ 0x0C ∷ 0x80 ∷ 0x00 ∷ []

abbrev pub new : List ℕ
new = 0x10 ∷ 0x00 ∷ 0x00 ∷ 0x13 ∷ 0x88 ∷ 0x00 ∷ 0x00 ∷ 0x11 ∷ 0x17 ∷ 0x00 ∷ 0x00 ∷ 0xC8 ∷ 0x00 ∷ 0x00 ∷ 0x00 ∷ 0x00 ∷ []

-- bytes, the room that they are moved to, the refusal, and what the room holds then
pub record TriedMove : Type 0 where
  pub bytes : List ℕ
  pub room : List ℕ
  pub refusal : ℕ
  pub left : List ℕ

-- so many bytes of 255
abbrev full : ℕ → List ℕ
full n = replicate n 255

unfoldable pub widened12 : List TriedMove
widened12 =
    record { bytes = old; room = full 16; refusal = 0; left = new }
    ∷ record { bytes = old; room = full 18; refusal = 0; left = new ++ full 2 }
    ∷ record { bytes = old; room = full 15; refusal = 1; left = full 15 }
    ∷ record { bytes = take 11 old; room = full 15; refusal = 16; left = full 15 }
    ∷ record { bytes = set old 0 0xC0; room = full 16; refusal = 16; left = full 16 }
    ∷ []

unfoldable pub narrowed16 : List TriedMove
narrowed16 =
    record { bytes = new; room = full 12; refusal = 0; left = old }
    ∷ record { bytes = new; room = full 14; refusal = 0; left = old ++ full 2 }
    ∷ record { bytes = new; room = full 11; refusal = 1; left = full 11 }
    ∷ record { bytes = set new 5 0x80; room = full 11; refusal = 20; left = full 11 }
    ∷ record { bytes = set new 15 0x01; room = full 11; refusal = 16; left = full 11 }
    ∷ []

-- the call that an event asks for: whole milliseconds, the remainder dropped
unfoldable pub asked_calls : List (Event16 × Call)
asked_calls =
    (Order 1_999 0 4, order 1 0 4)
    ∷ (Order 1_001 0 5, order 1 0 5)
    ∷ (Order 999 0 0, order 0 0 0)
    ∷ (Order 86_399_999_999 63 6, order 86_399_999 63 6)
    ∷ (Offer 10_999 0 0 70_000 200, offer (record { time = 10; root = 0; unit = 0; premium = 70_000; contracts = 200 }))
    ∷ (Lockout 5_500 1 0, lockout 5 1 0)
    ∷ (Sending 23_456 0 1 70_000 300 65_535 2, send (record { time = 23; root = 0; unit = 1; premium = 70_000; contracts = 300 }) 65_535 2)
    ∷ (Report 24_000 7 100, report 24 7 100)
    ∷ (Closing 24_999 7, close 24 7)
    ∷ []

-- what is seen of a row, and what has to be
unfoldable pub seen16 : Tried16 → List ℕ
seen16 row = refused_with (read16_of row.bytes) ∷ refused_with (moving_of narrowing row.bytes row.room) ∷ []

unfoldable pub wanted16 : Tried16 → List ℕ
wanted16 row = row.reading ∷ row.moving ∷ []

unfoldable pub seen_writing : TriedWriting → ℕ
seen_writing row = refused_with (wrote_values form16 row.fields row.room)

module _ {E X : Type 0} (M : Move E X) where
  unfoldable pub seen_move : TriedMove → List ℕ
  seen_move row = refused_with (moving_of M row.bytes (length row.room)) ∷ moved M row.bytes row.room

unfoldable pub wanted_move : TriedMove → List ℕ
wanted_move row = row.refusal ∷ row.left

-- every row comes out
pub record RecordRows : Type 0 where
  pub read : All (λ row. seen16 row ≡ wanted16 row) tried16
  pub wrote : All (λ row. seen_writing row ≡ row.refusal) tried_writing
  pub written : All (λ row. record_of form16 row.0 ≡ row.1) written16
  pub widened : All (λ row. seen_move widening row ≡ wanted_move row) widened12
  pub narrowed : All (λ row. seen_move narrowing row ≡ wanted_move row) narrowed16
  pub calls : All (λ row. record_call row.0 ≡ row.1) asked_calls
