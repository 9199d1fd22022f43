-- What a form of record owes, so that reading and writing undo each other, and that the code's numbers are its own. Assumes nothing.
use Rattle.std.specs.Prelude.{ℕ, ◌≡◌, ◌*◌, ◌≤◌, ◌<◌, Bool, true, List, length, get_or}
use Rattle.bits.specs.Fields.{total, Fit}
use Rattle.records.specs.Form.{Form}

-- what a form owes: its bytes are 9 to 16, its fields are of 1 to 63 bits and fill its bytes, a valid event fits them, and an event's values stand for
-- that event

pub record Lawful {E : Type 0} (F : Form E) : Type 0 where
  pub long : (9 ≤ F.size) × (F.size ≤ 16)
  pub each : (k : ℕ) → k < length F.widths → (1 ≤ get_or F.widths k 0) × (get_or F.widths k 0 ≤ 63)
  pub full : total F.widths ≡ F.size * 8
  pub fit : (e : E) → F.valid e ≡ true → Fit F.widths (F.values e)
  pub back : (e : E) → F.event (F.values e) ≡ e

-- a lawful form with so many bytes and these widths
pub record Held {E : Type 0} (F : Form E) (bytes : ℕ) (widths : List ℕ) : Type 0 where
  pub lawful : Lawful F
  pub sized : F.size ≡ bytes
  pub wide : F.widths ≡ widths
