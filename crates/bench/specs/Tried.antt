-- Rows beyond document 01's table: rules of one unit, units that count for themselves, FIRM and BOTH, T and E, resets in either order, lockouts at both levels, Status,
-- verdict 1, the refusals 12 to 14, a profile of firm rules alone, fills from away markets; and texts that Arm refuses. Assumes nothing.
use Rattle.std.specs.Prelude.{ℕ, ◌≤◌, ◌≡◌, List, [], ◌∷◌, ◌++◌, length, drop}
use Prim.Native.String.{String}
use Rattle.text.specs.Text.{bytes}
use Rattle.capi.specs.Rows.{arm_row, text_row}
use Rattle.machine.specs.Calls.{Call, order, lockout, remaining}
use Rattle.bench.specs.Lent.{Memory, Text, Verdict}
use Rattle.bench.specs.Library.{Library}
use Rattle.bench.specs.Rows.{Row}
use Rattle.bench.specs.Table.{fill, at, grants, leaves, leaves_on, order_row, lockout_row, standing_row, verdict_row, refused, offer_of}
use Rattle.bench.specs.Away.{away_rows}

-- a root that is full and a firm that is locked out, orders at one time, and what is left of the two root rules and of the firm's; nothing is locked then
abbrev cleaned : List (Call × List ℕ) → ℕ → ℕ → ℕ → Row
cleaned orders total logged firm = record {
  text = "ABCD,abs_vol,XYZ,10\nABCD,rate_vol,XYZ,50,1000\nABCD,abs_vol,,15,,T";
  windows = 0 ∷ 1000 ∷ 0 ∷ [];
  day = at 0 1 10 (grants 10 1 0) ∷ lockout_row 1 1 ∷ orders ++ (leaves 5 0 total ∷ leaves 5 1 logged ∷ leaves 5 2 firm ∷ standing_row 0 0 0 64 ∷ []);
}

-- two full roots and a locked firm, orders at one time, and how the roots stand then
abbrev apart : List (Call × List ℕ) → Row
apart orders = record {
  text = "ABCD,abs_vol,XYZ,10\nABCD,abs_vol,QRS,10";
  windows = 0 ∷ 0 ∷ [];
  day =
      fill 0 0 0 1 10 (grants 10 1 0)
      ∷ fill 0 1 0 1 10 (grants 10 1 0)
      ∷ standing_row 2 0 2 0
      ∷ lockout_row 1 1
      ∷ orders ++ (standing_row 0 0 0 64 ∷ leaves 5 0 10 ∷ leaves 5 1 10 ∷ []);
}

unfoldable pub tried : List Row
tried =
    -- a rule of one unit: calls trailing are cut, puts front are not
    record {
      text = "ABCD,abs_vol,XYZ,10,,,C,T";
      windows = 0 ∷ [];
      day = fill 0 0 2 1 500 (grants 500 0 0) ∷ leaves_on 1 0 0 10 ∷ refused (remaining 0 0 0) 13 ∷ fill 1 0 1 1 12 (grants 10 1 0) ∷ order_row 2 0 2 ∷ [];
    }
    -- each unit counts for itself: a unit that is tripped locks its root for the others too, and SYMBOL zeroes all four
    ∷ record {
      text = "ABCD,abs_vol,XYZ,100";
      windows = 0 ∷ [];
      day =
          fill 0 0 0 1 60 (grants 60 0 0)
          ∷ fill 1 0 1 1 70 (grants 70 0 0)
          ∷ fill 2 0 2 1 80 (grants 80 0 0)
          ∷ fill 3 0 3 1 90 (grants 90 0 0)
          ∷ leaves_on 0 4 0 40
          ∷ leaves_on 1 4 0 30
          ∷ leaves_on 2 4 0 20
          ∷ leaves_on 3 4 0 10
          ∷ fill 5 0 2 1 30 (grants 20 1 0)
          ∷ fill 6 0 0 1 1 (verdict_row 2)
          ∷ order_row 7 1 0
          ∷ leaves_on 0 7 0 100
          ∷ leaves_on 1 7 0 100
          ∷ leaves_on 2 7 0 100
          ∷ leaves_on 3 7 0 100
          ∷ [];
    }
    -- so does a rate rule: for an offer it counts the entries of the offer's unit alone
    ∷ record {
      text = "ABCD,rate_vol,XYZ,100,1000";
      windows = 1000 ∷ [];
      day = fill 0 0 0 1 60 (grants 60 0 0) ∷ fill 1 0 3 1 60 (grants 60 0 0) ∷ leaves_on 3 1 0 40 ∷ leaves_on 2 1 0 100 ∷ fill 2 0 0 1 60 (grants 40 1 0) ∷ [];
    }
    -- FIRM zeroes the firm's counter and leaves the root as it is; BOTH zeroes both; a locked firm comes before a locked root
    ∷ record {
      text = "ABCD,abs_vol,XYZ,10\nABCD,abs_vol,,15,,T";
      windows = 0 ∷ 0 ∷ [];
      day =
          at 0 1 10 (grants 10 1 0)
          ∷ order_row 1 1 0
          ∷ at 2 1 7 (grants 5 0 1)
          ∷ order_row 3 0 1
          ∷ order_row 4 1 1
          ∷ at 5 1 1 (verdict_row 1)
          ∷ order_row 6 2 0
          ∷ leaves 6 0 10
          ∷ leaves 6 1 15
          ∷ at 7 1 10 (grants 10 1 0)
          ∷ order_row 8 2 2
          ∷ leaves 8 0 0
          ∷ leaves 8 1 15
          ∷ order_row 9 3 0
          ∷ leaves 9 0 10
          ∷ leaves 9 1 15
          ∷ [];
    }
    -- T unlocks the root and forgets nothing: what remains is the same, the next offer on the unit at its limit gets 0 and trips again, and an offer
    -- on another unit is neither cut nor trips; T lifts a lockout too
    ∷ record {
      text = "ABCD,abs_vol,XYZ,10";
      windows = 0 ∷ [];
      day =
          at 0 1 10 (grants 10 1 0)
          ∷ order_row 1 0 2
          ∷ leaves 1 0 0
          ∷ order_row 2 4 0
          ∷ leaves 2 0 0
          ∷ fill 3 0 1 1 3 (grants 3 0 0)
          ∷ at 4 1 1 (grants 0 1 0)
          ∷ order_row 5 0 2
          ∷ lockout_row 6 0
          ∷ order_row 7 5 2
          ∷ order_row 8 4 0
          ∷ standing_row 0 0 0 64
          ∷ [];
    }
    -- E does so for the firm, and leaves the root locked; 6 is both
    ∷ record {
      text = "ABCD,abs_vol,XYZ,20\nABCD,abs_vol,,15,,T";
      windows = 0 ∷ 0 ∷ [];
      day =
          at 0 1 15 (grants 15 0 1)
          ∷ order_row 1 4 1
          ∷ leaves 1 1 0
          ∷ order_row 2 5 0
          ∷ leaves 2 1 0
          ∷ at 3 1 1 (grants 0 0 1)
          ∷ lockout_row 4 0
          ∷ lockout_row 4 1
          ∷ order_row 5 5 2
          ∷ lockout_row 6 1
          ∷ order_row 7 6 0
          ∷ leaves 7 0 5
          ∷ leaves 7 1 0
          ∷ [];
    }
    -- resets at one time in either order, and twice, leave what BOTH leaves, and T and E what 6 leaves
    ∷ cleaned (order_row 5 1 1 ∷ order_row 5 2 0 ∷ []) 10 50 15
    ∷ cleaned (order_row 5 2 2 ∷ order_row 5 1 0 ∷ []) 10 50 15
    ∷ cleaned (order_row 5 3 0 ∷ []) 10 50 15
    ∷ cleaned (order_row 5 3 0 ∷ order_row 5 3 0 ∷ []) 10 50 15
    ∷ cleaned (order_row 5 4 1 ∷ order_row 5 5 0 ∷ []) 0 40 5
    ∷ cleaned (order_row 5 5 2 ∷ order_row 5 4 0 ∷ []) 0 40 5
    ∷ cleaned (order_row 5 6 0 ∷ []) 0 40 5
    -- resets of two roots may be exchanged
    ∷ apart ((order 5 0 1, verdict_row 1) ∷ (order 5 1 1, verdict_row 1) ∷ [])
    ∷ apart ((order 5 1 1, verdict_row 1) ∷ (order 5 0 1, verdict_row 1) ∷ [])
    -- lockouts at both levels, and how two roots stand
    ∷ record {
      text = "ABCD,abs_vol,XYZ,10\nABCD,abs_vol,QRS,10";
      windows = 0 ∷ 0 ∷ [];
      day =
          standing_row 0 0 0 64
          ∷ fill 0 1 0 1 10 (grants 10 1 0)
          ∷ standing_row 1 0 1 1
          ∷ lockout_row 1 0
          ∷ standing_row 1 1 2 0
          ∷ at 2 1 1 (verdict_row 2)
          ∷ lockout_row 3 1
          ∷ order_row 4 0 1
          ∷ order_row 5 2 2
          ∷ order_row 6 1 0
          ∷ standing_row 1 0 1 1
          ∷ [];
    }
    -- 12, 13 and 14, and that 12 comes before 13, and 13 before 14
    ∷ record {
      text = "ABCD,abs_vol,XYZ,10";
      windows = 0 ∷ [];
      day =
          order_row 5 0 0
          ∷ refused (order 4 0 0) 12
          ∷ refused (order 86_400_000 9 9) 12
          ∷ refused (order 5 1 0) 13
          ∷ refused (order 5 0 7) 13
          ∷ refused (lockout 5 2 0) 13
          ∷ refused (lockout 5 1 1) 13
          ∷ refused (lockout 5 0 1) 13
          ∷ refused (offer_of 5 4 0 0) 13
          ∷ refused (offer_of 5 0 0 1) 14
          ∷ refused (offer_of 5 0 100_000_001 1) 14
          ∷ refused (offer_of 5 0 1 0) 14
          ∷ refused (offer_of 5 0 1 1_000_001) 14
          ∷ refused (remaining 4 0 9) 12
          ∷ refused (remaining 5 1 0) 13
          ∷ refused (remaining 5 0 4) 13
          ∷ leaves_on 3 5 0 10
          ∷ leaves 6 0 10
          ∷ order_row 5 0 0
          ∷ [];
    }
    -- a profile of firm rules alone has no root: orders and offers get 13
    ∷ record {
      text = "ABCD,abs_vol,,100,,T";
      windows = 0 ∷ [];
      day =
          refused (order 0 0 0) 13
          ∷ refused (offer_of 0 0 1 1) 13
          ∷ refused (lockout 0 0 0) 13
          ∷ lockout_row 0 1
          ∷ leaves 0 0 100
          ∷ refused (remaining 0 0 1) 13
          ∷ standing_row 0 0 0 64
          ∷ [];
    }
    ∷ away_rows

-- a text that Arm refuses, with the number and the line
pub record Fault : Type 0 where
  pub text : String
  pub number : ℕ
  pub line : ℕ

unfoldable pub refused_texts : List Fault
refused_texts =
    -- slip: arming with no rules
    record { text = ""; number = 5; line = 0 }
    ∷ record { text = "\n"; number = 6; line = 1 }
    ∷ record { text = "ABCD,abs_volume,XYZ,10"; number = 6; line = 1 }
    ∷ record { text = "ABCD,abs_vol,XYZ,10\nABCE,abs_vol,XYZ,10"; number = 7; line = 2 }
    ∷ record { text = "ABCD,abs_vol,XYZ,0"; number = 8; line = 1 }
    ∷ record { text = "ABCD,rate_vol,XYZ,1,86400001"; number = 8; line = 1 }
    ∷ record { text = "ABCD,abs_vol,XYZ,10,,T"; number = 9; line = 1 }
    ∷ record { text = "ABCD,abs_vol,,10"; number = 9; line = 1 }
    ∷ record { text = "ABCD,abs_vol,XYZ,10,,,C"; number = 10; line = 1 }
    ∷ record { text = "A,abs_vol,X,1\nA,abs_vol,X,1\nA,abs_vol,X,1\nA,abs_vol,X,1\nA,abs_vol,X,1\nA,abs_vol,X,1\nA,abs_vol,X,1"; number = 11; line = 7 }
    ∷ []

-- a library refuses a text so, and leaves the memory as it was
pub record Refuses (l : Library) (m : Memory) (fault : Fault) : Type 0 where
  pub text : Text
  pub is_text : text.now ≡ bytes fault.text
  pub row : arm_row (l.arm m text).answer ≡ fault.number ∷ fault.line ∷ 0 ∷ 0 ∷ 0 ∷ []
  pub kept : (l.arm m text).memory.now ≡ m.now

-- a library says the two texts, of 20 and 19 bytes, and leaves the room after them as it was
pub record Says (l : Library) (v : Verdict) (room : Text) : Type 0 where
  pub firm :
      v.number ≡ 1 → 20 ≤ length room.now
      → (text_row (l.text v room).answer ≡ 0 ∷ 20 ∷ 0 ∷ 0 ∷ 0 ∷ [])
      × ((l.text v room).room.now ≡ bytes "f: RiskMgmtFirmLevel" ++ drop 20 room.now)
  pub root :
      v.number ≡ 2 → 20 ≤ length room.now
      → (text_row (l.text v room).answer ≡ 0 ∷ 19 ∷ 0 ∷ 0 ∷ 0 ∷ [])
      × ((l.text v room).room.now ≡ bytes "s: RiskMgmtSymLevel" ++ drop 19 room.now)
