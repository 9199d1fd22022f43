-- Document 01's bench table, B1 to B12, the worked examples of document 001 and the slips seen at the bench. Assumes nothing.
use Rattle.std.specs.Prelude.{ℕ, zero, suc, ◌+◌, List, [], ◌∷◌, ◌++◌}
use Rattle.machine.specs.Calls.{Call, order, lockout, offer, remaining, status}
use Rattle.bench.specs.Rows.{Row}

-- an offer of contracts of a root's unit at a premium in ten-thousandths: the refusal, verdict, grant, root trip and firm trip that it gets
abbrev pub fill : ℕ → ℕ → ℕ → ℕ → ℕ → List ℕ → Call × List ℕ
fill time root unit premium contracts answer =
    (offer (record { time = time; root = root; unit = unit; premium = premium; contracts = contracts }), answer)

-- of root 0, on unit 0
abbrev pub at : ℕ → ℕ → ℕ → List ℕ → Call × List ℕ
at time premium contracts answer = fill time 0 0 premium contracts answer

-- a grant, with the root trip and the firm trip
abbrev pub grants : ℕ → ℕ → ℕ → List ℕ
grants grant roottrip firmtrip = 0 ∷ 0 ∷ grant ∷ roottrip ∷ firmtrip ∷ []

-- what remains of a rule's limit for a unit at a time, in ten-thousandths, contracts or executions
abbrev pub leaves_on : ℕ → ℕ → ℕ → ℕ → Call × List ℕ
leaves_on unit time rule left = (remaining time rule unit, 0 ∷ left ∷ 0 ∷ 0 ∷ 0 ∷ [])

-- for unit 0, which is that of a firm rule's one count too
abbrev pub leaves : ℕ → ℕ → ℕ → Call × List ℕ
leaves time rule left = leaves_on 0 time rule left

-- an order for root 0 with a reset, and its verdict
abbrev pub order_row : ℕ → ℕ → ℕ → Call × List ℕ
order_row time reset verdict = (order time 0 reset, 0 ∷ verdict ∷ 0 ∷ 0 ∷ 0 ∷ [])

-- a lockout of root 0 or of the firm: verdict 0
abbrev pub lockout_row : ℕ → ℕ → Call × List ℕ
lockout_row time level = (lockout time level 0, 0 ∷ 0 ∷ 0 ∷ 0 ∷ 0 ∷ [])

-- how many roots are tripped, locked by the user, locked at all, and the lowest locked root
abbrev pub standing_row : ℕ → ℕ → ℕ → ℕ → Call × List ℕ
standing_row tripped user locked lowest = (status, 0 ∷ tripped ∷ user ∷ locked ∷ lowest ∷ [])

-- a verdict, with nothing granted and nothing tripped
abbrev pub verdict_row : ℕ → List ℕ
verdict_row verdict = 0 ∷ verdict ∷ 0 ∷ 0 ∷ 0 ∷ []

-- a refusal
abbrev pub refused : Call → ℕ → Call × List ℕ
refused call number = (call, number ∷ 0 ∷ 0 ∷ 0 ∷ 0 ∷ [])

-- an offer of root 0
abbrev pub offer_of : ℕ → ℕ → ℕ → ℕ → Call
offer_of time unit premium contracts = offer (record { time = time; root = 0; unit = unit; premium = premium; contracts = contracts })

-- n fills of 1 contract at $1, one a millisecond from 0 on, all granted
abbrev ones : ℕ → List (Call × List ℕ)
ones zero = []
ones (suc n) = ones n ++ (at n 10_000 1 (grants 1 0 0) ∷ [])

-- n fills of 500 contracts at $1, one a second from 0 on, all granted
abbrev steady : ℕ → List (Call × List ℕ)
steady zero = []
steady (suc n) = steady n ++ (at (seconds n) 10_000 500 (grants 500 0 0) ∷ [])
  where
    seconds : ℕ → ℕ
    seconds zero = 0
    seconds (suc k) = seconds k + 1000

unfoldable pub bench_table : List Row
bench_table =
    -- B1: $980 of $1,000 a minute counted; 2 of 3 at $7 make $994
    record {
      text = "ABCD,rate_ntnl,XYZ,1000,60000";
      windows = 60_000 ∷ [];
      day = at 0 70_000 140 (grants 140 0 0) ∷ leaves 1 0 200_000 ∷ at 1 70_000 3 (grants 2 1 0) ∷ leaves 1 0 60_000 ∷ [];
    }
    -- B2: 400, 19,000 and $25,000 counted; 100 of 200 at $1; SYMBOL zeroes all three
    ∷ record {
      text = "ABCD,rate_vol,MSFT,500,1000\nABCD,rate_vol,MSFT,20000,60000\nABCD,abs_ntnl,MSFT,100000";
      windows = 1000 ∷ 60_000 ∷ 0 ∷ [];
      day =
          steady 37
          ++ (at 37_000 610_000 100 (grants 100 0 0)
          ∷ at 38_000 10_000 400 (grants 400 0 0)
          ∷ leaves 38_500 0 100
          ∷ leaves 38_500 1 1000
          ∷ leaves 38_500 2 750_000_000
          ∷ at 38_500 10_000 200 (grants 100 1 0)
          ∷ order_row 38_600 0 2
          ∷ order_row 38_600 1 0
          ∷ leaves 38_600 0 500
          ∷ leaves 38_600 1 20_000
          ∷ leaves 38_600 2 1_000_000_000
          ∷ []);
    }
    -- B3: an absolute rule that is just reached trips
    ∷ record { text = "ABCD,abs_vol,XYZ,1000"; windows = 0 ∷ []; day = at 0 70_000 950 (grants 950 0 0) ∷ at 10 70_000 50 (grants 50 1 0) ∷ [] }
    -- B4: a rate rule that is just reached does not
    ∷ record {
      text = "ABCD,rate_vol,XYZ,1000,1000";
      windows = 1000 ∷ [];
      day = at 0 70_000 950 (grants 950 0 0) ∷ at 10 70_000 50 (grants 50 0 0) ∷ [];
    }
    -- B5: the window is W successive milliseconds
    ∷ record { text = "ABCD,rate_count,XYZ,10,1000"; windows = 1000 ∷ []; day = ones 10 ++ (at 999 10_000 1 (grants 0 1 0) ∷ []) }
    -- B6
    ∷ record { text = "ABCD,rate_count,XYZ,10,1000"; windows = 1000 ∷ []; day = ones 10 ++ (at 1000 10_000 1 (grants 1 0 0) ∷ []) }
    -- B7: the tenth fill is granted and trips
    ∷ record { text = "ABCD,abs_count,XYZ,10"; windows = 0 ∷ []; day = ones 9 ++ (at 9 10_000 1 (grants 1 1 0) ∷ []) }
    -- B8: 1 at $21 does not fit $20, by an absolute rule and by a rate rule
    ∷ record { text = "ABCD,abs_ntnl,XYZ,1000"; windows = 0 ∷ []; day = at 0 70_000 140 (grants 140 0 0) ∷ at 1 210_000 1 (grants 0 1 0) ∷ [] }
    ∷ record {
      text = "ABCD,rate_ntnl,XYZ,1000,1000";
      windows = 1000 ∷ [];
      day = at 0 70_000 140 (grants 140 0 0) ∷ at 1 210_000 1 (grants 0 1 0) ∷ [];
    }
    -- B9: the root and the firm have 5 left
    ∷ record {
      text = "ABCD,rate_vol,XYZ,100,1000\nABCD,rate_vol,,100,1000,T";
      windows = 1000 ∷ 1000 ∷ [];
      day = at 0 10_000 95 (grants 95 0 0) ∷ at 1 10_000 8 (grants 5 1 1) ∷ [];
    }
    -- B10: the firm has 7
    ∷ record {
      text = "ABCD,rate_vol,XYZ,100,1000\nABCD,rate_vol,,102,1000,T";
      windows = 1000 ∷ 1000 ∷ [];
      day = at 0 10_000 95 (grants 95 0 0) ∷ at 1 10_000 8 (grants 5 1 0) ∷ [];
    }
    -- B11: windows of 100, 100, 100 and 101, and what they count at 100 ms
    ∷ record {
      text = "ABCD,rate_vol,R0,1\nABCD,rate_vol,R1,1,0\nABCD,rate_vol,R2,1,99\nABCD,rate_vol,R3,1,101";
      windows = 100 ∷ 100 ∷ 100 ∷ 101 ∷ [];
      day =
          fill 0 0 0 1 1 (grants 1 0 0)
          ∷ fill 0 1 0 1 1 (grants 1 0 0)
          ∷ fill 0 2 0 1 1 (grants 1 0 0)
          ∷ fill 0 3 0 1 1 (grants 1 0 0)
          ∷ leaves 99 0 0
          ∷ leaves 99 1 0
          ∷ leaves 99 2 0
          ∷ fill 100 0 0 1 1 (grants 1 0 0)
          ∷ fill 100 1 0 1 1 (grants 1 0 0)
          ∷ fill 100 2 0 1 1 (grants 1 0 0)
          ∷ fill 100 3 0 1 1 (grants 0 1 0)
          ∷ [];
    }
    -- B12: a rule without unit fields counts each of the four units for itself
    ∷ record { text = "ABCD,abs_vol,XYZ,100"; windows = 0 ∷ []; day = fill 0 0 0 1 60 (grants 60 0 0) ∷ fill 1 0 3 1 60 (grants 60 0 0) ∷ [] }
    ∷ []

unfoldable pub examples : List Row
examples =
    -- 5 at $3 and 7 at $2 make $29
    record {
      text = "ABCD,abs_ntnl,XYZ,1000";
      windows = 0 ∷ [];
      day = at 0 30_000 5 (grants 5 0 0) ∷ at 1 20_000 7 (grants 7 0 0) ∷ leaves 2 0 9_710_000 ∷ [];
    }
    -- 950 of 1000 contracts are done: 50 of 200, and then the root is locked
    ∷ record {
      text = "ABCD,abs_vol,XYZ,1000,0";
      windows = 0 ∷ [];
      day = at 0 70_000 950 (grants 950 0 0) ∷ at 10 70_000 200 (grants 50 1 0) ∷ order_row 20 0 2 ∷ [];
    }
    -- an eleventh execution within a second fails
    ∷ record {
      text = "ABCD,rate_count,XYZ,10,1000";
      windows = 1000 ∷ [];
      day = ones 10 ++ (at 500 10_000 1 (grants 0 1 0) ∷ order_row 501 0 2 ∷ []);
    }
    -- $100 a second, $5,000 in five minutes, 10,000 executions: the burst is cut first
    ∷ record {
      text = "ABCD,rate_ntnl,XYZ,100,1000\nABCD,rate_ntnl,XYZ,5000,300000\nABCD,abs_count,XYZ,10000";
      windows = 1000 ∷ 300_000 ∷ 0 ∷ [];
      day = at 0 10_000 60 (grants 60 0 0) ∷ at 1 10_000 60 (grants 40 1 0) ∷ leaves 2 1 49_000_000 ∷ leaves 2 2 9998 ∷ [];
    }
    -- slip: buckets restarted each second. Fills at 999 and 1000 are in one window
    ∷ record {
      text = "ABCD,rate_count,XYZ,2,1000";
      windows = 1000 ∷ [];
      day = at 999 10_000 1 (grants 1 0 0) ∷ at 1000 10_000 1 (grants 1 0 0) ∷ at 1001 10_000 1 (grants 0 1 0) ∷ [];
    }
    -- slip: a SYMBOL reset that hides root fills from firm rules
    ∷ record {
      text = "ABCD,rate_vol,XYZ,10,1000\nABCD,rate_vol,,10,1000,T";
      windows = 1000 ∷ 1000 ∷ [];
      day = at 0 10_000 6 (grants 6 0 0) ∷ order_row 1 1 0 ∷ leaves 1 0 10 ∷ leaves 1 1 4 ∷ at 1 10_000 6 (grants 4 0 1) ∷ [];
    }
    ∷ []
