-- Rows of fills from away markets: orders sent away, their reports and their closing, and the refusals 17 to 19 and 15. Assumes nothing.
use Rattle.std.specs.Prelude.{ℕ, zero, suc, List, [], ◌∷◌, ◌++◌}
use Rattle.machine.specs.Calls.{Call, order, send, report, close}
use Rattle.bench.specs.Rows.{Row}
use Rattle.bench.specs.Table.{fill, at, grants, leaves, leaves_on, order_row, lockout_row, standing_row, verdict_row, refused, offer_of}

-- an order of contracts of root 0, unit 0, at a premium of 1, to be sent away under an identity with so many reports
abbrev sends : ℕ → ℕ → ℕ → ℕ → Call
sends time contracts identity reports = send (record { time = time; root = 0; unit = 0; premium = 1; contracts = contracts }) identity reports

-- it is sent
abbrev goes : ℕ → ℕ → ℕ → ℕ → Call × List ℕ
goes time contracts identity reports = (sends time contracts identity reports, verdict_row 0)

-- so many contracts came back, and the answer
abbrev back : ℕ → ℕ → ℕ → List ℕ → Call × List ℕ
back time identity contracts answer = (report time identity contracts, answer)

-- it is closed
abbrev ends : ℕ → ℕ → Call × List ℕ
ends time identity = (close time identity, verdict_row 0)

-- n orders of 16 reports each, under the identities from 0 on, all sent at time 0
abbrev many : ℕ → List (Call × List ℕ)
many zero = []
many (suc n) = many n ++ (goes 0 100 n 16 ∷ [])

-- n offers of 1 at time 0, all granted
abbrev fills : ℕ → List (Call × List ℕ)
fills zero = []
fills (suc n) = fills n ++ (at 0 1 1 (grants 1 0 0) ∷ [])

unfoldable pub away_rows : List Row
away_rows =
    -- what comes back counts as a grant does: an offer is cut by it, an absolute rule trips when it is reached, and what is left of the order is
    -- looked at before each report
    record {
      text = "ABCD,abs_vol,XYZ,100";
      windows = 0 ∷ [];
      day =
          goes 0 90 7 3
          ∷ leaves 0 0 100
          ∷ back 1 7 60 (grants 60 0 0)
          ∷ leaves 1 0 40
          ∷ refused (report 1 7 31) 19
          ∷ at 2 1 50 (grants 40 1 0)
          ∷ order_row 3 0 2
          ∷ refused (report 2 7 1) 12
          ∷ back 4 7 20 (grants 20 1 0)
          ∷ leaves 4 0 0
          ∷ back 5 7 10 (grants 10 1 0)
          ∷ refused (report 5 7 1) 19
          ∷ refused (sends 5 1 7 1) 18
          ∷ ends 6 7
          ∷ refused (report 6 7 1) 18
          ∷ refused (close 6 7) 18
          ∷ order_row 7 1 0
          ∷ goes 8 100 7 1
          ∷ back 9 7 99 (grants 99 0 0)
          ∷ refused (report 9 7 1) 19
          ∷ [];
    }
    -- an absolute rule trips at its limit, and a report that passes it is counted whole
    ∷ record {
      text = "ABCD,abs_vol,XYZ,100";
      windows = 0 ∷ [];
      day = goes 0 500 1 2 ∷ back 0 1 100 (grants 100 1 0) ∷ order_row 0 4 0 ∷ back 1 1 400 (grants 400 1 0) ∷ leaves 1 0 0 ∷ standing_row 1 0 1 0 ∷ [];
    }
    -- a rate rule trips above its limit, not at it; the firm's rules count what came back too
    ∷ record {
      text = "ABCD,rate_vol,XYZ,100,1000\nABCD,abs_vol,,500,,T";
      windows = 1000 ∷ 0 ∷ [];
      day =
          goes 0 100 1 1
          ∷ goes 0 400 2 2
          ∷ back 0 1 100 (grants 100 0 0)
          ∷ leaves 0 0 0
          ∷ leaves 0 1 400
          ∷ back 1 2 1 (grants 1 1 0)
          ∷ at 2 1 1 (verdict_row 2)
          ∷ back 1001 2 399 (grants 399 1 1)
          ∷ order_row 1001 1 1
          ∷ leaves 1001 0 100
          ∷ [];
    }
    -- a report counts on the unit and at the premium that were sent
    ∷ record {
      text = "ABCD,abs_ntnl,XYZ,1";
      windows = 0 ∷ [];
      day =
          (send (record { time = 0; root = 0; unit = 2; premium = 2_500; contracts = 4 }) 9 2, verdict_row 0)
          ∷ back 0 9 3 (grants 3 0 0)
          ∷ leaves_on 2 0 0 2_500
          ∷ leaves_on 1 0 0 10_000
          ∷ back 0 9 1 (grants 1 1 0)
          ∷ [];
    }
    -- a sending is judged as an order without reset: locked out, it enters nothing; a report finds its order through any lock and any reset
    ∷ record {
      text = "ABCD,abs_vol,XYZ,10\nABCD,abs_vol,,20,,T";
      windows = 0 ∷ 0 ∷ [];
      day =
          goes 0 10 1 2
          ∷ lockout_row 1 0
          ∷ (sends 1 5 2 1, verdict_row 2)
          ∷ refused (report 1 2 1) 18
          ∷ lockout_row 2 1
          ∷ (sends 2 5 2 1, verdict_row 1)
          ∷ refused (sends 2 5 1 1) 18
          ∷ back 3 1 4 (grants 4 0 0)
          ∷ order_row 4 3 0
          ∷ leaves 4 0 10
          ∷ back 5 1 6 (grants 6 0 0)
          ∷ leaves 5 0 4
          ∷ ends 5 1
          ∷ [];
    }
    -- 12, 13 and 14, each before the next, and 18 before 19
    ∷ record {
      text = "ABCD,abs_vol,XYZ,10";
      windows = 0 ∷ [];
      day =
          order_row 5 0 0
          ∷ refused (sends 4 0 65_536 0) 12
          ∷ refused (sends 5 0 65_536 0) 13
          ∷ refused (sends 5 0 1 1) 14
          ∷ refused (sends 5 1 1 0) 14
          ∷ refused (sends 5 1 1 17) 14
          ∷ refused (report 4 65_536 0) 12
          ∷ refused (report 5 65_536 0) 13
          ∷ refused (report 5 1 0) 14
          ∷ refused (report 5 1 1_000_001) 14
          ∷ refused (report 5 1 1) 18
          ∷ refused (close 4 65_536) 12
          ∷ refused (close 5 65_536) 13
          ∷ refused (close 5 1) 18
          ∷ goes 5 1 65_535 16
          ∷ refused (report 5 65_535 2) 19
          ∷ [];
    }
    -- without a rate rule no place is kept: 64 orders of 16 reports are accepted, and the next gets 17, whatever its identity
    ∷ record {
      text = "ABCD,abs_vol,XYZ,1000";
      windows = 0 ∷ [];
      day = many 64 ++ (refused (sends 0 1 64 1) 17 ∷ refused (sends 0 1 0 1) 17 ∷ at 0 1 1 (grants 1 0 0) ∷ ends 0 63 ∷ goes 0 1 64 1 ∷ []);
    }
    -- with a rate rule each report keeps a place of the log: 32 orders of 16 keep all 512, so an offer and one order more get 15, a report does not,
    -- and a closing gives places back
    ∷ record {
      text = "ABCD,rate_vol,XYZ,1000,1000";
      windows = 1000 ∷ [];
      day =
          many 32
          ++ (refused (offer_of 0 0 1 1) 15
          ∷ refused (sends 0 1 32 1) 15
          ∷ back 0 5 1 (grants 1 0 0)
          ∷ refused (offer_of 0 0 1 1) 15
          ∷ ends 0 5
          ∷ at 0 1 1 (grants 1 0 0)
          ∷ goes 0 1 32 14
          ∷ refused (sends 0 1 33 1) 15
          ∷ refused (offer_of 0 0 1 1) 15
          ∷ lockout_row 0 0
          ∷ (sends 0 1 33 1, verdict_row 2)
          ∷ []);
    }
    -- all 512 places are used on the only root, 496 of them kept: T and E give none back, nor does SYMBOL, since the firm still counts the entries; BOTH
    -- gives back those of the entries, and the next offer is granted
    ∷ record {
      text = "ABCD,rate_vol,XYZ,1000,1000";
      windows = 1000 ∷ [];
      day =
          many 31
          ++ (fills 16
          ++ (refused (offer_of 0 0 1 1) 15
          ∷ order_row 0 6 0
          ∷ refused (offer_of 0 0 1 1) 15
          ∷ order_row 0 1 0
          ∷ refused (offer_of 0 0 1 1) 15
          ∷ order_row 0 3 0
          ∷ leaves 0 0 1000
          ∷ at 0 1 1 (grants 1 0 0)
          ∷ goes 0 1 40 15
          ∷ refused (offer_of 999 0 1 1) 15
          ∷ at 1000 1 1 (grants 1 0 0)
          ∷ []));
    }
    ∷ []
