-- Rows of the day's account: calls that keep an account, what each has to be answered, and the account that they have to leave. Assumes nothing.
use Rattle.std.specs.Prelude.{ℕ, zero, suc, ◌≡◌, List, [], ◌∷◌, ◌++◌, map}
use Prim.Native.String.{String}
use Rattle.std.proofs.lemmas.List.Edits.{sets}
use Rattle.rules.specs.declared.Level.{Level}
use Rattle.rules.specs.declared.Level.TheVariants.{Firm, Root}
use Rattle.machine.specs.Calls.{Call, send}
use Rattle.machine.specs.Judge.{numbers}
use Rattle.text.specs.Text.{bytes}
use Rattle.tables.specs.Inner.Tables.{zeros}
use Rattle.calls.specs.Calls.{arm_memory}
use Rattle.figures.specs.Account.{account_size, row_place}
use Rattle.accounted.specs.declared.Event.{Event as Kept}
use Rattle.accounted.specs.declared.Event.TheVariants.{Order, Lockout, Offer, Send, Report, Close}
use Rattle.promises.specs.Day.{calls_on}
use Rattle.promises.specs.Accounts.{Keeping, keeping_on}
use Rattle.bench.specs.Rows.{answers_then}
use Rattle.bench.specs.Table.{grants, verdict_row}

-- a profile's text; plain calls before the account begins; the account as it is lent; the calls that keep it, each with its row of answer; and the
-- account as it is left
pub record AccountRow : Type 0 where
  pub text : String
  pub before : List Call
  pub account : List ℕ
  pub day : List (Kept × List ℕ)
  pub left : List ℕ

-- the account of a row's calls, on memory that was armed with its text
abbrev pub kept_by : List ℕ → AccountRow → Keeping
kept_by memory row =
    keeping_on (calls_on (arm_memory memory (bytes row.text)) row.before).memory row.account (map (λ c. c.0) row.day)

-- they are answered as the row wants, and leave its account
pub record Counts (memory : List ℕ) (row : AccountRow) : Type 0 where
  pub answers : map numbers (answers_then (kept_by memory row).history []) ≡ map (λ c. c.1) row.day
  pub left : (kept_by memory row).account ≡ row.left

-- ---- the words of the rows

-- an account of these rows, with zeros in all others
abbrev rows : List (Level × List ℕ) → List ℕ
rows [] = zeros account_size
rows ((level, figures) ∷ more) = sets (rows more) (row_place level) figures

-- accepted, rejected, fills, contracts, notional, cuts, trips and away reports
abbrev row : ℕ → ℕ → ℕ → ℕ → ℕ → ℕ → ℕ → ℕ → List ℕ
row accepted rejected fills contracts notional cuts trips away =
    accepted ∷ rejected ∷ fills ∷ contracts ∷ notional ∷ cuts ∷ trips ∷ away ∷ []

-- an order for a root with a reset, and its verdict
abbrev orders : ℕ → ℕ → ℕ → ℕ → Kept × List ℕ
orders time root reset verdict = (Order time root reset, verdict_row verdict)

-- an offer of a root's unit 0, and its answer
abbrev offers : ℕ → ℕ → ℕ → ℕ → List ℕ → Kept × List ℕ
offers time root premium contracts answer =
    (Offer (record { time = time; root = root; unit = 0; premium = premium; contracts = contracts }), answer)

-- a lockout of a root or of the firm
abbrev locks_out : ℕ → ℕ → ℕ → Kept × List ℕ
locks_out time level root = (Lockout time level root, verdict_row 0)

-- contracts of a root sent away at a premium of 1 with three reports, and the verdict
abbrev sends : ℕ → ℕ → ℕ → ℕ → ℕ → Kept × List ℕ
sends time root contracts identity verdict =
    (Send (record { time = time; root = root; unit = 0; premium = 1; contracts = contracts }) identity 3, verdict_row verdict)

-- a report for an identity, and its answer
abbrev back : ℕ → ℕ → ℕ → List ℕ → Kept × List ℕ
back time identity contracts answer = (Report time identity contracts, answer)

abbrev closes : ℕ → ℕ → Kept × List ℕ
closes time identity = (Close time identity, verdict_row 0)

-- a refusal
abbrev refusal : ℕ → List ℕ
refusal number = number ∷ 0 ∷ 0 ∷ 0 ∷ 0 ∷ []

-- n plain sendings of 16 reports each, under the identities from 0 on
abbrev many : ℕ → List Call
many zero = []
many (suc n) = many n ++ (send (record { time = 0; root = 0; unit = 0; premium = 1; contracts = 100 }) n 16 ∷ [])

-- 10^18
abbrev full : ℕ
full = 1_000_000_000_000_000_000

-- ---- the rows

unfoldable pub account_rows : List AccountRow
account_rows =
    -- two roots: fills at $3 and $2, a cut that trips its root, orders accepted and rejected; a locked-out offer, a lockout and refused calls count nowhere
    record {
      text = "ABCD,abs_vol,XYZ,100\nABCD,abs_vol,QRS,50";
      before = [];
      account = zeros account_size;
      day =
          orders 1 0 0 0
          ∷ offers 2 0 30_000 5 (grants 5 0 0)
          ∷ offers 3 1 20_000 7 (grants 7 0 0)
          ∷ offers 4 0 10_000 200 (grants 95 1 0)
          ∷ orders 5 0 0 2
          ∷ offers 5 0 10_000 1 (verdict_row 2)
          ∷ locks_out 6 0 1
          ∷ orders 7 1 0 2
          ∷ (Order 6 1 0, refusal 12)
          ∷ (Order 8 2 0, refusal 13)
          ∷ orders 8 0 1 0
          ∷ [];
      left = rows ((Root 0, row 2 1 2 100 1_100_000 1 1 0) ∷ (Root 1, row 0 1 1 7 140_000 0 0 0) ∷ (Firm, row 2 2 3 107 1_240_000 1 0 0) ∷ []);
    }
    -- a grant of 0 is a cut and a trip, and no fill
    ∷ record {
      text = "ABCD,abs_ntnl,XYZ,1000";
      before = [];
      account = zeros account_size;
      day = offers 0 0 70_000 140 (grants 140 0 0) ∷ offers 1 0 210_000 1 (grants 0 1 0) ∷ [];
      left = rows ((Root 0, row 0 0 1 140 9_800_000 1 1 0) ∷ (Firm, row 0 0 1 140 9_800_000 1 0 0) ∷ []);
    }
    -- a firm trip is the firm's alone; a verdict of 1 is a rejection
    ∷ record {
      text = "ABCD,abs_vol,XYZ,100\nABCD,abs_vol,,10,,T";
      before = [];
      account = zeros account_size;
      day = offers 0 0 1 10 (grants 10 0 1) ∷ orders 1 0 0 1 ∷ orders 2 0 5 0 ∷ [];
      left = rows ((Root 0, row 1 1 1 10 10 0 0 0) ∷ (Firm, row 1 1 1 10 10 0 1 0) ∷ []);
    }
    -- sendings count as orders; reports in their own column and as trips of the root that was sent, each time that they trip, not as fills; closings and
    -- refused reports nowhere
    ∷ record {
      text = "ABCD,abs_vol,XYZ,100\nABCD,abs_vol,QRS,50\nABCD,abs_vol,,60,,T";
      before = [];
      account = zeros account_size;
      day =
          sends 0 1 90 7 0
          ∷ back 1 7 40 (grants 40 0 0)
          ∷ back 2 7 20 (grants 20 1 1)
          ∷ back 2 7 5 (grants 5 1 1)
          ∷ (Report 2 7 1, refusal 19)
          ∷ sends 3 0 5 8 1
          ∷ (Report 3 8 1, refusal 18)
          ∷ closes 4 7
          ∷ (Close 4 7, refusal 18)
          ∷ [];
      left = rows ((Root 0, row 0 1 0 0 0 0 0 0) ∷ (Root 1, row 1 0 0 0 0 0 2 3) ∷ (Firm, row 1 1 0 0 0 0 2 3) ∷ []);
    }
    -- an account that was begun later: a report's root is that of the register it was begun beside, and an identity that was freed is sent anew
    ∷ record {
      text = "ABCD,abs_vol,XYZ,100\nABCD,abs_vol,QRS,50";
      before = send (record { time = 0; root = 1; unit = 0; premium = 1; contracts = 9 }) 7 2 ∷ [];
      account = zeros account_size;
      day = back 1 7 4 (grants 4 0 0) ∷ closes 2 7 ∷ sends 3 0 9 7 0 ∷ back 4 7 4 (grants 4 0 0) ∷ [];
      left = rows ((Root 0, row 1 0 0 0 0 0 0 1) ∷ (Root 1, row 0 0 0 0 0 0 0 1) ∷ (Firm, row 1 0 0 0 0 0 0 2) ∷ []);
    }
    -- 10^18 may be reached and not passed: 21, before the event is applied, so the clock stays; an event that touches no full figure is counted
    ∷ record {
      text = "ABCD,abs_vol,XYZ,100";
      before = [];
      account = rows ((Root 0, row 999_999_999_999_999_999 full 0 0 0 0 0 0) ∷ (Firm, row 999_999_999_999_999_999 0 0 0 0 0 0 0) ∷ []);
      day = orders 1 0 0 0 ∷ (Order 9 0 0, refusal 21) ∷ offers 2 0 1 1 (grants 1 0 0) ∷ (Order 1 0 0, refusal 12) ∷ (Order 9 1 0, refusal 13) ∷ [];
      left = rows ((Root 0, row full full 1 1 1 0 0 0) ∷ (Firm, row full 0 1 1 1 0 0 0) ∷ []);
    }
    -- the firm's row alone, and the root's alone, are reason enough; a root that the event is not of is none
    ∷ record {
      text = "ABCD,abs_vol,XYZ,100\nABCD,abs_vol,QRS,50";
      before = [];
      account = rows ((Root 1, row full 0 0 0 0 0 0 0) ∷ (Firm, row 0 0 0 0 full 0 0 0) ∷ []);
      day = (Order 1 1 0, refusal 21) ∷ orders 1 0 0 0 ∷ offers 2 0 1 1 (refusal 21) ∷ [];
      left = rows ((Root 0, row 1 0 0 0 0 0 0 0) ∷ (Root 1, row full 0 0 0 0 0 0 0) ∷ (Firm, row 1 0 0 0 full 0 0 0) ∷ []);
    }
    -- only what the event itself adds is looked at: an offer that does not trip is counted beside a full figure of trips, one that would is not applied
    ∷ record {
      text = "ABCD,abs_vol,XYZ,100\nABCD,abs_vol,,10,,T";
      before = [];
      account = rows ((Firm, row 0 0 0 0 0 0 full 0) ∷ []);
      day = offers 0 0 1 5 (grants 5 0 0) ∷ offers 1 0 1 5 (refusal 21) ∷ offers 1 0 1 4 (grants 4 0 0) ∷ offers 1 0 1 2 (refusal 21) ∷ [];
      left = rows ((Root 0, row 0 0 2 9 9 0 0 0) ∷ (Firm, row 0 0 2 9 9 0 full 0) ∷ []);
    }
    -- an order that is refused with 21 is not sent, and closings, lockouts and locked-out offers are counted nowhere, however full the account is
    ∷ record {
      text = "ABCD,abs_vol,XYZ,100";
      before = send (record { time = 0; root = 0; unit = 0; premium = 1; contracts = 9 }) 7 2 ∷ [];
      account = rows ((Firm, row full full full full full full full full) ∷ []);
      day =
          (Send (record { time = 1; root = 0; unit = 0; premium = 1; contracts = 9 }) 8 1, refusal 21)
          ∷ (Report 1 8 1, refusal 18)
          ∷ (Report 1 7 1, refusal 21)
          ∷ closes 2 7
          ∷ locks_out 3 0 0
          ∷ offers 4 0 1 1 (verdict_row 2)
          ∷ (Order 5 0 0, refusal 21)
          ∷ [];
      left = rows ((Firm, row full full full full full full full full) ∷ []);
    }
    -- 21 comes last, after 15
    ∷ record {
      text = "ABCD,rate_vol,XYZ,1000,1000";
      before = many 32;
      account = rows ((Firm, row full full full full full full full full) ∷ []);
      day = offers 0 0 1 1 (refusal 15) ∷ (Send (record { time = 0; root = 0; unit = 0; premium = 1; contracts = 1 }) 32 1, refusal 15) ∷ closes 0 31 ∷ offers 0 0 1 1 (refusal 21) ∷ [];
      left = rows ((Firm, row full full full full full full full full) ∷ []);
    }
    -- 2: a figure above 10^18 on entry, also in a row that no root has
    ∷ record {
      text = "ABCD,abs_vol,XYZ,100";
      before = [];
      account = rows ((Root 63, row 0 0 0 0 0 0 0 1_000_000_000_000_000_001) ∷ []);
      day = (Order 1 0 0, refusal 2) ∷ (Close 1 0, refusal 2) ∷ [];
      left = rows ((Root 63, row 0 0 0 0 0 0 0 1_000_000_000_000_000_001) ∷ []);
    }
    -- 1: an account of 519 numbers; of 521 the last is not looked at and not touched
    ∷ record {
      text = "ABCD,abs_vol,XYZ,100";
      before = [];
      account = zeros 519;
      day = (Order 1 0 0, refusal 1) ∷ [];
      left = zeros 519;
    }
    ∷ record {
      text = "ABCD,abs_vol,XYZ,100";
      before = [];
      account = zeros account_size ++ (1_000_000_000_000_000_001 ∷ []);
      day = orders 1 0 0 0 ∷ [];
      left = rows ((Root 0, row 1 0 0 0 0 0 0 0) ∷ (Firm, row 1 0 0 0 0 0 0 0) ∷ []) ++ (1_000_000_000_000_000_001 ∷ []);
    }
    ∷ []
