-- Every row of the day's account comes out, whichever memory was armed. Assumes nothing.
use Prim.Native.Nat.{ℕ}
use mathlib.Core.Path.{◌≡◌, refl, ap, ◌∙◌}
use mathlib.Core.List.{List, [], ◌∷◌, map}
use lib.ListN.{drop}
use Rattle.rules.specs.Allowance.{All}
use Rattle.text.specs.Text.{bytes}
use Rattle.machine.specs.State.{armed}
use Rattle.machine.specs.Judge.{numbers}
use Rattle.profile.specs.Profile.{outcome_of}
use Rattle.state.specs.State.{size}
use Rattle.calls.specs.Calls.{arm_memory}
use Rattle.demand.specs.Run.{Event}
use Rattle.promises.specs.Written.{MayBeArmed}
use Rattle.promises.specs.Day.{calls_on}
use Rattle.promises.specs.Accounts.{keeping_on}
use Rattle.promises.proofs.Unarmed.{unarmed-armed}
use Rattle.promises.proofs.Follows.{Follows, follows_on}
use Rattle.bench.specs.Rows.{answers_then}
use Rattle.bench.specs.Accounts.{AccountRow, kept_by, Counts, account_rows}
use Rattle.bench.proofs.Counting.{Beside, beside-on}
use Rattle.bench.proofs.Computed.{SeenAccount, seen_account, wanted_account, counted_by, accounts-right}

module _ (memory : List ℕ) (may : MayBeArmed memory) where
  -- the calls of a row on lent memory are those on the machine
  row-beside : (row : AccountRow) → (outcome_of (bytes row.text)).refusal ≡ 0
      → Beside (drop size memory) (counted_by row) (kept_by memory row)
  unfolding keeping_on calls_on
  row-beside row ok =
      let begun : Follows (drop size memory) (record { now = armed (outcome_of (bytes row.text)).profile; history = [] })
      (record { memory = arm_memory memory (bytes row.text); history = [] }) =
      record { holds = unarmed-armed memory may.0 may.1 (bytes row.text) ok; same = refl } in
      beside-on (record { holds = (follows_on begun row.before).holds; account = refl; history = refl }) (map (λ c. c.0) row.day)

  row_counts : (row : AccountRow) → seen_account row ≡ wanted_account row → Counts memory row
  row_counts row e =
      let b = row-beside row (ap (λ (s : SeenAccount). s.refusal) e) in
      record {
        answers = ap (λ (h : List Event). map numbers (answers_then h [])) b.history ∙ ap (λ (s : SeenAccount). s.answers) e;
        left = b.account ∙ ap (λ (s : SeenAccount). s.left) e;
      }

  all-count : (rows : List AccountRow) → map seen_account rows ≡ map wanted_account rows → All (Counts memory) rows
  all-count [] e = tt
  all-count (row ∷ rows) e =
      let first : seen_account row ≡ wanted_account row = cc in
      let rest : map seen_account rows ≡ map wanted_account rows = cc in
      (row_counts row first, all-count rows rest)

  -- every row, on any memory that may be armed
  pub accounts-counted : All (Counts memory) account_rows
  accounts-counted = all-count account_rows accounts-right
