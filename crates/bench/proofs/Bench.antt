-- The bench table: every library that meets the contracts, given any memory that may be armed, does what each row wants. Assumes nothing.
use Prim.Native.Nat.{ℕ, ◌^◌}
use mathlib.Core.Path.{◌≡◌, refl, sym, ap, ap₂, ◌∙◌}
use mathlib.Core.Bool.{true}
use mathlib.Core.List.{List, [], ◌∷◌, ◌++◌, map}
use lib.Dec.{ltb}
use Rattle.laws.proofs.Tests.{and_l, and_r}
use Rattle.rules.specs.Allowance.{All}
use Rattle.text.specs.Text.{bytes}
use Rattle.laws.specs.Folds.{every}
use Rattle.machine.specs.State.{State, armed}
use Rattle.machine.specs.Calls.{Call}
use Rattle.machine.specs.Judge.{numbers}
use Rattle.profile.specs.Profile.{outcome_of}
use Rattle.state.specs.State.{decode}
use Rattle.bench.specs.Lent.{Memory, Text, numbers_in, Called}
use Rattle.bench.specs.Library.{Library, Meets, Unarmed, arm_refusal_in}
use Rattle.bench.specs.Rows.{Row, Seen, calls_of, windows_of, machine_answers, seen, seen_by, wanted, Done}
use Rattle.bench.specs.Table.{bench_table, examples}
use Rattle.bench.specs.Tried.{tried}
use Rattle.bench.proofs.Words.{tested-below}
use Rattle.bench.proofs.Runs.{arm-accepted, arm-leaves, armed-answers}
use Rattle.bench.proofs.Computed.{is_text, is_day, fits, rows_fit, rows_right}

-- calls that pass the test can be made
pub sendable : (calls : List Call) → is_day calls ≡ true → (day : List Called) × (map (λ c. c.call) day ≡ calls)
unfolding every
sendable [] h = ([], refl)
sendable (call ∷ calls) h =
    let fit = every (λ x. ltb x (2 ^ 64)) (numbers_in call) in
    let rest = sendable calls (and_r fit (is_day calls) h) in (
      record { call = call; words = tested-below (2 ^ 64) (numbers_in call) (and_l fit (is_day calls) h) } ∷ rest.0,
      ap (λ (more : List Call). call ∷ more) rest.1,
    )

module _ (l : Library) (meets : Meets l) (m : Memory) (u : Unarmed m) where
  module _ (t : Text) (ok : (outcome_of t.now).refusal ≡ 0) where
    -- the text is accepted
    accepted : arm_refusal_in (l.arm m t).answer ≡ (outcome_of t.now).refusal
    accepted = arm-accepted l meets m t u ok ∙ sym ok

    -- its rules are in the memory
    windows : windows_of (decode (l.arm m t).memory.now).part.profile.rules ≡ windows_of (outcome_of t.now).profile.rules
    unfolding armed
    windows = ap (λ (s : State). windows_of s.part.profile.rules) (arm-leaves l meets m t u ok).state

  -- a row whose text is accepted is seen as on the machine
  as-machine : (row : Row) (t : Text) (day : List Called) → t.now ≡ bytes row.text → map (λ c. c.call) day ≡ calls_of row
      → (outcome_of t.now).refusal ≡ 0 → seen_by l m t day ≡ seen row
  unfolding seen seen_by
  as-machine row t day is sends ok =
      λ i. record {
        refusal = (accepted t ok ∙ ap (λ (text : List ℕ). (outcome_of text).refusal) is) i;
        windows = (windows t ok ∙ ap (λ (text : List ℕ). windows_of (outcome_of text).profile.rules) is) i;
        answers =
            ap (map numbers) (armed-answers l meets m t u ok day
            ∙ ap₂ (λ (text : List ℕ) (calls : List Call). machine_answers (armed (outcome_of text).profile) calls) is sends) i;
      }

  -- a row whose calls can be made, and is right on the machine
  done : (row : Row) → fits row ≡ true → seen row ≡ wanted row → Done l m row
  unfolding seen wanted
  done row f e =
      let t : Text = record { now = bytes row.text; bytes = tested-below 256 (bytes row.text) (and_l (is_text (bytes row.text)) (is_day (calls_of row)) f) } in
      let day = sendable (calls_of row) (and_r (is_text (bytes row.text)) (is_day (calls_of row)) f) in
      record {
        text = t;
        day = day.0;
        is_text = refl;
        is_day = day.1;
        right = as-machine row t day.0 refl day.1 (ap (λ (s : Seen). s.refusal) e) ∙ e;
      }

  all_done : (rows : List Row) → every fits rows ≡ true → map seen rows ≡ map wanted rows → All (Done l m) rows
  unfolding every
  all_done [] f e = tt
  all_done (row ∷ rows) f e =
      let first : seen row ≡ wanted row = cc in
      let rest : map seen rows ≡ map wanted rows = cc in
      (done row (and_l (fits row) (every fits rows) f) first, all_done rows (and_r (fits row) (every fits rows) f) rest)

  -- B1 to B12, the examples and the slips, and the rows beyond them
  pub bench : All (Done l m) (bench_table ++ (examples ++ tried))
  bench = all_done (bench_table ++ (examples ++ tried)) rows_fit rows_right
