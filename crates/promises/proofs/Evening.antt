-- The evening table: records are calls that keep an account, so what is promised of these holds of the table. Assumes nothing.
use Prim.Native.Nat.{ℕ, ◌+◌, ◌≤◌}
use native.Mathlib.Omega.{arith}
use mathlib.Core.Path.{◌≡◌, refl, sym, ap, ap₂, ◌∙◌}
use mathlib.Core.Bool.{Bool, true, false, cond}
use mathlib.Core.List.{List, [], ◌∷◌, ◌++◌}
use lib.ListN.{length, take, length-take}
use lib.Seq.{length-sets}
use Rattle.shapes.proofs.Tables.{length-zeros}
use Rattle.rules.specs.declared.Level.{Level}
use Rattle.rules.specs.declared.Level.TheVariants.{Firm, Root}
use Rattle.machine.specs.State.{Profile, roots_in}
use Rattle.machine.specs.Calls.{Call}
use Rattle.machine.specs.Judge.{is_refusal}
use Rattle.state.specs.State.{decode}
use Rattle.calls.specs.Calls.{memory_refusal, call_memory}
use Rattle.calls.proofs.Steps.{laid}
use Rattle.records.specs.Event16.{read16_of}
use Rattle.records.specs.declared.Event16.{Event16}
use Rattle.records.specs.declared.Event16.TheVariants.{Order, Offer, Lockout, Sending, Report, Closing}
use Rattle.std.specs.declared.result.Result.{Result}
use Rattle.std.specs.declared.result.Result.TheVariants.{Ok, Err}
use Rattle.refusals.specs.declared.Refusal.{Refusal}
use Rattle.answering.specs.Run.{record_call, records_of}
use Rattle.figures.specs.declared.Figures.{Figures}
use Rattle.figures.specs.declared.Happening.{Happening}
use Rattle.figures.specs.Account.{account_size, row_added, row_of, account_after}
use Rattle.figures.specs.Levels.{HasRow}
use Rattle.figures.specs.History.{figures_in}
use Rattle.accounted.specs.declared.Event.{Event as Kept}
use Rattle.accounted.specs.Accounted.{call_of, account_counted, accounted_answer, accounted_memory, account_after_call}
use Rattle.tabled.specs.Tabled.{tabled_memory, account_of, memory_taken, account_taken, row_line, root_lines, table_lines, table_text}
use Rattle.tabled.proofs.Lines.{table_is}
use Rattle.promises.specs.Accounts.{Keeping, after_keeping, keeping_from, keeping_on, AtZeros, open_at_first}
use Rattle.promises.specs.Evening.{kept_of, kept_read, kept_in, input_day, TableKept}
use Rattle.promises.proofs.Holds.{ready-holds, holds-ready, call-holds}
use Rattle.promises.proofs.Moved.{lent-moves}
use Rattle.promises.proofs.Accounts.{account-kept}

-- ---- records as calls

kept-call : (e : Event16) → call_of (kept_of e) ≡ record_call e
unfolding call_of kept_of record_call
kept-call (Order time root reset) = refl
kept-call (Offer time root unit premium contracts) = refl
kept-call (Lockout time level root) = refl
kept-call (Sending time root unit premium contracts identity reports) = refl
kept-call (Report time identity contracts) = refl
kept-call (Closing time identity) = refl

-- what one record leaves is what its call leaves, or all where it is faulty
record-kept : (day : Keeping) (reading : Result Event16 Refusal) (rest : List Kept) (rs : List (List ℕ))
    → ((next : Keeping) → (memory_taken next.memory next.account rs ≡ (keeping_from next rest).memory) × (account_taken next.memory next.account rs ≡ (keeping_from next rest).account))
    → (memory_taken (tabled_memory day.memory day.account reading) (account_of day.memory day.account reading) rs ≡ (keeping_from day (kept_read reading ++ rest)).memory)
    × (account_taken (tabled_memory day.memory day.account reading) (account_of day.memory day.account reading) rs ≡ (keeping_from day (kept_read reading ++ rest)).account)
unfolding tabled_memory account_of kept_read keeping_from after_keeping
record-kept day (Err r) rest rs then = then day
record-kept day (Ok e) rest rs then = rw (← kept-call e) (then (after_keeping day (kept_of e)))

records-kept : (day : Keeping) (rs : List (List ℕ))
    → (memory_taken day.memory day.account rs ≡ (keeping_from day (kept_in rs)).memory)
    × (account_taken day.memory day.account rs ≡ (keeping_from day (kept_in rs)).account)
unfolding memory_taken account_taken keeping_from kept_in
records-kept day [] = (refl, refl)
records-kept day (r ∷ rs) = record-kept day (read16_of r) (kept_in rs) rs (λ next. records-kept next rs)

-- ---- what calls leave that keep an account

-- a memory that no call refuses, with this profile, and an account of this length
record Kept-on (profile : Profile) (long : ℕ) (day : Keeping) : Type 0 where
  ready : memory_refusal day.memory ≡ 0
  same : (decode day.memory).part.profile ≡ profile
  size : length day.account ≡ long

counted-long : (h : Happening) (account : List ℕ) → length (account_after h account) ≡ length account
unfolding account_after row_added
counted-long h account = simp length-sets

call-on : (profile : Profile) (long : ℕ) (day : Keeping) → Kept-on profile long day → (event : Kept) → Kept-on profile long (after_keeping day event)
unfolding after_keeping accounted_memory account_after_call account_counted
call-on profile long day k event = go (is_refusal (accounted_answer day.memory day.account (call_of event)))
  where
    call : Call
    call = call_of event

    go : (b : Bool) → Kept-on profile long (record {
      memory = cond b day.memory (call_memory day.memory call);
      account = cond b day.account (account_counted day.memory day.account call);
      history = record { call = call; answer = accounted_answer day.memory day.account call } ∷ day.history;
    })
    go true = record { ready = k.ready; same = k.same; size = k.size }
    go false = record {
      ready = holds-ready (call-holds (ready-holds day.memory k.ready) call);
      same = (lent-moves day.memory call).profile ∙ k.same;
      size = counted-long _ day.account ∙ k.size;
    }

calls-on : (profile : Profile) (long : ℕ) (day : Keeping) → Kept-on profile long day → (events : List Kept) → Kept-on profile long (keeping_from day events)
unfolding keeping_from
calls-on profile long day k [] = k
calls-on profile long day k (event ∷ events) = calls-on profile long (after_keeping day event) (call-on profile long day k event) events

-- ---- tables of the same rows

module _ (rows others : Level → Figures) (same : (level : Level) → HasRow level → rows level ≡ others level) where
  roots-same : (i : ℕ) (names : List ℕ) → i + length names ≤ 64 → root_lines rows i names ≡ root_lines others i names
  unfolding root_lines HasRow
  roots-same i [] few = refl
  roots-same i (name ∷ names) few =
      ap₂ (λ (f : Figures) (l : List ℕ). row_line name f ++ l) (same (Root i) (omega arith)) (roots-same (i + 1) names (omega arith))

  lines_same : (profile : Profile) → length profile.roots ≤ 64 → table_lines profile rows ≡ table_lines profile others
  unfolding table_lines HasRow
  lines_same profile few =
      ap₂ (λ (l : List ℕ) (f : Figures). l ++ row_line profile.firm f) (roots-same 0 profile.roots (omega arith)) (same Firm tt)

zeros-long : (account : List ℕ) → AtZeros account → account_size ≤ length account
zeros-long account at = omega (arith, length-take account_size account, ap length at, length-zeros account_size)

roots_few : (xs : List ℕ) → memory_refusal xs ≡ 0 → length (decode xs).part.profile.roots ≤ 64
unfolding roots_in
roots_few xs ready = (laid xs ready).fits.roots

-- THE TABLE OF AN INPUT has the figures of its calls and their answers
pub table_kept : (memory account input : List ℕ) → TableKept memory account input
unfolding input_day keeping_on
table_kept memory account input =
    let start : Keeping = record { memory = memory; account = account; history = [] } in
    let calls = kept_in (records_of input) in
    let kept = records-kept start (records_of input) in
    record {
      leaves = kept.0;
      counts = kept.1;
      table = λ ready at.
          let profile = (decode memory).part.profile in
          let on = calls-on profile (length account) start (record { ready = ready; same = refl; size = refl }) calls in
          let day = keeping_from start calls in
          let long : account_size ≤ length day.account = omega (arith, on.size, zeros-long account at) in
          ap₂ table_text kept.0 kept.1
          ∙ table_is day.memory day.account long on.ready
          ∙ ap (λ (p : Profile). table_lines p (row_of day.account)) on.same
          ∙ lines_same (row_of day.account) (figures_in (open_at_first memory) day.history) ((account-kept memory account calls).begun at) profile (roots_few memory ready);
    }
