-- An account is kept: call by call its rows are what the calls and their answers add up to. Assumes nothing.
use Prim.Native.Nat.{ℕ, zero, suc, ◌+◌}
use mathlib.Core.Path.{◌≡◌, refl, sym, ap, ◌∙◌, subst}
use mathlib.Core.Bool.{Bool, true, false, not}
use mathlib.Core.List.{List, [], ◌∷◌}
use lib.ListN.{get_or, drop}
use lib.Seq.{get_or-take}
use Rattle.rules.specs.declared.Level.{Level}
use Rattle.rules.specs.declared.Level.TheVariants.{Root}
use Rattle.machine.specs.declared.Sent.{Sent}
use Rattle.machine.specs.Answer.{Refused}
use Rattle.machine.specs.State.{State}
use Rattle.machine.specs.Calls.{Call}
use Rattle.machine.specs.Register.{is_open, sent_at, register_after}
use Rattle.machine.specs.Refusals.{refusal_of}
use Rattle.machine.specs.Step.{part_after, after}
use Rattle.machine.specs.Judge.{log_places, judged, is_refusal}
use Rattle.tables.specs.Inner.Tables.{zeros}
use Rattle.state.specs.State.{decode}
use Rattle.calls.specs.Calls.{memory_refusal, call_memory}
use Rattle.calls.proofs.Steps.{acts, after-decoded}
use Rattle.figures.specs.declared.Figures.{Figures}
use Rattle.figures.specs.declared.Happening.{Happening}
use Rattle.figures.specs.Happenings.{happening_of}
use Rattle.figures.specs.Figures.{happening_root, no_figures, plus}
use Rattle.figures.specs.Account.{account_size, row_of, row_place, account_after}
use Rattle.figures.specs.Levels.{HasRow, WithinMost, AddsUp}
use Rattle.figures.specs.History.{root_sent, added_to, figures_in}
use Rattle.figures.proofs.Table.{same_row, none-at, plus_none, none-plus, plus_assoc, row-at, row-after, after-past}
use Rattle.figures.proofs.Limits.{row_inside, passes-within}
use Rattle.figures.proofs.Roots.{refused-uncounted, refused-root, uncounted-none, root_now, Gives, same-happening, gives_after}
use Rattle.figures.proofs.Sums.{adds_same, adds_none, adds-plus, adds-event}
use Rattle.accounted.specs.declared.Event.{Event as Kept}
use Rattle.accounted.specs.Accounted.{call_of, open_root, happening_in, account_counted, accounted_answer, accounted_memory, account_after_call}
use Rattle.promises.specs.Accounts.{Keeping, after_keeping, keeping_from, keeping_on, AtZeros, open_at_first, AccountKept}
use Rattle.promises.proofs.Holds.{acts-answered}
use Rattle.promises.proofs.Counted.{Taken, taken, taken_memory, taken-account, refused-memory, refused-account, refusal_is, known-root}

zeros-at : (n k : ℕ) → get_or (zeros n) k 0 ≡ 0
unfolding zeros
zeros-at zero k = refl
zeros-at (suc n) zero = refl
zeros-at (suc n) (suc k) = zeros-at n k

-- the register after a call that is not refused
register-after : (memory : List ℕ) (call : Call) → memory_refusal memory ≡ 0 → refusal_of log_places (decode memory) call ≡ 0
    → (decode (call_memory memory call)).part.register ≡ register_after (judged (decode memory) call).deed (decode memory).part.register
unfolding after part_after
register-after memory call ready free =
    ap (λ (xs : List ℕ). (decode xs).part.register) (sym (acts memory ready call free (acts-answered (decode memory) call)).1)
    ∙ ap (λ (s : State). s.part.register) (after-decoded memory ready call free)

-- ---- one call more

module _ (memory account : List ℕ) where
  -- what stands after some calls, begun with this memory and this account
  record Stands (day : Keeping) : Type 0 where
    gives : Gives (decode day.memory) (root_sent (open_at_first memory) day.history)
    figures : (level : Level) → HasRow level → row_of day.account level ≡ plus (row_of account level) (figures_in (open_at_first memory) day.history level)
    adds : AddsUp (figures_in (open_at_first memory) day.history)
    within : WithinMost account → WithinMost day.account
    past : drop account_size day.account ≡ drop account_size account

  -- a refused call leaves it standing
  refused-stands : (day : Keeping) → Stands day → (call : Call) (n : ℕ)
      → Stands (record { memory = day.memory; account = day.account; history = record { call = call; answer = Refused n } ∷ day.history })
  unfolding root_sent figures_in
  refused-stands day s call n = record {
    gives = λ identity o. s.gives identity o ∙ sym (refused-root call n (root_sent (open_at_first memory) day.history) identity);
    figures = λ level has. s.figures level has ∙ ap (plus (row_of account level)) (sym (nothing level));
    adds = adds_same _ _ (λ level has. nothing level) s.adds;
    within = s.within;
    past = s.past;
  }
    where
      nothing : (level : Level)
          → plus (figures_in (open_at_first memory) day.history level) (added_to level (happening_of (root_sent (open_at_first memory) day.history) call (Refused n)))
          ≡ figures_in (open_at_first memory) day.history level
      nothing level =
          ap (λ (h : Happening). plus (figures_in (open_at_first memory) day.history level) (added_to level h)) (refused-uncounted (root_sent (open_at_first memory) day.history) call n)
          ∙ ap (plus (figures_in (open_at_first memory) day.history level)) (uncounted-none level)
          ∙ plus_none (figures_in (open_at_first memory) day.history level)

  -- and so does one that is not refused
  taken-stands : (day : Keeping) → Stands day → (call : Call) → Taken day.memory day.account call
      → Stands (record {
        memory = call_memory day.memory call;
        account = account_counted day.memory day.account call;
        history = record { call = call; answer = (judged (decode day.memory) call).answer } ∷ day.history;
      })
  unfolding root_sent figures_in account_counted happening_in open_root
  taken-stands day s call t = record {
    gives = λ identity o.
        ap (λ (r : List Sent). (sent_at r identity).root) register
        ∙ gives_after log_places now earlier s.gives call t.free identity (subst (λ (r : List Sent). is_open r identity ≡ true) register o);
    figures = λ level has.
        ap (λ (xs : List ℕ). row_of xs level) counted
        ∙ row-after h known day.account t.ready.long level has
        ∙ ap (λ (f : Figures). plus f (added_to level h)) (s.figures level has)
        ∙ plus_assoc (row_of account level) (figures_in (open_at_first memory) day.history level) (added_to level h);
    adds = adds_same _ _ (λ level has. refl) (adds-plus (figures_in (open_at_first memory) day.history) (λ level. added_to level h) s.adds (adds-event h known));
    within = λ w. passes-within _ t.counts;
    past = ap (drop account_size) counted ∙ after-past h known day.account ∙ s.past;
  }
    where
      now : State
      now = decode day.memory

      earlier : ℕ → ℕ
      earlier = root_sent (open_at_first memory) day.history

      h : Happening
      h = happening_of earlier call (judged now call).answer

      register : (decode (call_memory day.memory call)).part.register ≡ register_after (judged now call).deed now.part.register
      register = register-after day.memory call t.ready.memory_ready t.free

      same : happening_in day.memory call ≡ h
      same = ap (happening_of (root_now now) call) t.plain ∙ same-happening log_places now earlier s.gives call t.free (judged now call).answer

      counted : account_counted day.memory day.account call ≡ account_after h day.account
      counted = ap (λ (x : Happening). account_after x day.account) same

      known : HasRow (Root (happening_root h))
      known = subst (λ (x : Happening). HasRow (Root (happening_root x))) same (known-root day.memory call t.ready.memory_ready t.free)

  call-stands : (day : Keeping) → Stands day → (event : Kept) → Stands (after_keeping day event)
  unfolding after_keeping
  call-stands day s event = go (is_refusal (accounted_answer day.memory day.account call)) refl
    where
      call : Call
      call = call_of event

      go : (b : Bool) → is_refusal (accounted_answer day.memory day.account call) ≡ b
          → Stands (record {
            memory = accounted_memory day.memory day.account call;
            account = account_after_call day.memory day.account call;
            history = record { call = call; answer = accounted_answer day.memory day.account call } ∷ day.history;
          })
      go true e =
          let is = refusal_is (accounted_answer day.memory day.account call) e in
          rw (refused-memory day.memory day.account call e, refused-account day.memory day.account call e, is.1)
          (refused-stands day s call is.0)
      go false e =
          let t = taken day.memory day.account call e in
          rw (taken_memory day.memory day.account call e, taken-account day.memory day.account call e, t.answer)
          (taken-stands day s call t)

  run-stands : (day : Keeping) → Stands day → (events : List Kept) → Stands (keeping_from day events)
  unfolding keeping_from
  run-stands day s [] = s
  run-stands day s (event ∷ events) = run-stands (after_keeping day event) (call-stands day s event) events

  start : Stands (record { memory = memory; account = account; history = [] })
  unfolding root_sent figures_in
  start = record {
    gives = λ identity o. refl;
    figures = λ level has. sym (plus_none (row_of account level));
    adds = adds_same _ _ (λ level has. refl) adds_none;
    within = λ w. w;
    past = refl;
  }

  -- a row of zeros
  zero_row : AtZeros account → (level : Level) → HasRow level → row_of account level ≡ no_figures
  zero_row at level has =
      same_row (row_of account level) no_figures
      (λ column l.
      row-at account (row_place level) column l
      ∙ sym (get_or-take account_size account (row_place level + column) 0 (row_inside level has column l))
      ∙ ap (λ (xs : List ℕ). get_or xs (row_place level + column) 0) at
      ∙ zeros-at account_size (row_place level + column) ∙ sym (none-at column l))

  -- THE ACCOUNT OF CALLS, whatever memory and account they were lent
  pub account-kept : (events : List Kept) → AccountKept memory account (keeping_on memory account events)
  unfolding keeping_on
  account-kept events =
      let day = keeping_from (record { memory = memory; account = account; history = [] }) events in
      let s = run-stands (record { memory = memory; account = account; history = [] }) start events in
      let sums : AddsUp (row_of account) → AddsUp (row_of day.account) =
      λ adds. adds_same _ _ s.figures (adds-plus (row_of account) (figures_in (open_at_first memory) day.history) adds s.adds) in
      record {
        figures = s.figures;
        begun = λ at level has. s.figures level has ∙ ap (λ (f : Figures). plus f (figures_in (open_at_first memory) day.history level)) (zero_row at level has) ∙ none-plus _;
        sums = λ at. sums (adds_same (row_of account) (λ level. no_figures) (zero_row at) adds_none);
        sums_stay = sums;
        within = s.within;
        past = s.past;
      }
