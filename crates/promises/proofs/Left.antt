-- What the reset of an accepted order leaves of lent memory, by the state that the machine goes to. Assumes nothing.
use Prim.Native.Nat.{ℕ, zero, suc, ◌+◌, ◌<◌, ◌≤◌}
use native.Mathlib.Omega.{arith}
use mathlib.Core.Path.{◌≡◌, refl, sym, ap, ◌∙◌, subst, fun_ext}
use mathlib.Core.Bool.{Bool, true, false, not, cond, ◌&&◌, ◌||◌, false≢true}
use mathlib.Core.List.{List, [], ◌∷◌}
use lib.ListN.{length, drop}
use lib.Dec.{eqb, leb}
use borrow.Author.Tests.{ne_eqb, leb-true}
use Rattle.laws.specs.Folds.{every, keep}
use Rattle.laws.proofs.Tests.{tests}
use Rattle.measures.specs.Ranges.{is_in, units, premiums, offers}
use Rattle.rules.specs.declared.Level.{Level}
use Rattle.rules.specs.Valid.{has_rate}
use Rattle.machine.specs.declared.Offer.{Offer}
use Rattle.machine.specs.declared.Sent.{Sent}
use Rattle.machine.specs.Answer.{Answer, Refused, Judged, Left, Standing}
use Rattle.machine.specs.State.{State, Locks, rules_in, roots_in}
use Rattle.machine.specs.Entries.{is_entry, is_flagged, recent}
use Rattle.machine.specs.Effects.{effect_of, last_reset, zeroing, lifting, ZeroesNone}
use Rattle.machine.specs.Deeds.{resetting}
use Rattle.machine.specs.Order.{wiped, unflagged_log}
use Rattle.machine.specs.Register.{kept_places}
use Rattle.machine.specs.Refusals.{first_of, bad_time, is_root, log_full, used, refusal_of}
use Rattle.machine.specs.Step.{accounts_after}
use Rattle.machine.specs.Judge.{log_places, judged, unless, judge, step_in, step, is_refusal}
use Rattle.machine.specs.Calls.{Call, order, offer}
use Rattle.machine.proofs.Effects.{effect-tests, lifts-alike, totals-stay, log-stays}
use Rattle.machine.proofs.Flags.{both-empties}
use Rattle.machine.proofs.Refusals.{orderable}
use Rattle.state.specs.State.{size, decode}
use Rattle.state.proofs.Exactly.{sound-decode}
use Rattle.calls.specs.Calls.{memory_refusal, call_answer}
use Rattle.demand.specs.Resets.{sets_of, unlocked, reset_to}
use Rattle.demand.proofs.Resets.{order-left, accepted-any}
use Rattle.promises.specs.Resets.{Accepted, after_one}
use Rattle.promises.specs.Left.{left_by, kept_by, ResetLeaves}
use Rattle.promises.proofs.Holds.{Holds, ready-holds, holds-ready, call-answers, call-holds, acts-answered}
use Rattle.promises.proofs.Resets.{accepted-ready, accepted-machine, machine-accepted}

-- resets from 4 on zero nothing
zero-none : (reset : ℕ) → 4 ≤ reset → ZeroesNone (effect_of reset)
zero-none reset h =
    rw (effect-tests reset, ne_eqb reset 1 (λ e. omega arith), ne_eqb reset 2 (λ e. omega arith), ne_eqb reset 3 (λ e. omega arith)) (refl, refl)

-- an answer of the machine that is a refusal is the refusal that it looked for
refused-by : (s : State) (call : Call) (n : ℕ) → (step s call).answer ≡ Refused n → refusal_of log_places s call ≡ n
unfolding step step_in judge unless is_refusal
refused-by s call n e = go (refusal_of log_places s call) e
  where
    number : Answer → ℕ
    number (Refused k) = k
    number (Judged verdict grant roottrip firmtrip) = 0
    number (Left k) = 0
    number (Standing roots) = 0

    go : (k : ℕ) → (unless k (judged s call)).answer ≡ Refused n → k ≡ n
    go zero e = absurd (false≢true (sym (acts-answered s call) ∙ ap is_refusal e))
    go (suc k) e = ap number e

-- an offer that is refused with 15 found the use at the log's places
full-used : (s : State) (o : Offer) → log_full log_places s o ≡ true → log_places ≤ used s o.time
unfolding log_full
full-used s o h =
    let full : log_places ≤ used s o.time = search tests depth 8 in
    full

fifteen : (s : State) (o : Offer) → refusal_of log_places s (offer o) ≡ 15 → log_full log_places s o ≡ true
unfolding refusal_of first_of
fifteen s o =
    go (bad_time s.part o.time) (not (is_root s.part o.root && is_in units o.unit))
    (not (is_in premiums o.premium && is_in offers o.contracts)) (log_full log_places s o)
  where
    number : Bool → Bool → Bool → Bool → ℕ
    number a b c f = cond a 12 (cond b 13 (cond c 14 (cond f 15 0)))

    go : (a b c f : Bool) → number a b c f ≡ 15 → f ≡ true
    go true b c f h = absurd (omega arith)
    go false true c f h = absurd (omega arith)
    go false false true f h = absurd (omega arith)
    go false false false true h = refl
    go false false false false h = absurd (omega arith)

-- with no entry in the log the use is at most the kept places
used-kept : (s : State) (later : ℕ) → s.log ≡ [] → used s later ≤ kept_places s.part.register
unfolding used recent keep rules_in
used-kept s later none = rw none (go (has_rate (rules_in s)))
  where
    go : (b : Bool) → cond b (0 + kept_places s.part.register) 0 ≤ kept_places s.part.register
    go true = omega arith
    go false = omega arith

module _ (xs : List ℕ) (time root : ℕ) where
  abbrev s : State
  s = decode xs

  module _ (reset : ℕ) (ok : Accepted xs (order time root reset)) where
    memory-ready : memory_refusal xs ≡ 0
    memory-ready = accepted-ready xs (order time root reset) ok

    not-refused : refusal_of log_places s (order time root reset) ≡ 0
    not-refused = accepted-machine xs (order time root reset) ok

    left-holds : Holds (step s (order time root reset)).after (drop size xs) (after_one xs time root reset)
    left-holds = call-holds (ready-holds xs memory-ready) (order time root reset)

    left_is : left_by xs time root reset ≡ reset_to time (sets_of root reset) s
    left_is = left-holds.state ∙ order-left s time root reset not-refused

    same-register : (left_by xs time root reset).part.register ≡ s.part.register
    unfolding reset_to
    same-register = ap (λ (t : State). t.part.register) left_is

    flags : every is_flagged (left_by xs time root reset).log ≡ true
    flags = (sound-decode (after_one xs time root reset) left-holds.sound).flagged

    totals : 4 ≤ reset → (left_by xs time root reset).part.accounts ≡ s.part.accounts
    unfolding reset_to sets_of accounts_after
    totals h = ap (λ (t : State). t.part.accounts) left_is ∙ totals-stay (effect_of reset) (zero-none reset h) root time s.part.accounts

    log : 4 ≤ reset → (left_by xs time root reset).log ≡ s.log
    unfolding reset_to sets_of
    log h =
        ap (λ (t : State). t.log) left_is
        ∙ log-stays (effect_of reset) (zero-none reset h) root s.log (sound-decode xs (ready-holds xs memory-ready).sound).flagged

    locks : (left_by xs time root reset).part.locks ≡ unlocked (lifting (effect_of reset) root) (roots_in s) s.part.locks
    unfolding reset_to sets_of
    locks = ap (λ (t : State). t.part.locks) left_is

    -- another reset that there is would be accepted too
    known : (other : ℕ) → leb other last_reset ≡ true → Accepted xs (order time root other)
    known other low =
        machine-accepted (ready-holds xs memory-ready) (order time root other) (accepted-any s time root reset other low not-refused)

  -- resets that lift the same leave the same marks
  same-locks : (one other : ℕ) → leb other last_reset ≡ true → ((level : Level) → lifting (effect_of one) root level ≡ lifting (effect_of other) root level)
      → Accepted xs (order time root one) → (left_by xs time root one).part.locks ≡ (left_by xs time root other).part.locks
  same-locks one other low alike ok =
      locks one ok
      ∙ ap (λ (lifts : Level → Bool). unlocked lifts (roots_in s) s.part.locks) (fun_ext alike)
      ∙ sym (locks other (known one ok other low))

  module _ (only : roots_in s ≡ 1) (ok : Accepted xs (order time root 3)) where
    first-root : root ≡ 0
    unfolding roots_in
    first-root = omega (arith, only, (orderable log_places s time root 3 (not-refused 3 ok)).1)

    no-entry : (left_by xs time root 3).log ≡ []
    unfolding reset_to sets_of
    no-entry =
        ap (λ (t : State). t.log) (left_is 3 ok)
        ∙ ap (λ (r : ℕ). unflagged_log (zeroing (effect_of 3) r) s.log) first-root
        ∙ both-empties s.log (subst (λ (n : ℕ). every (is_entry n) s.log ≡ true) only (sound-decode xs (ready-holds xs (memory-ready 3 ok)).sound).entries)

    use-then : (later : ℕ) → used (left_by xs time root 3) later ≤ kept_by xs
    use-then later = subst (λ (r : List Sent). used (left_by xs time root 3) later ≤ kept_places r) (same-register 3 ok) (used-kept (left_by xs time root 3) later no-entry)

    full : (o : Offer) → call_answer (after_one xs time root 3) (offer o) ≡ Refused 15 → log_places ≤ kept_by xs
    full o e =
        let t = left_by xs time root 3 in
        let after = ready-holds (after_one xs time root 3) (holds-ready (left-holds 3 ok)) in
        let found = full-used t o (fifteen t o (refused-by t (offer o) 15 (sym (call-answers after (offer o)) ∙ e))) in
        omega (arith, found, use-then o.time)

  -- WHAT A RESET LEAVES of the memory
  pub reset-leaves : ResetLeaves xs time root
  reset-leaves = record {
    totals_stay = λ reset h ok. totals reset ok h;
    log_stays = λ reset h ok. log reset ok h;
    root_unlocked = same-locks 4 1 refl (λ level. (lifts-alike root level).0);
    firm_unlocked = same-locks 5 2 refl (λ level. (lifts-alike root level).1);
    both_unlocked = same-locks 6 3 refl (λ level. (lifts-alike root level).2);
    flagged = flags;
    emptied = no-entry;
    used_then = use-then;
    full_then = full;
  }
