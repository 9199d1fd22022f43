-- A machine that keeps the entries that count for neither root nor firm answers as one that drops them, but for the room that they take.
-- Assumes nothing.
use Prim.Native.Nat.{ℕ, zero, suc}
use mathlib.Core.Path.{◌≡◌, refl, sym, ap, ap₂, ◌∙◌, subst, fun_ext}
use mathlib.Core.Bool.{Bool, true, false, cond, ◌&&◌}
use mathlib.Core.List.{List, [], ◌∷◌, ◌++◌}
use lib.Dec.{ltb}
use Rattle.laws.specs.Folds.{keep, any_of}
use Rattle.rules.specs.Amounts.{number_of}
use Rattle.rules.specs.Rules.{level_of, counted_of}
use Rattle.rules.specs.Valid.{has_rate}
use Rattle.rules.specs.declared.Level.{Level}
use Rattle.rules.specs.declared.Rule.{Rule}
use Rattle.rules.specs.declared.Account.{Account}
use Rattle.machine.specs.declared.Entry.{Entry}
use Rattle.machine.specs.declared.Offer.{Offer}
use Rattle.machine.specs.Answer.{Refused}
use Rattle.machine.specs.State.{Profile, State, rules_in, armed}
use Rattle.machine.specs.Entries.{is_flagged, is_recent, recent}
use Rattle.machine.specs.Effects.{zeroing}
use Rattle.machine.specs.Calls.{Call, order, lockout, offer, remaining, status, send, report, close}
use Rattle.machine.specs.Deeds.{Source, granted, reported, Deed, nothing, passing, filling, resetting, locking_out, sending, closing}
use Rattle.machine.specs.Locks.{verdict_of}
use Rattle.machine.specs.Order.{unflagged, unflagged_log}
use Rattle.machine.specs.Offers.{counted, covers_offer, grant_of, same_level, trips_by, level_trips, longest, entry_of, joined_log}
use Rattle.machine.specs.Remaining.{left_of}
use Rattle.machine.specs.Register.{fill_of}
use Rattle.machine.specs.Refusals.{log_full, no_places, first_of, refusal_of}
use Rattle.machine.specs.Step.{locks_after, log_after, part_after, after}
use Rattle.machine.specs.Judge.{Judgement, filled, offered, ordered, judged, unless, judge, step_in}
use Rattle.machine.specs.Kept.{dropped, kept_log, kept_after, kept_step, answers_of, Roomy}
use Rattle.machine.proofs.Lists.{keep_append, keep-swap, keep-map}
use Rattle.machine.proofs.Flags.{still-gone, sum-flagged}

module _ (log : List Entry) where
  -- without such entries a log counts, grants and trips the same
  counted-dropped : (t : ℕ) (a : Account) → counted (keep is_flagged log) t a ≡ counted log t a
  unfolding counted
  counted-dropped t a = ap (counted_of a.rule.kind (number_of a.total)) (sum-flagged a.rule t log)

  grant-dropped : (o : Offer) (accounts : List Account) → grant_of (keep is_flagged log) o accounts ≡ grant_of log o accounts
  unfolding grant_of
  grant-dropped o [] = refl
  grant-dropped o (a ∷ rest) = rw (counted-dropped o.time a, grant-dropped o rest)

  trips-dropped : (source : Source) (o : Offer) (n : ℕ) (accounts : List Account) (level : Level)
      → level_trips source (keep is_flagged log) o n accounts level ≡ level_trips source log o n accounts level
  unfolding level_trips
  trips-dropped source o n accounts level =
      ap (λ (test : Account → Bool). any_of test accounts)
      (fun_ext (λ a. ap
      (λ (m : ℕ). same_level (level_of a.rule.scope) level && covers_offer o a.rule && trips_by source o n a.rule m)
      (counted-dropped o.time a)))

  -- a fill joins it as it joins the other
  joined-dropped : (rules : List Rule) (o : Offer) (n : ℕ) → joined_log rules (keep is_flagged log) o n ≡ keep is_flagged (joined_log rules log o n)
  unfolding joined_log recent entry_of is_flagged keep
  joined-dropped rules o n = go (has_rate rules && ltb 0 n)
    where
      w : ℕ
      w = longest rules

      go : (b : Bool)
          → cond b (keep (is_recent w o.time) (keep is_flagged log) ++ (entry_of o n ∷ [])) (keep is_flagged log)
          ≡ keep is_flagged (cond b (keep (is_recent w o.time) log ++ (entry_of o n ∷ [])) log)
      go true =
          ap (λ (kept : List Entry). kept ++ (entry_of o n ∷ [])) (keep-swap (is_recent w o.time) is_flagged log)
          ∙ sym (keep_append is_flagged (keep (is_recent w o.time) log) (entry_of o n ∷ []))
      go false = refl

module _ (s : State) where
  log-dropped : (deed : Deed) → log_after deed (rules_in s) (keep is_flagged s.log) ≡ keep is_flagged (kept_log deed (rules_in s) s.log)
  unfolding log_after kept_log unflagged_log
  log-dropped nothing = refl
  log-dropped (passing time) = refl
  log-dropped (filling source o n) = joined-dropped s.log (rules_in s) o n
  log-dropped (resetting time root effect) = keep-map is_flagged (unflagged (zeroing effect root)) (still-gone (zeroing effect root)) s.log
  log-dropped (locking_out time level) = refl
  log-dropped (sending time sent) = refl
  log-dropped (closing time identity) = refl

  locks-dropped : (deed : Deed) → locks_after deed (dropped s) ≡ locks_after deed s
  unfolding locks_after dropped
  locks-dropped nothing = refl
  locks-dropped (passing time) = refl
  locks-dropped (filling source o n) = rw (fun_ext (trips-dropped s.log source o n s.part.accounts))
  locks-dropped (resetting time root effect) = refl
  locks-dropped (locking_out time level) = refl
  locks-dropped (sending time sent) = refl
  locks-dropped (closing time identity) = refl

  -- a deed leaves of the one what it leaves of the other
  after-dropped : (deed : Deed) → after deed (dropped s) ≡ dropped (kept_after deed s)
  unfolding after part_after rules_in dropped
  after-dropped deed = rw (locks-dropped deed, log-dropped deed)

  filled-dropped : (source : Source) (o : Offer) (n : ℕ) → filled (dropped s) source o n ≡ filled s source o n
  unfolding filled dropped
  filled-dropped source o n = rw (fun_ext (trips-dropped s.log source o n s.part.accounts))

  offered-dropped : (o : Offer) (verdict : ℕ) → offered (dropped s) o verdict ≡ offered s o verdict
  unfolding offered dropped
  offered-dropped o zero =
      filled-dropped granted o _ ∙ ap (λ (n : ℕ). filled s granted o n) (grant-dropped s.log o s.part.accounts)
  offered-dropped o (suc verdict) = refl

  judged-dropped : (call : Call) → judged (dropped s) call ≡ judged s call
  unfolding judged ordered left_of dropped
  judged-dropped (order time root reset) = rw (locks-dropped _)
  judged-dropped (lockout time level root) = refl
  judged-dropped (offer o) = offered-dropped o (verdict_of s.part.locks o.root)
  judged-dropped (remaining time rule unit) = rw (counted-dropped s.log time _)
  judged-dropped status = refl
  judged-dropped (send o identity reports) = refl
  judged-dropped (report time identity n) = filled-dropped (reported identity) (fill_of s.part.register time identity n) n
  judged-dropped (close time identity) = refl

-- the last of several refusals, where it is not 15, of the one nor of the other
last-alike : (earlier : List (Bool × ℕ)) (x y : Bool)
    → (first_of (earlier ++ ((x, 15) ∷ [])) ≡ 15 → ⊥) → (first_of (earlier ++ ((y, 15) ∷ [])) ≡ 15 → ⊥)
    → first_of (earlier ++ ((x, 15) ∷ [])) ≡ first_of (earlier ++ ((y, 15) ∷ []))
unfolding first_of
last-alike [] true y f g = absurd (f refl)
last-alike [] false true f g = absurd (g refl)
last-alike [] false false f g = refl
last-alike (test ∷ earlier) x y f g = go test.0 f g (last-alike earlier x y)
  where
    go : (b : Bool) → (cond b test.1 (first_of (earlier ++ ((x, 15) ∷ []))) ≡ 15 → ⊥) → (cond b test.1 (first_of (earlier ++ ((y, 15) ∷ []))) ≡ 15 → ⊥)
        → ((first_of (earlier ++ ((x, 15) ∷ [])) ≡ 15 → ⊥) → (first_of (earlier ++ ((y, 15) ∷ [])) ≡ 15 → ⊥)
        → first_of (earlier ++ ((x, 15) ∷ [])) ≡ first_of (earlier ++ ((y, 15) ∷ [])))
        → cond b test.1 (first_of (earlier ++ ((x, 15) ∷ []))) ≡ cond b test.1 (first_of (earlier ++ ((y, 15) ∷ [])))
    go true f g next = refl
    go false f g next = next f g

module _ (room : ℕ) where
  -- where neither is told that the log is full, both are refused by the same number, or neither is
  refusal-dropped : (s : State) (call : Call) → (refusal_of room (dropped s) call ≡ 15 → ⊥) → (refusal_of room s call ≡ 15 → ⊥)
      → refusal_of room (dropped s) call ≡ refusal_of room s call
  unfolding refusal_of dropped rules_in
  refusal-dropped s (order time root reset) f g = refl
  refusal-dropped s (lockout time level root) f g = refl
  refusal-dropped s (offer o) f g = last-alike (_ ∷ _ ∷ _ ∷ []) (log_full room (dropped s) o) (log_full room s o) f g
  refusal-dropped s (remaining time rule unit) f g = refl
  refusal-dropped s status f g = refl
  refusal-dropped s (send o identity reports) f g =
      last-alike (_ ∷ _ ∷ _ ∷ _ ∷ _ ∷ []) (no_places room (dropped s) o reports) (no_places room s o reports) f g
  refusal-dropped s (report time identity n) f g = refl
  refusal-dropped s (close time identity) f g = refl

  full-told : (s : State) (call : Call) → ((judge room s call).answer ≡ Refused 15 → ⊥) → refusal_of room s call ≡ 15 → ⊥
  unfolding judge unless
  full-told s call none e = none (ap (λ (n : ℕ). (unless n (judged s call)).answer) e)

  judge-dropped : (s : State) (call : Call) → ((judge room (dropped s) call).answer ≡ Refused 15 → ⊥) → ((judge room s call).answer ≡ Refused 15 → ⊥)
      → judge room (dropped s) call ≡ judge room s call
  unfolding judge
  judge-dropped s call f g =
      ap (λ (j : Judgement). unless (refusal_of room (dropped s) call) j) (judged-dropped s call)
      ∙ ap (λ (n : ℕ). unless n (judged s call)) (refusal-dropped s call (full-told (dropped s) call f) (full-told s call g))

  -- EVERY ANSWER BUT 15 STAYS: as long as neither is told that the log is full, the machine that drops the entries and the one that keeps them
  -- answer alike
  pub answers-alike : (s : State) (calls : List Call) → Roomy (answers_of (step_in room) (dropped s) calls) → Roomy (answers_of (kept_step room) s calls)
      → answers_of (step_in room) (dropped s) calls ≡ answers_of (kept_step room) s calls
  unfolding answers_of step_in
  answers-alike s [] f g = refl
  answers-alike s (call ∷ calls) f g =
      let same : judge room (dropped s) call ≡ judge room s call = judge-dropped s call f.0 g.0 in
      let left : after (judge room (dropped s) call).deed (dropped s) ≡ dropped (kept_after (judge room s call).deed s) =
      ap (λ (j : Judgement). after j.deed (dropped s)) same ∙ after-dropped s (judge room s call).deed
      in
      ap₂ ◌∷◌ (ap (λ (j : Judgement). j.answer) same)
      (ap (λ (x : State). answers_of (step_in room) x calls) left
      ∙ answers-alike (kept_after (judge room s call).deed s) calls
      (subst (λ (x : State). Roomy (answers_of (step_in room) x calls)) left f.1) g.1)

-- a unit that was just armed has no such entries
pub armed-dropped : (p : Profile) → dropped (armed p) ≡ armed p
unfolding dropped armed keep
armed-dropped p = refl
