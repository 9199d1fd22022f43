-- After each deed the state counts what the deeds have, and what was granted found room. Assumes nothing.
use Prim.Native.Nat.{ℕ, zero, suc, ◌+◌, ◌≤◌, ◌<◌}
use mathlib.Core.Path.{◌≡◌, refl, sym, ap, ◌∙◌, subst⁻¹}
use mathlib.Core.Bool.{Bool, true, false, cond, false≢true}
use mathlib.Core.List.{List, ◌∷◌}
use native.Mathlib.Omega.{arith}
use Rattle.rules.specs.Rules.{level_of, counts, held, ceiling}
use Rattle.rules.specs.Allowance.{All, Keeps}
use Rattle.rules.specs.declared.Level.{Level}
use Rattle.rules.specs.declared.Rule.{Rule}
use Rattle.rules.specs.declared.Account.{Account}
use Rattle.rules.proofs.Laws.{added-zero}
use Rattle.rules.proofs.Held.{held_none, held_low}
use Rattle.rules.specs.Valid.{has_rate}
use Rattle.machine.specs.declared.Entry.{Entry}
use Rattle.machine.specs.State.{Profile, State, cells_of, rules_in, account_rule}
use Rattle.machine.specs.declared.Offer.{Offer}
use Rattle.machine.specs.declared.Sent.{Sent}
use Rattle.machine.specs.declared.Effect.{Effect}
use Rattle.machine.specs.Effects.{zeroing}
use Rattle.machine.specs.Deeds.{Source, granted, reported, Deed, nothing, passing, filling, resetting, locking_out, sending, closing, clock_after}
use Rattle.machine.specs.Order.{wiped}
use Rattle.machine.specs.Offers.{counted, covers_offer, grant_of, credited, longest}
use Rattle.machine.specs.Step.{accounts_after, log_after, part_after, after}
use Rattle.machine.proofs.Grants.{grant-fits}
use Rattle.machine.proofs.Meets.{Few, Meets}
use Rattle.demand.specs.History.{deed_time, amount_of, is_reported, is_away, zeroes}
use Rattle.demand.specs.Locked.{counted_in}
use Rattle.demand.proofs.Lists.{none-either, all-imp, all-imp₂, all_map, all-unmap}
use Rattle.demand.proofs.Past.{Room, Kept}
use Rattle.demand.proofs.Counted.{counted-reset, Fits, gain, fill-counted}
use Rattle.demand.proofs.Invariant.{Right, Inv, cells_fit}

-- a deed that neither zeroes nor adds, and leaves accounts and log
record Still (deed : Deed) : Type 0 where
  no_zero : (level : Level) → zeroes level deed ≡ false
  no_add : (rule : Rule) → amount_of rule deed ≡ 0
  accounts : (accounts : List Account) → accounts_after deed accounts ≡ accounts
  log : (rules : List Rule) (log : List Entry) → log_after deed rules log ≡ log

nothing-still : Still nothing
unfolding zeroes amount_of accounts_after log_after
nothing-still = record { no_zero = λ level. refl; no_add = λ rule. refl; accounts = λ a. refl; log = λ rules l. refl }

passing-still : (time : ℕ) → Still (passing time)
unfolding zeroes amount_of accounts_after log_after
passing-still time = record { no_zero = λ level. refl; no_add = λ rule. refl; accounts = λ a. refl; log = λ rules l. refl }

locking_out-still : (time : ℕ) (level : Level) → Still (locking_out time level)
unfolding zeroes amount_of accounts_after log_after
locking_out-still time level = record { no_zero = λ level. refl; no_add = λ rule. refl; accounts = λ a. refl; log = λ rules l. refl }

sending-still : (time : ℕ) (sent : Sent) → Still (sending time sent)
unfolding zeroes amount_of accounts_after log_after
sending-still time sent = record { no_zero = λ level. refl; no_add = λ rule. refl; accounts = λ a. refl; log = λ rules l. refl }

closing-still : (time identity : ℕ) → Still (closing time identity)
unfolding zeroes amount_of accounts_after log_after
closing-still time identity = record { no_zero = λ level. refl; no_add = λ rule. refl; accounts = λ a. refl; log = λ rules l. refl }

still-counted : (deed : Deed) → Still deed → (rule : Rule) (h : List Deed) (t : ℕ) → counted_in rule (deed ∷ h) t ≡ counted_in rule h t
unfolding counted_in
still-counted deed still rule h t =
    rw (still.no_zero, still.no_add, none-either (counts rule.kind (deed_time deed) t)) (omega arith)

module _ (p : Profile) (s : State) (h : List Deed) (i : Inv p s h) where
  abbrev accounts : List Account
  accounts = s.part.accounts

  abbrev cells : List Rule
  cells = cells_of p.rules

  abbrev AllRight : Deed → Type 0
  AllRight deed = All (Right (after deed s) (deed ∷ h)) (accounts_after deed accounts)

  still-right : (deed : Deed) → Still deed → s.part.clock ≤ clock_after deed s.part.clock → AllRight deed
  unfolding after part_after
  still-right deed still le = subst⁻¹ (All (Right (after deed s) (deed ∷ h))) (still.accounts accounts) (all-imp one accounts i.right)
    where
      one : (a : Account) → Right s h a → Right (after deed s) (deed ∷ h) a
      one a right = record {
        low = right.low;
        counts = λ t p. rw (still.log, still-counted deed still) (right.counts t (omega arith));
      }

  reset-counted : (time root : ℕ) (effect : Effect) (rule : Rule) (t : ℕ)
      → counted_in rule (resetting time root effect ∷ h) t ≡ cond (zeroing effect root (level_of rule.scope)) 0 (counted_in rule h t)
  unfolding counted_in zeroes amount_of
  reset-counted time root effect rule t =
      rw (none-either (counts rule.kind (deed_time (resetting time root effect)) t))
      (ap (λ (n : ℕ). cond (zeroing effect root (level_of rule.scope)) 0 n) (omega arith))

  reset-right : (time root : ℕ) (effect : Effect) → s.part.clock ≤ time → (a : Account) → Right s h a
      → Right (after (resetting time root effect) s) (resetting time root effect ∷ h) (wiped (zeroing effect root) a)
  unfolding after part_after log_after clock_after wiped
  reset-right time root effect le a right = record {
    low = right.low;
    counts =
        λ t p.
        counted-reset (zeroing effect root) s.log t a
        ∙ rw (reset-counted time root effect a.rule t, right.counts t (omega arith)) (go t (zeroing effect root (level_of a.rule.scope)));
  }
    where
      go : (t : ℕ) (b : Bool) → cond b 0 (held a.rule.kind (counted_in a.rule h t)) ≡ held a.rule.kind (cond b 0 (counted_in a.rule h t))
      go t true = sym (held_none a.rule.kind)
      go t false = refl

  fill-right : (source : Source) (o : Offer) (n : ℕ) → s.part.clock ≤ o.time
      → (a : Account) → Right s h a → Fits (longest p.rules) (has_rate p.rules) a.rule.kind
      → Right (after (filling source o n) s) (filling source o n ∷ h) (credited o n a)
  unfolding after part_after log_after rules_in clock_after credited counted_in zeroes amount_of
  fill-right source o n le a right fits = record {
    low = right.low;
    counts =
        λ t q.
        rw i.profile (fill-counted p.rules s.log o n a t (counted_in a.rule h t) fits q (right.counts t (omega arith)));
  }

  pub right-after : (deed : Deed) → s.part.clock ≤ clock_after deed s.part.clock → AllRight deed
  unfolding accounts_after clock_after
  right-after nothing le = still-right nothing nothing-still le
  right-after (passing time) le = still-right (passing time) (passing-still time) le
  right-after (filling source o n) le =
      all_map _ (credited o n) accounts
      (all-imp₂ (fill-right source o n le) accounts i.right
      (all-unmap (λ rule. Fits (longest p.rules) (has_rate p.rules) rule.kind) account_rule accounts (rw i.same (cells_fit p.rules))))
  right-after (resetting time root effect) le =
      all_map _ (wiped (zeroing effect root)) accounts (all-imp (reset-right time root effect le) accounts i.right)
  right-after (locking_out time level) le = still-right (locking_out time level) (locking_out-still time level) le
  right-after (sending time sent) le = still-right (sending time sent) (sending-still time sent) le
  right-after (closing time identity) le = still-right (closing time identity) (closing-still time identity) le

  still_kept : (deed : Deed) → ((rule : Rule) → amount_of rule deed ≡ 0) → All (λ rule. Kept rule (deed ∷ h)) cells
  unfolding Kept Room
  still_kept deed none = all-imp (λ rule k. (λ own pos. omega (arith, none rule, pos), k)) cells i.kept

  -- what came back from an away market needs none
  away-kept : (identity : ℕ) (o : Offer) (n : ℕ) → All (λ rule. Kept rule (filling (reported identity) o n ∷ h)) cells
  unfolding Kept Room is_away is_reported
  away-kept identity o n = all-imp (λ rule k. (λ own. absurd (false≢true (sym own)), k)) cells i.kept

  -- what is granted finds room in what was counted: the hold does not hide any of it, since the limit lies below
  fill-room : (o : Offer) (n : ℕ) → s.part.clock ≤ o.time → (a : Account) → Right s h a
      → (covers_offer o a.rule ≡ true → Keeps a.rule.limit (counted s.log o.time a) o.premium n)
      → Room a.rule (filling granted o n) h
  unfolding Room amount_of clock_after
  fill-room o n le a right keeps own = go (covers_offer o a.rule) refl
    where
      go : (b : Bool) → covers_offer o a.rule ≡ b → 0 < gain o n a.rule
          → counted_in a.rule h o.time + gain o n a.rule ≤ ceiling a.rule.limit
      go false e pos = omega (arith, rw e at pos)
      go true e pos =
          rw e
          (held_low (ceiling a.rule.limit) right.low a.rule.kind (counted_in a.rule h o.time) _
          (rw (← (right.counts o.time le)) (keeps e)))

  fill-kept : (o : Offer) (n : ℕ) → s.part.clock ≤ o.time → n ≤ grant_of s.log o accounts
      → All (λ rule. Kept rule (filling granted o n ∷ h)) cells
  unfolding Kept amount_of
  fill-kept o zero le few =
      still_kept (filling granted o 0) (λ rule. rw (added-zero rule.limit o.premium) (none-either (covers_offer o rule)))
  fill-kept o (suc n) le few =
      rw (← i.same)
      (all_map (λ rule. Kept rule (filling granted o (suc n) ∷ h)) account_rule accounts
      (all-imp₂ (λ a (x : Right s h a × Kept a.rule h) keeps. (fill-room o (suc n) le a x.0 keeps, x.1)) accounts
      (all-imp₂ (λ a right kept. (right, kept)) accounts i.right
      (all-unmap (λ rule. Kept rule h) account_rule accounts (rw i.same i.kept)))
      (grant-fits s.log o (suc n) (omega arith) accounts few)))

  pub kept-after : (deed : Deed) → Meets s deed → All (λ rule. Kept rule (deed ∷ h)) cells
  unfolding amount_of Meets Few
  kept-after nothing m = still_kept nothing (λ rule. refl)
  kept-after (passing time) m = still_kept (passing time) (λ rule. refl)
  kept-after (filling granted o n) m = fill-kept o n m.time.after m.few
  kept-after (filling (reported identity) o n) m = away-kept identity o n
  kept-after (resetting time root effect) m = still_kept (resetting time root effect) (λ rule. refl)
  kept-after (locking_out time level) m = still_kept (locking_out time level) (λ rule. refl)
  kept-after (sending time sent) m = still_kept (sending time sent) (λ rule. refl)
  kept-after (closing time identity) m = still_kept (closing time identity) (λ rule. refl)
