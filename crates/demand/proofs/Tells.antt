-- What a state answers is what the deeds tell: the verdict, how the roots stand, the grant with its trips, and what remains. Assumes nothing.
use Prim.Native.Nat.{ℕ, zero, suc, ◌-◌, ◌≤◌, ◌<◌, max}
use mathlib.Core.Path.{◌≡◌, refl, sym, ap, ◌∙◌, subst}
use mathlib.Core.Bool.{Bool, true, false, ◌||◌}
use mathlib.Core.Logic.{◌⊎◌, inl, inr}
use mathlib.Core.List.{List}
use lib.ListN.{length, get_or, length-map}
use lib.Dec.{eqb}
use Rattle.bits.specs.Locks.{bit, either, standing_of}
use Rattle.bits.proofs.Words.{bit-cases}
use Rattle.bits.proofs.Counting.{count-ext, first-ext}
use Rattle.measures.specs.Ranges.{In, units}
use Rattle.rules.specs.Rules.{ceiling}
use Rattle.rules.specs.Units.{of_unit}
use Rattle.rules.specs.declared.Level.{Level}
use Rattle.rules.specs.declared.Level.TheVariants.{Firm, Root}
use Rattle.rules.specs.declared.Rule.{Rule}
use Rattle.rules.specs.declared.Account.{Account}
use Rattle.rules.proofs.Held.{held-left}
use Rattle.machine.specs.State.{Profile, Locks, State, cells_of, rules_in, account_rule}
use Rattle.machine.specs.declared.Offer.{Offer}
use Rattle.machine.specs.declared.Sent.{Sent}
use Rattle.machine.specs.Deeds.{Source, granted, Deed}
use Rattle.machine.specs.Locks.{is_tripped, is_by_user, is_locked, verdict_of}
use Rattle.machine.specs.Offers.{grant_of}
use Rattle.machine.specs.Remaining.{no_account, rule_numbered, RuleAndUnit, cell_at, account_at, account_for, left_of, standing}
use Rattle.machine.specs.Register.{is_open, fill_of}
use Rattle.machine.specs.Judge.{filled, offered}
use Rattle.machine.proofs.Cells.{cell-place}
use Rattle.demand.specs.Away.{fill_in}
use Rattle.demand.specs.History.{lifts}
use Rattle.demand.specs.Locked.{counted_in, locks, locks_out, rule_trips}
use Rattle.demand.specs.Answers.{tripped_in, by_user_in, locked_in, verdict_in, one, standing_in, filled_answer, offer_answer, left_in}
use Rattle.demand.proofs.Lists.{all-get, get-map}
use Rattle.demand.proofs.Since.{since-or}
use Rattle.demand.proofs.Invariant.{Right, Inv}
use Rattle.demand.proofs.Looked.{grant-same, trips-same}

-- a bit is 1 where it stands
one_bit : (w r : ℕ) → bit w r ≡ one (eqb (bit w r) 1)
one_bit w r = go (bit-cases w r)
  where
    go : (bit w r ≡ 0) ⊎ (bit w r ≡ 1) → bit w r ≡ one (eqb (bit w r) 1)
    go (inl e) = rw e
    go (inr e) = rw e

-- the greater of two bits stands where either does
one-or : (a b : Bool) → max (one a) (one b) ≡ one (a || b)
one-or true true = refl
one-or true false = refl
one-or false true = refl
one-or false false = refl

-- a level is locked exactly if the deeds leave it so
pub locked-now : (p : Profile) (s : State) (h : List Deed) → Inv p s h → (level : Level)
    → is_locked s.part.locks level ≡ locked_in p.rules level h
unfolding is_locked locks
locked-now p s h i level =
    rw (i.tripped level, i.by_user level)
    (sym (since-or (lifts level) (rule_trips p.rules level) (λ deed earlier. locks_out level deed) h))

pub verdict-now : (p : Profile) (s : State) (h : List Deed) → Inv p s h → (root : ℕ)
    → verdict_of s.part.locks root ≡ verdict_in p.rules root h
unfolding verdict_of verdict_in
verdict-now p s h i root = rw (locked-now p s h i Firm, locked-now p s h i (Root root))

module _ (p : Profile) (s : State) (h : List Deed) (i : Inv p s h) where
  abbrev locks-now : Locks
  locks-now = s.part.locks

  abbrev accounts : List Account
  accounts = s.part.accounts

  -- the bits of the two words, and of either, are what the deeds leave
  tripped-bit : (r : ℕ) → bit locks-now.tripped r ≡ one (tripped_in p.rules (Root r) h)
  unfolding is_tripped
  tripped-bit r = one_bit locks-now.tripped r ∙ ap one (i.tripped (Root r))

  by_user-bit : (r : ℕ) → bit locks-now.by_user r ≡ one (by_user_in (Root r) h)
  unfolding is_by_user
  by_user-bit r = one_bit locks-now.by_user r ∙ ap one (i.by_user (Root r))

  locked-bit : (r : ℕ) → either locks-now.tripped locks-now.by_user r ≡ one (locked_in p.rules (Root r) h)
  unfolding either locks
  locked-bit r =
      rw (tripped-bit r, by_user-bit r, since-or (lifts (Root r)) (rule_trips p.rules (Root r)) (λ deed earlier. locks_out (Root r) deed) h)
      (one-or (tripped_in p.rules (Root r) h) (by_user_in (Root r) h))

  pub standing-same : standing locks-now ≡ standing_in p.rules h
  unfolding standing standing_of standing_in
  standing-same =
      λ j.
      record {
        tripped = count-ext (bit locks-now.tripped) (λ r. one (tripped_in p.rules (Root r) h)) 64 (λ r l. tripped-bit r) j;
        user = count-ext (bit locks-now.by_user) (λ r. one (by_user_in (Root r) h)) 64 (λ r l. by_user-bit r) j;
        locked = count-ext (either locks-now.tripped locks-now.by_user) (λ r. one (locked_in p.rules (Root r) h)) 64 (λ r l. locked-bit r) j;
        lowest = first-ext (either locks-now.tripped locks-now.by_user) (λ r. one (locked_in p.rules (Root r) h)) 64 (λ r l. locked-bit r) j;
      }

  -- a fill, with its trips
  pub filled-same : (source : Source) (o : Offer) (n : ℕ) → In units o.unit → s.part.clock ≤ o.time
      → (filled s source o n).answer ≡ filled_answer p.rules h source o n
  unfolding filled filled_answer
  filled-same source o n known le =
      rw (trips-same p s h i o known source n (Root o.root) le, trips-same p s h i o known source n Firm le)

  pub offered-same : (o : Offer) (verdict : ℕ) → In units o.unit → s.part.clock ≤ o.time
      → (offered s o verdict).answer ≡ offer_answer p.rules h o verdict
  unfolding offered offer_answer
  offered-same o zero known le =
      filled-same granted o (grant_of s.log o accounts) known le ∙ ap (filled_answer p.rules h granted o) (grant-same p s h i o known le)
  offered-same o (suc verdict) known le = refl

  -- the account that Remaining asks for counts what the deeds have for its rule on its unit
  asked-cell : (time cell : ℕ) (rule : Rule) → s.part.clock ≤ time → cell < length accounts → get_or (cells_of p.rules) cell no_account.rule ≡ rule
      → left_of s time (account_at accounts cell) ≡ ceiling rule.limit - counted_in rule h time
  unfolding left_of account_at
  asked-cell time cell rule le low is =
      let a = get_or accounts cell no_account in
      let which : a.rule ≡ rule =
      get-map account_rule accounts cell no_account ∙ (ap (λ (rules : List Rule). get_or rules cell no_account.rule) i.same ∙ is)
      in
      let right : Right s h a = all-get (Right s h) accounts cell no_account low i.right in
      ap (λ (n : ℕ). ceiling a.rule.limit - n) (right.counts time le)
      ∙ (held-left (ceiling a.rule.limit) right.low a.rule.kind (counted_in a.rule h time)
      ∙ ap (λ (r : Rule). ceiling r.limit - counted_in r h time) which)

  -- what remains
  pub left-same : (time rule unit : ℕ) → s.part.clock ≤ time → RuleAndUnit (rules_in s) rule unit
      → left_of s time (account_for s.part rule unit) ≡ left_in (rule_numbered p.rules rule) unit h time
  unfolding account_for left_in of_unit rules_in
  left-same time rule unit le asked =
      let a = subst (λ (q : Profile). RuleAndUnit q.rules rule unit) i.profile asked in
      let at = cell-place p.rules rule unit no_account.rule a.known a.unit_known in
      ap (λ (q : Profile). left_of s time (account_at accounts (cell_at q.rules rule unit))) i.profile
      ∙ asked-cell time (cell_at p.rules rule unit) (of_unit (rule_numbered p.rules rule) unit) le
      (rw (← (length-map accounts account_rule), i.same) at.0) at.1

  -- a report counts as the fill that the deeds tell
  pub fill-same : (time identity n : ℕ) → is_open s.part.register identity ≡ true
      → fill_of s.part.register time identity n ≡ fill_in h time identity n
  unfolding fill_of fill_in
  fill-same time identity n o =
      ap (λ (sent : Sent). record { time = time; root = sent.root; unit = sent.unit; premium = sent.premium.0; contracts = n }) (i.orders identity o)
