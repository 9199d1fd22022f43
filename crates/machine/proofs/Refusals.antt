-- What a call has met that is not refused. Assumes nothing.
use Prim.Native.Nat.{ℕ, zero, suc, ◌≤◌, ◌<◌}
use mathlib.Core.Path.{◌≡◌, refl}
use mathlib.Core.Bool.{Bool, true, false, not, cond, ◌&&◌}
use mathlib.Core.List.{List, [], ◌∷◌}
use lib.ListN.{length}
use lib.Dec.{leb, ltb, eqb}
use borrow.Author.Tests.{ltb-true, ltb-false, leb-false, not-false}
use native.Mathlib.Nat.{suc-ne-zero}
use Rattle.laws.proofs.Tests.{and_l, and_r, tests}
use Rattle.measures.specs.Ranges.{In, is_in, times, units, premiums, offers, identities, reports_asked}
use Rattle.rules.specs.Units.{is_unit_of}
use Rattle.rules.specs.declared.Level.{Level}
use Rattle.rules.specs.declared.Level.TheVariants.{Firm, Root}
use Rattle.machine.specs.State.{Part, State, rules_in}
use Rattle.machine.specs.Calls.{order, lockout, offer, remaining, send, report, close}
use Rattle.machine.specs.Effects.{last_reset}
use Rattle.machine.specs.Order.{level_named}
use Rattle.machine.specs.Remaining.{rule_numbered, is_cell, RuleAndUnit}
use Rattle.machine.specs.Register.{register_places, is_open, sent_at}
use Rattle.machine.specs.Refusals.{log_full, no_places, overdrawn, first_of, bad_time, is_root, refusal_of}
use Rattle.machine.specs.declared.Offer.{Offer}
use Rattle.machine.proofs.Register.{or_no}

-- the first refusal did not apply, and none of the rest did
passed : (b : Bool) (n : ℕ) (rest : List (Bool × ℕ)) → first_of ((b, suc n) ∷ rest) ≡ 0 → (b ≡ false) × (first_of rest ≡ 0)
unfolding first_of
passed true n rest e = absurd (suc-ne-zero n e)
passed false n rest e = (refl, e)

-- a time in its range that is not below the clock
pub record Timely (p : Part) (time : ℕ) : Type 0 where
  pub range : In times time
  pub after : p.clock ≤ time

timely : (p : Part) (time : ℕ) → bad_time p time ≡ false → Timely p time
unfolding bad_time
timely p time e =
    let h = not-false (is_in times time && leb p.clock time) e in
    record { range = (search tests depth 6, search tests depth 6); after = search tests depth 6 }

pub orderable : (room : ℕ) (s : State) (time root reset : ℕ) → refusal_of room s (order time root reset) ≡ 0 → Timely s.part time × (root < length s.part.profile.roots)
unfolding refusal_of is_root
orderable room s time root reset e =
    let t = passed (bad_time s.part time) 11 _ e in
    let k = not-false _ (passed (not (is_root s.part root && leb reset last_reset)) 12 [] t.1).0 in
    (timely s.part time t.0, ltb-true _ _ (and_l (is_root s.part root) (leb reset last_reset) k))

-- the firm, or a root of the profile
abbrev pub Known : Part → Level → Type 0
Known p Firm = Unit
Known p (Root root) = root < length p.profile.roots

pub lockable : (room : ℕ) (s : State) (time level root : ℕ) → refusal_of room s (lockout time level root) ≡ 0
    → Timely s.part time × Known s.part (level_named level root)
unfolding refusal_of is_root level_named
lockable room s time level root e =
    let t = passed (bad_time s.part time) 11 _ e in (
      timely s.part time t.0,
      known level (not-false _ (passed (not (leb level 1 && cond (eqb level 0) (is_root s.part root) (eqb root 0))) 12 [] t.1).0),
    )
  where
    known : (n : ℕ) → (leb n 1 && cond (eqb n 0) (is_root s.part root) (eqb root 0)) ≡ true → Known s.part (level_named n root)
    known zero h = ltb-true root (length s.part.profile.roots) h
    known (suc n) h = tt

-- what Remaining asks for is a rule of the profile, and a unit that it counts for
pub askable : (room : ℕ) (s : State) (time rule unit : ℕ) → refusal_of room s (remaining time rule unit) ≡ 0
    → Timely s.part time × RuleAndUnit (rules_in s) rule unit
unfolding refusal_of is_cell
askable room s time rule unit e =
    let t = passed (bad_time s.part time) 11 _ e in
    let k = not-false _ (passed (not (is_cell (rules_in s) rule unit)) 12 [] t.1).0 in
    let known = ltb rule (length (rules_in s)) in
    let its = is_unit_of (rule_numbered (rules_in s) rule).scope unit in
    (timely s.part time t.0, record { known = ltb-true _ _ (and_l known its k); unit_known = and_r known its k })

-- an offer whose numbers are in range, and which finds the log not full
pub record Accepted (room : ℕ) (s : State) (o : Offer) : Type 0 where
  pub time : Timely s.part o.time
  pub root : o.root < length s.part.profile.roots
  pub unit : In units o.unit
  pub premium : In premiums o.premium
  pub contracts : In offers o.contracts
  pub place : log_full room s o ≡ false

pub accepted : (room : ℕ) (s : State) (o : Offer) → refusal_of room s (offer o) ≡ 0 → Accepted room s o
unfolding refusal_of is_root
accepted room s o e =
    let t = passed (bad_time s.part o.time) 11 _ e in
    let r = passed (not (is_root s.part o.root && is_in units o.unit)) 12 _ t.1 in
    let p = passed (not (is_in premiums o.premium && is_in offers o.contracts)) 13 _ r.1 in
    let known = not-false (is_root s.part o.root && is_in units o.unit) r.0 in
    let ranged = not-false (is_in premiums o.premium && is_in offers o.contracts) p.0 in
    record {
      time = timely s.part o.time t.0;
      root = ltb-true _ _ (and_l (is_root s.part o.root) (is_in units o.unit) known);
      unit = (search tests depth 6, search tests depth 6);
      premium = (search tests depth 6, search tests depth 6);
      contracts = (search tests depth 6, search tests depth 6);
      place = (passed (log_full room s o) 14 [] p.1).0;
    }

-- a sending whose numbers are in range, and which finds places in the register and the log, and its identity not open
pub record Sendable (room : ℕ) (s : State) (o : Offer) (identity reports : ℕ) : Type 0 where
  pub time : Timely s.part o.time
  pub root : o.root < length s.part.profile.roots
  pub unit : In units o.unit
  pub known : In identities identity
  pub premium : In premiums o.premium
  pub contracts : In offers o.contracts
  pub asked : In reports_asked reports
  pub few : length s.part.register < register_places
  pub new : is_open s.part.register identity ≡ false
  pub places : no_places room s o reports ≡ false

pub sendable : (room : ℕ) (s : State) (o : Offer) (identity reports : ℕ) → refusal_of room s (send o identity reports) ≡ 0
    → Sendable room s o identity reports
unfolding refusal_of is_root
sendable room s o identity reports e =
    let register = s.part.register in
    let t = passed (bad_time s.part o.time) 11 _ e in
    let r = passed (not (is_root s.part o.root && is_in units o.unit && is_in identities identity)) 12 _ t.1 in
    let p = passed (not (is_in premiums o.premium && is_in offers o.contracts && is_in reports_asked reports)) 13 _ r.1 in
    let f = passed (leb register_places (length register)) 16 _ p.1 in
    let n = passed (is_open register identity) 17 _ f.1 in
    let known = not-false (is_root s.part o.root && is_in units o.unit && is_in identities identity) r.0 in
    let ranged = not-false (is_in premiums o.premium && is_in offers o.contracts && is_in reports_asked reports) p.0 in
    record {
      time = timely s.part o.time t.0;
      root = ltb-true _ _ (and_l (is_root s.part o.root) (is_in units o.unit) (and_l _ (is_in identities identity) known));
      unit = (search tests depth 8, search tests depth 8);
      known = (search tests depth 8, search tests depth 8);
      premium = (search tests depth 8, search tests depth 8);
      contracts = (search tests depth 8, search tests depth 8);
      asked = (search tests depth 8, search tests depth 8);
      few = leb-false register_places (length register) f.0;
      new = n.0;
      places = (passed (no_places room s o reports) 14 [] n.1).0;
    }

-- a report of an order that is open, of no more contracts than it has open, and with a report left
pub record Reportable (s : State) (at identity n : ℕ) : Type 0 where
  pub time : Timely s.part at
  pub contracts : In offers n
  pub opened : is_open s.part.register identity ≡ true
  pub enough : n ≤ (sent_at s.part.register identity).contracts.0
  pub left : eqb (sent_at s.part.register identity).reports 0 ≡ false

pub reportable : (room : ℕ) (s : State) (time identity n : ℕ) → refusal_of room s (report time identity n) ≡ 0 → Reportable s time identity n
unfolding refusal_of overdrawn
reportable room s time identity n e =
    let register = s.part.register in
    let t = passed (bad_time s.part time) 11 _ e in
    let k = passed (not (is_in identities identity)) 12 _ t.1 in
    let c = passed (not (is_in offers n)) 13 _ k.1 in
    let o = passed (not (is_open register identity)) 17 _ c.1 in
    let d = or_no _ _ (passed (overdrawn register identity n) 18 [] o.1).0 in
    let ranged = not-false (is_in offers n) c.0 in
    record {
      time = timely s.part time t.0;
      contracts = (search tests depth 6, search tests depth 6);
      opened = not-false (is_open register identity) o.0;
      enough = ltb-false (sent_at register identity).contracts.0 n d.0;
      left = d.1;
    }

pub closable : (room : ℕ) (s : State) (time identity : ℕ) → refusal_of room s (close time identity) ≡ 0 → Timely s.part time
unfolding refusal_of
closable room s time identity e = timely s.part time (passed (bad_time s.part time) 11 _ e).0
