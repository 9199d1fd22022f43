-- What a deed asks of the state that it is done to, and that a call that is not refused does nothing else. Assumes nothing.
use Prim.Native.Nat.{ℕ, zero, suc, ◌≤◌, ◌<◌}
use mathlib.Core.Path.{◌≡◌, refl}
use mathlib.Core.Bool.{true, false, not}
use lib.ListN.{length}
use lib.Dec.{eqb}
use native.Mathlib.Nat.{le_refl}
use native.Mathlib.Omega.{arith}
use Rattle.laws.specs.Folds.{every}
use Rattle.measures.specs.Ranges.{In, units, premiums, offers}
use Rattle.machine.specs.declared.Offer.{Offer}
use Rattle.machine.specs.declared.Sent.{Sent}
use Rattle.machine.specs.State.{State, roots_in}
use Rattle.machine.specs.Calls.{Call, order, lockout, offer, remaining, status, send, report, close}
use Rattle.machine.specs.Deeds.{Source, granted, reported, Deed, nothing, passing, filling, resetting, locking_out, sending, closing}
use Rattle.machine.specs.Locks.{verdict_of}
use Rattle.machine.specs.Offers.{grant_of}
use Rattle.machine.specs.Register.{register_places, has_identity, is_open, sent_at, fill_of, sent_of, register_by, register_after, is_sent}
use Rattle.machine.specs.Refusals.{refusal_of}
use Rattle.machine.specs.Judge.{filled, offered, ordered, sent_away, judged, unless, judge}
use Rattle.machine.proofs.Refusals.{Timely, Known, Accepted, orderable, lockable, accepted, Sendable, sendable, Reportable, reportable, closable}
use Rattle.machine.proofs.Grants.{grant-le}
use Rattle.machine.proofs.Register.{sent-in, in-sent, open-has, Registered, registered-used, registered-sent, registered-keep}

-- how much may be filled: of an offer what is granted, by a report what its order has open, with a report left
unfoldable pub Few : State → Source → Offer → ℕ → Type 0
Few s granted o n = n ≤ grant_of s.log o s.part.accounts
Few s (reported identity) o n =
    (is_open s.part.register identity ≡ true) × (eqb (sent_at s.part.register identity).reports 0 ≡ false)
    × (n ≤ (sent_at s.part.register identity).contracts.0)

-- a fill whose numbers are in range, of no more than may be filled
pub record Fillable (s : State) (source : Source) (o : Offer) (n : ℕ) : Type 0 where
  pub time : Timely s.part o.time
  pub root : o.root < roots_in s
  pub unit : In units o.unit
  pub premium : In premiums o.premium
  pub contracts : n ≤ offers.most
  pub few : Few s source o n

-- an order whose numbers are in range, that finds a place in the register and its identity not open
pub record Enterable (s : State) (at : ℕ) (sent : Sent) : Type 0 where
  pub time : Timely s.part at
  pub ranged : is_sent (roots_in s) sent ≡ true
  pub few : length s.part.register < register_places
  pub new : is_open s.part.register sent.identity ≡ false

-- what a deed asks of the state that it is done to
unfoldable pub Meets : State → Deed → Type 0
Meets s nothing = Unit
Meets s (passing time) = Timely s.part time
Meets s (filling source o n) = Fillable s source o n
Meets s (resetting time root effect) = Timely s.part time
Meets s (locking_out time level) = Timely s.part time × Known s.part level
Meets s (sending time sent) = Enterable s time sent
Meets s (closing time identity) = Timely s.part time

-- a deed that meets the state leaves its register such as soundness asks for
pub registered-after : (s : State) → Registered (roots_in s) s.part.register → (deed : Deed) → Meets s deed
    → Registered (roots_in s) (register_after deed s.part.register)
unfolding register_after register_by Meets
registered-after s r nothing m = r
registered-after s r (passing time) m = r
registered-after s r (filling granted o n) m = r
registered-after s r (filling (reported identity) o n) m = registered-used r identity n
registered-after s r (resetting time root effect) m = r
registered-after s r (locking_out time level) m = r
registered-after s r (sending time sent) m = registered-sent r sent m.ranged m.few m.new
registered-after s r (closing time identity) m = registered-keep r (λ sent. not (has_identity identity sent))

-- what a call does that is not refused meets a state whose register's fields are in range
module _ (room : ℕ) (s : State) (registered : every (is_sent (roots_in s)) s.part.register ≡ true) where
  offered-meets : (o : Offer) → Accepted room s o → (verdict : ℕ) → Meets s (offered s o verdict).deed
  unfolding Meets Few offered filled roots_in
  offered-meets o a zero = record {
    time = a.time;
    root = a.root;
    unit = a.unit;
    premium = a.premium;
    contracts = omega (arith, grant-le s.log o s.part.accounts, a.contracts.1);
    few = le_refl (grant_of s.log o s.part.accounts);
  }
  offered-meets o a (suc verdict) = a.time

  sent-meets : (o : Offer) (identity reports : ℕ) → Sendable room s o identity reports → (verdict : ℕ)
      → Meets s (sent_away o identity reports verdict).deed
  unfolding Meets sent_away sent_of roots_in
  sent-meets o identity reports a zero = record {
    time = a.time;
    ranged = in-sent (roots_in s) (sent_of o identity reports) (record {
      identity = a.known;
      root = a.root;
      unit = a.unit;
      premium = a.premium;
      contracts = (omega arith, a.contracts.1);
      reports = (omega arith, a.asked.1);
    });
    few = a.few;
    new = a.new;
  }
  sent-meets o identity reports a (suc verdict) = a.time

  pub reported-meets : (time identity n : ℕ) → Reportable s time identity n
      → Fillable s (reported identity) (fill_of s.part.register time identity n) n
  unfolding Few fill_of
  reported-meets time identity n a =
      let is = sent-in (roots_in s) (sent_at s.part.register identity) (open-has _ s.part.register identity registered a.opened) in
      record {
        time = a.time;
        root = is.root;
        unit = is.unit;
        premium = is.premium;
        contracts = a.contracts.1;
        few = (a.opened, a.left, a.enough);
      }

  judged-meets : (call : Call) → refusal_of room s call ≡ 0 → Meets s (judged s call).deed
  unfolding judged ordered filled Meets
  judged-meets (order time root reset) e = (orderable room s time root reset e).0
  judged-meets (lockout time level root) e = lockable room s time level root e
  judged-meets (offer o) e = offered-meets o (accepted room s o e) (verdict_of s.part.locks o.root)
  judged-meets (remaining time rule unit) e = tt
  judged-meets status e = tt
  judged-meets (send o identity reports) e =
      sent-meets o identity reports (sendable room s o identity reports e) (verdict_of s.part.locks o.root)
  judged-meets (report time identity n) e = reported-meets time identity n (reportable room s time identity n e)
  judged-meets (close time identity) e = closable room s time identity e

  pub judge-meets : (call : Call) → Meets s (judge room s call).deed
  unfolding judge unless Meets
  judge-meets call = go (refusal_of room s call) refl
    where
      go : (n : ℕ) → refusal_of room s call ≡ n → Meets s (unless n (judged s call)).deed
      go zero e = judged-meets call e
      go (suc n) e = tt
