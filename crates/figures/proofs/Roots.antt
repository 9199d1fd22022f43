-- The root of a report's order: what the register says when the report comes is what the events and the register before them say, and every event
-- that is not refused is of a root that has a row. Assumes nothing.
use Prim.Native.Nat.{ℕ, zero, suc, ◌≤◌, ◌<◌}
use native.Mathlib.Omega.{arith}
use mathlib.Core.Path.{◌≡◌, refl, sym, ap, ◌∙◌}
use mathlib.Core.Bool.{Bool, true, false, not, cond, ◌&&◌, ◌||◌, false≢true}
use mathlib.Core.List.{List, [], ◌∷◌, map}
use lib.Dec.{eqb}
use borrow.Author.Tests.{ne_eqb}
use Rattle.laws.specs.Folds.{every, keep}
use Rattle.rules.specs.declared.Level.{Level}
use Rattle.rules.specs.declared.Level.TheVariants.{Firm, Root}
use Rattle.machine.specs.declared.Offer.{Offer}
use Rattle.machine.specs.declared.Sent.{Sent}
use Rattle.machine.specs.Answer.{Answer, Refused, Judged, Left, Standing}
use Rattle.machine.specs.State.{State, roots_in}
use Rattle.machine.specs.Calls.{Call, order, lockout, offer, remaining, status, send, report, close}
use Rattle.machine.specs.Locks.{verdict_of}
use Rattle.machine.specs.Register.{has_identity, is_open, sent_at, sent_of, used_up, register_by, register_after, is_sent}
use Rattle.machine.specs.Refusals.{refusal_of}
use Rattle.machine.specs.Judge.{filled, offered, ordered, sent_away, judged}
use Rattle.machine.proofs.Register.{sent-in, open-has, open-used}
use Rattle.machine.proofs.Orders.{open-sent, sent-sent, open-closed, sent-closed}
use Rattle.machine.proofs.Refusals.{orderable, accepted, sendable, reportable}
use Rattle.figures.specs.declared.Happening.TheVariants.{Uncounted}
use Rattle.figures.specs.Happenings.{ordered_of, offered_of, reported_of, happening_of}
use Rattle.figures.specs.Figures as row
use Rattle.figures.specs.Figures.{happening_root, is_of_level, figures_of, no_figures}
use Rattle.figures.specs.Levels.{HasRow, root_rows}
use Rattle.figures.specs.History.{is_free, root_after, added_to}

-- ---- refused events

pub refused-uncounted : (sent_root : ℕ → ℕ) (call : Call) (n : ℕ) → happening_of sent_root call (Refused n) ≡ Uncounted
unfolding happening_of ordered_of offered_of reported_of
refused-uncounted sent_root (order time root reset) n = refl
refused-uncounted sent_root (lockout time level root) n = refl
refused-uncounted sent_root (offer o) n = refl
refused-uncounted sent_root (remaining time rule unit) n = refl
refused-uncounted sent_root status n = refl
refused-uncounted sent_root (send o identity reports) n = refl
refused-uncounted sent_root (report time identity m) n = refl
refused-uncounted sent_root (close time identity) n = refl

pub refused-root : (call : Call) (n : ℕ) (earlier : ℕ → ℕ) (identity : ℕ) → root_after call (Refused n) earlier identity ≡ earlier identity
unfolding root_after is_free
refused-root (order time root reset) n earlier identity = refl
refused-root (lockout time level root) n earlier identity = refl
refused-root (offer o) n earlier identity = refl
refused-root (remaining time rule unit) n earlier identity = refl
refused-root status n earlier identity = refl
refused-root (send o sent reports) n earlier identity = refl
refused-root (report time sent m) n earlier identity = refl
refused-root (close time sent) n earlier identity = refl

-- what counts nowhere adds nothing to any row
pub uncounted-none : (level : Level) → added_to level Uncounted ≡ no_figures
unfolding added_to is_of_level figures_of no_figures row.accepted row.rejected row.fills row.contracts row.notional row.cuts row.trips_of row.away
uncounted-none Firm = refl
uncounted-none (Root r) = either (eqb r (happening_root Uncounted))
  where
    either : (b : Bool) → cond b no_figures no_figures ≡ no_figures
    either true = refl
    either false = refl

-- ---- the register's roots

-- a report leaves the roots
root-used : (k n : ℕ) (register : List Sent) (identity : ℕ) → (sent_at (map (used_up k n) register) identity).root ≡ (sent_at register identity).root
unfolding sent_at used_up has_identity
root-used k n [] identity = refl
root-used k n (sent ∷ rest) identity = go (eqb sent.identity identity) (root-used k n rest identity)
  where
    go : (b : Bool) → (sent_at (map (used_up k n) rest) identity).root ≡ (sent_at rest identity).root
        → (cond b (used_up k n sent) (sent_at (map (used_up k n) rest) identity)).root ≡ (cond b sent (sent_at rest identity)).root
    go true next = refl
    go false next = next

-- the root that the register of a state has for an identity
abbrev pub root_now : State → ℕ → ℕ
root_now s identity = (sent_at s.part.register identity).root

-- a function that gives the roots of all orders that are open
abbrev pub Gives : State → (ℕ → ℕ) → Type 0
Gives s earlier = (identity : ℕ) → is_open s.part.register identity ≡ true → root_now s identity ≡ earlier identity

module _ (room : ℕ) (s : State) where
  -- it tells of a call that is not refused what the register does
  pub same-happening : (earlier : ℕ → ℕ) → Gives s earlier → (call : Call) → refusal_of room s call ≡ 0 → (a : Answer)
      → happening_of (root_now s) call a ≡ happening_of earlier call a
  unfolding happening_of
  same-happening earlier gives (order time root reset) e a = refl
  same-happening earlier gives (lockout time level root) e a = refl
  same-happening earlier gives (offer o) e a = refl
  same-happening earlier gives (remaining time rule unit) e a = refl
  same-happening earlier gives status e a = refl
  same-happening earlier gives (send o identity reports) e a = refl
  same-happening earlier gives (report time identity n) e a = ap (λ (r : ℕ). reported_of r a) (gives identity (reportable room s time identity n e).opened)
  same-happening earlier gives (close time identity) e a = refl

  -- and with the call it gives the roots of the orders that are open after it
  pub gives_after : (earlier : ℕ → ℕ) → Gives s earlier → (call : Call) → refusal_of room s call ≡ 0 → (identity : ℕ)
      → is_open (register_after (judged s call).deed s.part.register) identity ≡ true
      → (sent_at (register_after (judged s call).deed s.part.register) identity).root ≡ root_after call (judged s call).answer earlier identity
  unfolding judged ordered offered filled sent_away sent_of register_after register_by root_after is_free
  gives_after earlier gives (order time root reset) e identity o = gives identity o
  gives_after earlier gives (lockout time level root) e identity o = gives identity o
  gives_after earlier gives (offer f) e identity o = go (verdict_of s.part.locks f.root) o
    where
      go : (verdict : ℕ) → is_open (register_after (offered s f verdict).deed s.part.register) identity ≡ true
          → (sent_at (register_after (offered s f verdict).deed s.part.register) identity).root ≡ earlier identity
      go zero o = gives identity o
      go (suc verdict) o = gives identity o
  gives_after earlier gives (remaining time rule unit) e identity o = gives identity o
  gives_after earlier gives status e identity o = gives identity o
  gives_after earlier gives (send f sent reports) e identity o = go (verdict_of s.part.locks f.root) o
    where
      go : (verdict : ℕ) → is_open (register_after (sent_away f sent reports verdict).deed s.part.register) identity ≡ true
          → (sent_at (register_after (sent_away f sent reports verdict).deed s.part.register) identity).root
          ≡ root_after (send f sent reports) (sent_away f sent reports verdict).answer earlier identity
      go zero o =
          ap (λ (x : Sent). x.root) (sent-sent identity s.part.register (sent_of f sent reports) (sendable room s f sent reports e).new o)
          ∙ either (eqb sent identity) (sym (open-sent identity s.part.register (sent_of f sent reports)) ∙ o)
        where
          either : (b : Bool) → (b || is_open s.part.register identity) ≡ true
              → (cond b (sent_of f sent reports) (sent_at s.part.register identity)).root ≡ cond b f.root (earlier identity)
          either true h = refl
          either false h = gives identity h
      go (suc verdict) o = rw (ne_eqb (suc verdict) 0 (λ z. omega arith)) (gives identity o)
  gives_after earlier gives (report time sent n) e identity o =
      root-used sent n s.part.register identity ∙ gives identity (sym (open-used sent n s.part.register identity) ∙ o)
  gives_after earlier gives (close time sent) e identity o = go (eqb sent identity) refl (sym (open-closed identity sent s.part.register) ∙ o)
    where
      go : (b : Bool) → eqb sent identity ≡ b → (not (eqb sent identity) && is_open s.part.register identity) ≡ true
          → (sent_at (keep (λ (x : Sent). not (has_identity sent x)) s.part.register) identity).root ≡ earlier identity
      go true t h = absurd (false≢true (rw t at h))
      go false t h = ap (λ (x : Sent). x.root) (sent-closed identity sent s.part.register t) ∙ gives identity (rw t at h)

  -- an event that is not refused is of a root that has a row
  module _ (few : roots_in s ≤ root_rows) (registered : every (is_sent (roots_in s)) s.part.register ≡ true) where
    ordered-known : (root : ℕ) → root < roots_in s → (a : Answer) → happening_root (ordered_of root a) < root_rows
    unfolding ordered_of happening_root
    ordered-known root l (Refused n) = omega arith
    ordered-known root l (Judged verdict grant roottrip firmtrip) = omega arith
    ordered-known root l (Left n) = omega arith
    ordered-known root l (Standing roots) = omega arith

    offered-known : (o : Offer) → o.root < roots_in s → (a : Answer) → happening_root (offered_of o a) < root_rows
    unfolding offered_of happening_root
    offered-known o l (Refused n) = omega arith
    offered-known o l (Judged zero grant roottrip firmtrip) = omega arith
    offered-known o l (Judged (suc verdict) grant roottrip firmtrip) = omega arith
    offered-known o l (Left n) = omega arith
    offered-known o l (Standing roots) = omega arith

    reported-known : (root : ℕ) → root < roots_in s → (a : Answer) → happening_root (reported_of root a) < root_rows
    unfolding reported_of happening_root
    reported-known root l (Refused n) = omega arith
    reported-known root l (Judged verdict grant roottrip firmtrip) = omega arith
    reported-known root l (Left n) = omega arith
    reported-known root l (Standing roots) = omega arith

    pub root-known : (call : Call) → refusal_of room s call ≡ 0 → (a : Answer) → HasRow (Root (happening_root (happening_of (root_now s) call a)))
    unfolding happening_of HasRow happening_root roots_in
    root-known (order time root reset) e a = ordered-known root (orderable room s time root reset e).1 a
    root-known (lockout time level root) e a = omega arith
    root-known (offer o) e a = offered-known o (accepted room s o e).root a
    root-known (remaining time rule unit) e a = omega arith
    root-known status e a = omega arith
    root-known (send o identity reports) e a = ordered-known o.root (sendable room s o identity reports e).root a
    root-known (report time identity n) e a =
        reported-known (root_now s identity)
        (sent-in (roots_in s) (sent_at s.part.register identity) (open-has _ s.part.register identity registered (reportable room s time identity n e).opened)).root a
    root-known (close time identity) e a = omega arith
