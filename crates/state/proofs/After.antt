-- Memory that holds a state, and what a step on that memory leaves of it. Assumes nothing.
use Prim.Native.Nat.{ℕ, ◌≤◌}
use native.Mathlib.Omega.{arith}
use mathlib.Core.Path.{◌≡◌, sym, ap, ◌∙◌, subst}
use mathlib.Core.List.{List}
use lib.ListN.{length, drop, length-append, length-drop}
use Rattle.machine.specs.declared.Entry.{Entry}
use Rattle.machine.specs.State.{State, Locks, rules_in, roots_in, Fitting}
use Rattle.daylog.specs.Inner.Log.{entries_in, log_numbers}
use Rattle.state.specs.State.{size, encode, stored, decode}
use Rattle.state.specs.Inner.Laid.{Fits, Laid, with_clock, with_locks, with_log, with_register}
use Rattle.state.specs.Inner.Tests.{log_part, put_log, put_register}
use Rattle.state.proofs.Stored.{encode-long, decode-stored, stored-laid, stored-again}
use Rattle.state.proofs.Stores.{put-log, put-register}
use Rattle.state.proofs.Laid.{laid-entries}
use Rattle.register.specs.Register.{register_numbers}
use Rattle.machine.specs.declared.Sent.{Sent}
use Rattle.machine.proofs.Register.{Registered}

-- ys holds the state s, and what xs holds past the state
pub record Holds (s : State) (xs ys : List ℕ) : Type 0 where
  pub fits : Fits s
  pub is : ys ≡ stored s xs

pub holds-laid : {xs : List ℕ} → Laid xs → Holds (decode xs) xs xs
holds-laid h = record { fits = h.fits; is = h.is }

module _ {s : State} {xs ys : List ℕ} (h : Holds s xs ys) where
  pub held-state : decode ys ≡ s
  held-state = ap decode h.is ∙ decode-stored s h.fits xs

  pub held-laid : Laid ys
  held-laid = subst Laid (sym h.is) (stored-laid s h.fits xs)

  pub held-length : size ≤ length xs → length ys ≡ length xs
  unfolding stored
  held-length l = ap length h.is ∙ omega (arith, length-append (encode s) (drop size xs), encode-long s h.fits xs, length-drop size xs)

  -- a step from the state that the memory holds
  pub step-on : (g : State → State) {zs : List ℕ} → zs ≡ stored (g (decode ys)) ys → zs ≡ stored (g s) xs
  step-on g z = z ∙ (λ i. stored (g (held-state i)) (h.is i)) ∙ stored-again s h.fits xs (g s)

-- the log's part after a change of the entries that it holds
pub log-after : {xs : List ℕ} → Laid xs → (change : List Entry → List Entry) {ys : List ℕ} → ys ≡ log_numbers (change (entries_in (log_part xs)))
    → put_log xs ys ≡ stored (with_log (decode xs) (change (decode xs).log)) xs
log-after {xs} h change {ys} e =
    let entries : ys ≡ log_numbers (change (decode xs).log) = e ∙ ap (λ (l : List Entry). log_numbers (change l)) (laid-entries h) in
    (λ i. put_log (h.is i) (entries i)) ∙ put-log (decode xs) h.fits xs (change (decode xs).log)

-- the register's part after a change of the orders that it holds
pub register-after : {xs : List ℕ} → Laid xs → (register : List Sent) {ys : List ℕ} → ys ≡ register_numbers register
    → put_register xs ys ≡ stored (with_register (decode xs) register) xs
register-after {xs} h register e = (λ i. put_register (h.is i) (e i)) ∙ put-register (decode xs) h.fits xs register

-- neither the clock nor the locks have to do with whether a state fits
module _ {s : State} (f : Fits s) where
  pub fits-clock : (time : ℕ) → Fits (with_clock s time)
  unfolding rules_in roots_in Fitting
  fits-clock time = record {
    roots = f.roots;
    rules = f.rules;
    log = f.log;
    fitting = f.fitting;
    measured = f.measured;
    valid = f.valid;
    entries = f.entries;
    few = f.few;
    sent = f.sent;
  }

  pub fits-locks : (locks : Locks) → Fits (with_locks s locks)
  unfolding rules_in roots_in Fitting
  fits-locks locks = record {
    roots = f.roots;
    rules = f.rules;
    log = f.log;
    fitting = f.fitting;
    measured = f.measured;
    valid = f.valid;
    entries = f.entries;
    few = f.few;
    sent = f.sent;
  }

  -- another register still fits if it is one that a sound state may have
  pub fits-register : {register : List Sent} → Registered (roots_in s) register → Fits (with_register s register)
  unfolding rules_in roots_in Fitting
  fits-register r = record {
    roots = f.roots;
    rules = f.rules;
    log = f.log;
    fitting = f.fitting;
    measured = f.measured;
    valid = f.valid;
    entries = f.entries;
    few = r.few;
    sent = r.registered;
  }
