-- What stands in memory in which a state is laid out, part by part, and the state that a store into one part leaves. Assumes nothing.
use Prim.Native.Nat.{ℕ, ◌+◌, ◌*◌, ◌-◌, ◌<◌}
use native.Mathlib.Nat.{mul-one}
use native.Mathlib.Omega.{arith}
use mathlib.Core.Path.{◌≡◌, refl, sym, ap, ◌∙◌}
use mathlib.Core.Bool.{true}
use mathlib.Core.List.{List, [], ◌∷◌, ◌++◌}
use lib.ListN.{length, get_or, take, drop, set, get_or-map}
use lib.Seq.{get_or-take, get_or-drop}
use Rattle.shapes.specs.Shape.{Exact, cell, both, named, word, flag, rows, table}
use Rattle.shapes.proofs.Exact.{table-exact}
use Rattle.shapes.proofs.Parts.{Part, part_of, put-part, put_one, seen, narrow}
use Rattle.rules.specs.Amounts.{number_of}
use Rattle.rules.specs.declared.Account.{Account}
use Rattle.tables.specs.Inner.Tables.{zeros, flat}
use Rattle.packing.specs.RulePlace.{rules_table}
use Rattle.packing.specs.EntryPlace.{log_shape}
use Rattle.packing.proofs.Shapes.{rules_exact, log-exact, rules-written, log-written}
use Rattle.machine.specs.declared.Entry.{Entry}
use Rattle.machine.specs.State.{State, Locks, roots_in, account_rule, Fitting}
use Rattle.machine.specs.Remaining.{no_account}
use Rattle.daylog.specs.Inner.Log.{log_numbers}
use Rattle.state.specs.State.{size, number, marks_of, locks_shape, locks_numbers, numbers_shape, numbers_of, encode, stored, locks_at, log_at, totals_at, register_at}
use Rattle.state.specs.Inner.Laid.{Fits, with_clock, with_locks, with_log, with_accounts, with_register}
use Rattle.state.proofs.Accounts.{map-length, map-set}
use Rattle.state.proofs.Exact.{number-exact, locks-exact}
use Rattle.state.proofs.Stored.{fits-ok}
use Rattle.state.proofs.Places.{clock-in, roots-in, rules-in, HasTotal, total-in, locks-in, log-in, register-in}
use Rattle.state.specs.Inner.Tests.{put_locks, put_log, put_register}
use Rattle.register.specs.Register.{register_shape, register_numbers}
use Rattle.register.proofs.Shapes.{register-exact, register-written}
use Rattle.machine.specs.declared.Sent.{Sent}

-- the parts of a state that fits
clock-of : Part Fits encode (λ s. number) 1 (λ s. s.part.clock) with_clock
unfolding encode numbers_of
clock-of = narrow (seen clock-in numbers_of with_clock (λ s t. refl)) Fits (λ s f. fits-ok s f)

locks-of : Part Fits encode (λ s. locks_shape) locks_at (λ s. s.part.locks) with_locks
unfolding encode numbers_of
locks-of = narrow (seen locks-in numbers_of with_locks (λ s l. refl)) Fits (λ s f. fits-ok s f)

register_of : Part Fits encode (λ s. register_shape (length s.part.profile.roots)) register_at (λ s. s.part.register) with_register
unfolding encode numbers_of
register_of = narrow (seen register-in numbers_of with_register (λ s r. refl)) Fits (λ s f. fits-ok s f)

log-of : Part Fits encode (λ s. log_shape (length s.part.profile.roots)) log_at (λ s. s.log) with_log
unfolding encode numbers_of
log-of = narrow (seen log-in numbers_of with_log (λ s l. refl)) Fits (λ s f. fits-ok s f)

locks-written : (l : Locks) → locks_shape.write l ≡ locks_numbers l
unfolding locks_shape named both word flag number cell marks_of
locks-written l = refl

roots-written : (roots : List ℕ) → (table 64 number).write roots ≡ length roots ∷ (flat number.write roots ++ zeros (64 * 1 - length roots * 1))
unfolding table named both cell rows
roots-written roots = refl

module _ (s : State) (f : Fits s) (xs : List ℕ) where
  log-fits : Exact (log_shape (length s.part.profile.roots))
  unfolding roots_in
  log-fits = log-exact (length s.part.profile.roots) f.roots

  -- what stands in the parts
  pub stored-clock : take 1 (drop 1 (stored s xs)) ≡ s.part.clock ∷ []
  unfolding stored number cell
  stored-clock = part_of clock-of s f number-exact (drop size xs)

  pub stored-locks : take 4 (drop locks_at (stored s xs)) ≡ locks_numbers s.part.locks
  unfolding stored
  stored-locks = part_of locks-of s f locks-exact (drop size xs) ∙ locks-written s.part.locks

  register-fits : Exact (register_shape (length s.part.profile.roots))
  unfolding roots_in
  register-fits = register-exact (length s.part.profile.roots) f.roots

  pub stored-register : take 129 (drop register_at (stored s xs)) ≡ register_numbers s.part.register
  unfolding stored
  stored-register = part_of register_of s f register-fits (drop size xs) ∙ register-written _ s.part.register

  pub stored-log : take 1025 (drop log_at (stored s xs)) ≡ log_numbers s.log
  unfolding stored
  stored-log = part_of log-of s f log-fits (drop size xs) ∙ log-written _ s.log

  pub stored-rules : take 513 (drop 68 (stored s xs)) ≡ length s.part.profile.rules ∷ rules_table s.part.profile.rules
  unfolding stored encode numbers_of roots_in
  stored-rules =
      part_of rules-in (numbers_of s) (fits-ok s f) (rules_exact (length s.part.profile.roots) f.roots) (drop size xs)
      ∙ rules-written _ s.part.profile.rules

  pub stored-roots : get_or (stored s xs) 3 0 ≡ length s.part.profile.roots
  unfolding stored encode numbers_of
  stored-roots =
      sym (get_or-take 65 (drop 3 (stored s xs)) 0 0 (omega arith) ∙ get_or-drop 3 (stored s xs) 0 0)
      ∙ ap (λ (l : List ℕ). get_or l 0 0) (part_of roots-in (numbers_of s) (fits-ok s f) (table-exact 64 number number-exact) (drop size xs) ∙ roots-written s.part.profile.roots)

  has-total : (i : ℕ) → i < length s.part.accounts → HasTotal i (numbers_of s)
  unfolding numbers_of Fitting
  has-total i h =
      (fits-ok s f, omega (arith, map-length account_rule s.part.accounts, ap length f.fitting))

  pub stored-total : (i : ℕ) → i < length s.part.accounts → get_or (stored s xs) (totals_at + i) 0 ≡ number_of (get_or s.part.accounts i no_account).total
  unfolding stored encode numbers_of number cell no_account number_of
  stored-total i h =
      let at : totals_at + i * 1 ≡ totals_at + i = ap (λ (j : ℕ). totals_at + j) (mul-one i) in
      let here : totals_at + i ≡ totals_at + i + 0 = omega arith in
      ap (λ (j : ℕ). get_or (stored s xs) j 0) here ∙ sym (get_or-take 1 (drop (totals_at + i) (stored s xs)) 0 0 (omega arith) ∙ get_or-drop (totals_at + i) (stored s xs) 0 0)
      ∙ ap (λ (j : ℕ). get_or (take 1 (drop j (stored s xs))) 0 0) (sym at)
      ∙ ap (λ (l : List ℕ). get_or l 0 0) (part_of (total-in i) (numbers_of s) (has-total i h) number-exact (drop size xs))
      ∙ get_or-map (λ (a : Account). number_of a.total) s.part.accounts i no_account

  -- another clock, other locks, another register, another log, another total
  pub put-clock : (t : ℕ) → set (stored s xs) 1 t ≡ stored (with_clock s t) xs
  unfolding stored number
  put-clock t = put_one (λ x. true) clock-of s f (drop size xs) t

  pub put-locks : (l : Locks) → put_locks (stored s xs) (locks_numbers l) ≡ stored (with_locks s l) xs
  unfolding stored
  put-locks l =
      ap (λ (q : List ℕ). put_locks (stored s xs) q) (sym (locks-written l)) ∙ put-part locks-of s f locks-exact (drop size xs) l

  pub put-register : (register : List Sent) → put_register (stored s xs) (register_numbers register) ≡ stored (with_register s register) xs
  unfolding stored
  put-register register =
      ap (λ (q : List ℕ). put_register (stored s xs) q) (sym (register-written _ register)) ∙ put-part register_of s f register-fits (drop size xs) register

  pub put-log : (log : List Entry) → put_log (stored s xs) (log_numbers log) ≡ stored (with_log s log) xs
  unfolding stored
  put-log log =
      ap (λ (q : List ℕ). put_log (stored s xs) q) (sym (log-written _ log)) ∙ put-part log-of s f log-fits (drop size xs) log

  pub put-account : (i : ℕ) (a : Account) → i < length s.part.accounts
      → set (stored s xs) (totals_at + i) (number_of a.total) ≡ stored (with_accounts s (set s.part.accounts i a)) xs
  unfolding stored encode numbers_of number
  put-account i a h =
      ap (λ (j : ℕ). set (stored s xs) (totals_at + j) (number_of a.total)) (sym (mul-one i))
      ∙ put_one (λ x. true) (total-in i) (numbers_of s) (has-total i h) (drop size xs) (number_of a.total)
      ∙ ap (λ (t : List ℕ). numbers_shape.write (1, ((s.part.clock, (s.part.profile, (t, (s.part.locks, s.part.register)))), s.log)) ++ drop size xs)
      (sym (map-set (λ (b : Account). number_of b.total) s.part.accounts i a))
