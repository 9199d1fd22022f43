-- What stands in a memory in which a state is laid out: its accounts' rules and totals, its locks and its log. Assumes nothing.
use Prim.Native.Nat.{ℕ, ◌+◌, ◌*◌, ◌≤◌, ◌<◌}
use native.Mathlib.Omega.{arith}
use native.Mathlib.Numerals.{add-one}
use mathlib.Core.Path.{◌≡◌, sym, ap, ◌∙◌, subst}
use mathlib.Core.Bool.{true}
use mathlib.Core.List.{List, ◌∷◌, [], append-nil}
use lib.ListN.{length, get_or, take, drop, set, length-drop, get_or-map}
use lib.Seq.{get_or-take, get_or-drop, drop-drop, take_all, length-take-le}
use Rattle.rules.specs.Amounts.{number_of, amount_in, is_of}
use Rattle.rules.specs.Rules.{InRange, InDay}
use Rattle.rules.specs.Valid.{is_rule}
use Rattle.rules.specs.declared.Amount.{Amount}
use Rattle.rules.specs.declared.Rule.{Rule}
use Rattle.rules.proofs.Amounts.{in-number}
use Rattle.packing.specs.RulePlace.{rule_at, rules_table, rules_shape, rule_shape}
use Rattle.laws.proofs.Every.{every-at}
use Rattle.tables.proofs.Tables.{read_table}
use Rattle.packing.proofs.RulePlace.{rule-codec, rule-in-range, rule-wider}
use Rattle.packing.proofs.EntryPlace.{entry-wider}
use Rattle.machine.specs.State.{State, cells_of, rules_in, roots_in, account_rule, Fitting}
use Rattle.machine.specs.Entries.{is_entry}
use Rattle.machine.specs.Remaining.{no_account, rule_numbered as rule_in}
use Rattle.machine.proofs.Lists.{every-imp}
use Rattle.daylog.specs.Inner.Log.{HeldIn, entries_in, log_numbers}
use Rattle.daylog.proofs.Logs.{numbers-held, numbers-entries}
use Rattle.given.specs.Parts.{totals_size}
use Rattle.state.specs.State.{number, locks_numbers, stored, decode, log_at, register_at, totals_at}
use Rattle.state.specs.Inner.Laid.{Fits, Laid, account_in, with_clock, with_total}
use Rattle.state.specs.Inner.Tests.{rules_part, locks_part, log_part, register_part}
use Rattle.state.proofs.Accounts.{map-length}
use Rattle.shapes.specs.Shape.{cell, both, named, rows, table, coded}
use Rattle.tables.specs.Inner.Tables.{places}
use Rattle.state.proofs.Map.{decode_is}
use Rattle.state.proofs.Lent.{ones-places}
use Rattle.state.proofs.Stores.{stored-rules, stored-roots, stored-locks, stored-log, stored-total, put-clock, put-account, stored-register}
use Rattle.machine.proofs.Cells.{cells-bound, cells-valid}
use Rattle.register.specs.Register.{register_numbers, register_in, RegisterHeld}
use Rattle.register.proofs.Registers.{numbers-held as numbers-held-so, numbers-register}
use Rattle.register.proofs.SentPlace.{sent-wider}
use Rattle.machine.specs.Register.{is_sent}
use Rattle.given.specs.Parts.{rules_of}
use Rattle.packing.proofs.Shapes.{rules-read, rules-written, rules_exact}
use Rattle.shapes.proofs.Valid.{table-ok}
use Rattle.laws.specs.Folds.{every}

-- a state that fits has the accounts of its rules, and the entries of any 64 roots
module _ {s : State} (f : Fits s) where
  pub many-accounts : length s.part.accounts ≡ length (cells_of (rules_in s))
  unfolding Fitting rules_in
  many-accounts = sym (map-length account_rule s.part.accounts) ∙ ap length f.fitting

  -- the rule of an account is one that the profile's rules have for some unit
  pub account-rule : (i : ℕ) → get_or (cells_of (rules_in s)) i no_account.rule ≡ (get_or s.part.accounts i no_account).rule
  unfolding Fitting rules_in
  account-rule i = ap (λ (l : List Rule). get_or l i no_account.rule) (sym f.fitting) ∙ get_or-map account_rule s.part.accounts i no_account

  few-accounts : length s.part.accounts ≤ totals_size
  few-accounts = omega (arith, cells-bound (rules_in s) f.rules, many-accounts)

  log-held : HeldIn (log_numbers s.log)
  unfolding roots_in
  log-held = numbers-held s.log f.log (every-imp (is_entry (roots_in s)) (is_entry 64) (λ e h. entry-wider (roots_in s) 64 e f.roots h) s.log f.entries)

  wide-sent : every (is_sent 64) s.part.register ≡ true
  unfolding roots_in
  wide-sent = every-imp (is_sent (roots_in s)) (is_sent 64) (λ e h. sent-wider (roots_in s) 64 e f.roots h) s.part.register f.sent

  register-held : RegisterHeld (register_numbers s.part.register)
  register-held = numbers-held-so s.part.register f.few wide-sent

  register-orders : register_in (register_numbers s.part.register) ≡ s.part.register
  register-orders = numbers-register s.part.register wide-sent

  log-entries : entries_in (log_numbers s.log) ≡ s.log
  unfolding roots_in
  log-entries = numbers-entries s.log f.log (every-imp (is_entry (roots_in s)) (is_entry 64) (λ e h. entry-wider (roots_in s) 64 e f.roots h) s.log f.entries)

-- the rule of a place, past the table's count
rule-past : (n : ℕ) (table : List ℕ) (i : ℕ) → rule_at (drop (i * 2 + 1) (n ∷ table)) ≡ rule_at (drop (i * 2) table)
rule-past n table i = ap (λ (j : ℕ). rule_at (drop j (n ∷ table))) (add-one (i * 2))

-- in any memory in which a state is laid out
module _ {xs : List ℕ} (h : Laid xs) where
  rules-laid : rules_part xs ≡ length (decode xs).part.profile.rules ∷ rules_table (decode xs).part.profile.rules
  rules-laid = ap rules_part h.is ∙ stored-rules (decode xs) h.fits xs

  -- how many roots and accounts there are, and at most
  pub laid-roots : get_or xs 3 0 ≡ roots_in (decode xs)
  unfolding roots_in
  laid-roots = ap (λ (l : List ℕ). get_or l 3 0) h.is ∙ stored-roots (decode xs) h.fits xs

  -- the names of the roots
  pub laid-names : take (get_or xs 3 0) (drop 4 xs) ≡ (decode xs).part.profile.roots
  unfolding table named both rows cell number
  laid-names =
      sym (ap (λ (s : State). s.part.profile.roots) (decode_is xs)
      ∙ ap (λ (k : ℕ). places 1 (λ ys. get_or ys 0 0) k (drop 1 (drop 3 xs))) (get_or-drop 3 xs 0 0)
      ∙ ap (places 1 (λ ys. get_or ys 0 0) (get_or xs 3 0)) (drop-drop 1 3 xs)
      ∙ ones-places (get_or xs 3 0) (drop 4 xs) (omega (arith, length-drop 4 xs, laid-roots, h.fits.roots, h.long)))

  pub laid-name : (i : ℕ) → i < roots_in (decode xs) → get_or xs (4 + i) 0 ≡ get_or (decode xs).part.profile.roots i 0
  laid-name i l =
      sym (get_or-drop 4 xs i 0) ∙ sym (get_or-take (get_or xs 3 0) (drop 4 xs) i 0 (omega (arith, laid-roots))) ∙ ap (λ (q : List ℕ). get_or q i 0) laid-names

  pub laid-rules : get_or xs 68 0 ≡ length (rules_in (decode xs))
  unfolding rules_in
  laid-rules = sym (get_or-take 513 (drop 68 xs) 0 0 (omega arith) ∙ get_or-drop 68 xs 0 0) ∙ ap (λ (l : List ℕ). get_or l 0 0) rules-laid

  pub laid-few : length (decode xs).part.accounts ≤ totals_size
  laid-few = few-accounts h.fits

  pub laid-count : get_or (rules_part xs) 0 0 ≤ 256
  unfolding rules_in
  laid-count = omega (arith, ap (λ (l : List ℕ). get_or l 0 0) rules-laid, h.fits.rules)

  -- the rules of the table
  pub laid_table : rules_of (rules_part xs) ≡ rules_in (decode xs)
  unfolding rules_in roots_in rules_shape rule_shape coded
  laid_table =
      let n = length (decode xs).part.profile.roots in
      let long : length (rules_part xs) ≡ 513 = length-take-le 513 (drop 68 xs) (omega (arith, length-drop 68 xs, h.long)) in
      ap (places 2 rule_at (get_or (rules_part xs) 0 0)) (take_all 512 (drop 1 (rules_part xs)) (omega (arith, length-drop 1 (rules_part xs), long)))
      ∙ sym (rules-read n (rules_part xs))
      ∙ ap (rules_shape n).read (rules-laid ∙ sym (rules-written n (decode xs).part.profile.rules) ∙ sym (append-nil _))
      ∙ (rules_exact n h.fits.roots).back (decode xs).part.profile.rules [] (table-ok 256 _ _ h.fits.rules h.fits.valid)

  -- rule i
  pub laid-rule : {i : ℕ} → i < length (rules_in (decode xs)) → rule_at (drop (i * 2 + 1) (rules_part xs)) ≡ rule_in (rules_in (decode xs)) i
  unfolding roots_in rules_in rule_in
  laid-rule {i} l =
      ap (λ (q : List ℕ). rule_at (drop (i * 2 + 1) q)) rules-laid ∙ rule-past _ _ i
      ∙ read_table (rule-codec (roots_in (decode xs)) h.fits.roots) 256 (rules_in (decode xs)) i no_account.rule h.fits.valid l

  -- the locks, and the log
  pub laid-locks : locks_part xs ≡ locks_numbers (decode xs).part.locks
  laid-locks = ap locks_part h.is ∙ stored-locks (decode xs) h.fits xs

  -- the register of orders sent away
  laid-register : register_part xs ≡ register_numbers (decode xs).part.register
  laid-register = ap register_part h.is ∙ stored-register (decode xs) h.fits xs

  pub laid-orders : RegisterHeld (register_part xs)
  laid-orders = subst RegisterHeld (sym laid-register) (register-held h.fits)

  pub laid-sent : register_in (register_part xs) ≡ (decode xs).part.register
  laid-sent = ap register_in laid-register ∙ register-orders h.fits

  pub laid-open : get_or xs register_at 0 ≡ length (decode xs).part.register
  laid-open = sym (get_or-take 129 (drop register_at xs) 0 0 (omega arith) ∙ get_or-drop register_at xs 0 0) ∙ ap (λ (l : List ℕ). get_or l 0 0) laid-register

  pub laid-log : log_part xs ≡ log_numbers (decode xs).log
  laid-log = ap log_part h.is ∙ stored-log (decode xs) h.fits xs

  pub laid-many : get_or xs log_at 0 ≡ length (decode xs).log
  laid-many = sym (get_or-take 1025 (drop log_at xs) 0 0 (omega arith) ∙ get_or-drop log_at xs 0 0) ∙ ap (λ (l : List ℕ). get_or l 0 0) laid-log

  pub laid-held : HeldIn (log_part xs)
  laid-held = subst HeldIn (sym laid-log) (log-held h.fits)

  pub laid-entries : entries_in (log_part xs) ≡ (decode xs).log
  laid-entries = ap entries_in laid-log ∙ log-entries h.fits

  -- the clock, and another one
  pub laid-clock-is : get_or xs 1 0 ≡ (decode xs).part.clock
  laid-clock-is = sym (ap (λ (s : State). s.part.clock) (decode_is xs))

  pub laid-clock : (t : ℕ) → set xs 1 t ≡ stored (with_clock (decode xs) t) xs
  laid-clock t = ap (λ (l : List ℕ). set l 1 t) h.is ∙ put-clock (decode xs) h.fits xs t

  -- account i: that its rule is valid, its total in the measure of its rule, and another total
  module _ {i : ℕ} (l : i < length (decode xs).part.accounts) where
    pub laid-valid : is_rule 64 (account_in xs i).rule ≡ true
    laid-valid =
        let roots = roots_in (decode xs) in
        let cells = cells_of (rules_in (decode xs)) in
        rule-wider roots 64 (account_in xs i).rule h.fits.roots
        (ap (is_rule roots) (sym (account-rule h.fits i))
        ∙ every-at (is_rule roots) cells i no_account.rule (cells-valid roots (rules_in (decode xs)) h.fits.valid) (omega (arith, many-accounts h.fits, l)))

    pub laid-in-range : InRange (account_in xs i).rule.limit × InDay (account_in xs i).rule.kind
    laid-in-range = rule-in-range 64 (account_in xs i).rule laid-valid

    pub laid-measured : is_of (account_in xs i).rule.limit (account_in xs i).total ≡ true
    laid-measured = every-at (λ a. is_of a.rule.limit a.total) (decode xs).part.accounts i no_account h.fits.measured l

    pub laid-total : amount_in (account_in xs i).rule.limit (get_or xs (totals_at + i) 0) ≡ (account_in xs i).total
    laid-total =
        ap (amount_in (account_in xs i).rule.limit) (ap (λ (q : List ℕ). get_or q (totals_at + i) 0) h.is ∙ stored-total (decode xs) h.fits xs i l)
        ∙ in-number (account_in xs i).rule.limit (account_in xs i).total laid-measured

    pub laid-put : (total : Amount) → set xs (totals_at + i) (number_of total) ≡ stored (with_total (decode xs) i total) xs
    laid-put total =
        ap (λ (q : List ℕ). set q (totals_at + i) (number_of total)) h.is
        ∙ put-account (decode xs) h.fits xs i (record { rule = (account_in xs i).rule; total = total }) l
