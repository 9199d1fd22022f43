-- The tests of the parts, as they are lent, are those of the parts where they stand in memory. Assumes nothing.
use Prim.Native.Nat.{ℕ, ◌+◌, ◌^◌, ◌≤◌}
use native.Mathlib.Omega.{arith}
use mathlib.Core.Path.{◌≡◌, sym, ap, ◌∙◌}
use mathlib.Core.Bool.{true, ◌&&◌}
use mathlib.Core.List.{List, []}
use lib.ListN.{length, get_or, take, drop, length-drop}
use lib.Seq.{get_or-drop, length-take-le, take_all}
use lib.Dec.{leb, ltb}
use Rattle.laws.specs.Folds.{every}
use Rattle.shapes.specs.Shape.{table}
use Rattle.shapes.proofs.Exact.{table-exact, table-many, read-part, first-decide}
use Rattle.rules.specs.declared.Rule.{Rule}
use Rattle.tables.specs.Inner.Tables.{places}
use Rattle.packing.specs.RulePlace.{rule_at, rules_shape}
use Rattle.packing.specs.EntryPlace.{log_shape}
use Rattle.packing.proofs.Shapes.{rules_exact, rules-read, log-exact}
use Rattle.machine.specs.State.{cells_of, Locks}
use Rattle.machine.proofs.Totals.{is_paid}
use Rattle.admission.specs.Admission.{are_in_order}
use Rattle.given.specs.Given.{are_roots}
use Rattle.given.specs.Parts.{roots_hold, rules_of, rules_hold, totals_hold, totals_size}
use Rattle.daylog.specs.Inner.Log.{log_holds}
use Rattle.daylog.proofs.Logs.{are_logged}
use Rattle.state.specs.State.{size, number, locks_shape, totals_shape, accounts_of, locks_at, log_at, totals_at, register_at}
use Rattle.state.specs.Inner.Tests.{roots_part, rules_part, totals_part, locks_part, log_part, locks_hold, register_part}
use Rattle.state.proofs.Exact.{number-exact, totals-exact, locks-exact}
use Rattle.state.proofs.Lent.{roots-lent, rules-lent, totals-lent, locks-lent, log-lent, register-lent}
use Rattle.state.proofs.Map.{roots_told}
use Rattle.register.specs.Register.{register_shape, register_holds}
use Rattle.register.proofs.Shapes.{register-exact}
use Rattle.machine.specs.Register.{are_different}

module _ (xs : List ℕ) (long : size ≤ length xs) where
  room : (at n : ℕ) → at + n ≤ size → n ≤ length (drop at xs)
  room at n h = omega (arith, length-drop at xs)

  pub part-long : (at n : ℕ) → at + n ≤ size → length (take n (drop at xs)) ≡ n
  part-long at n h = length-take-le n (drop at xs) (room at n h)

  pub roots-held : roots_hold (roots_part xs) ≡ ((table 64 number).test (drop 3 xs) && are_roots (roots_told xs))
  roots-held =
      roots-lent (roots_part xs) (part-long 3 65 (omega arith))
      ∙ first-decide (table 64 number) (table-exact 64 number number-exact) are_roots (drop 3 xs) (room 3 65 (omega arith))

  pub totals-held : (rules : List Rule) → length rules ≤ 256
      → totals_hold (cells_of rules) (totals_part xs)
      ≡ ((totals_shape rules).test (drop totals_at xs) && every is_paid (accounts_of (cells_of rules) ((totals_shape rules).read (drop totals_at xs))))
  totals-held rules few =
      totals-lent rules (totals_part xs) few (part-long totals_at totals_size (omega arith))
      ∙ first-decide (totals_shape rules) (totals-exact rules) (λ totals. every is_paid (accounts_of (cells_of rules) totals)) (drop totals_at xs) (room totals_at totals_size (omega arith))

  pub locks-held : (n : ℕ)
      → locks_hold n (locks_part xs)
      ≡ (locks_shape.test (drop locks_at xs) && (ltb (locks_shape.read (drop locks_at xs)).tripped (2 ^ n) && ltb (locks_shape.read (drop locks_at xs)).by_user (2 ^ n)))
  locks-held n =
      locks-lent n (locks_part xs)
      ∙ first-decide locks_shape locks-exact (λ (l : Locks). ltb l.tripped (2 ^ n) && ltb l.by_user (2 ^ n)) (drop locks_at xs) (room locks_at 4 (omega arith))

  -- the parts whose tests know how many roots there are
  module _ (n : ℕ) (few : n ≤ 64) where
    pub rules-held : rules_hold n (rules_part xs)
        ≡ ((rules_shape n).test (drop 68 xs) && (leb 1 (length ((rules_shape n).read (drop 68 xs))) && are_in_order n [] 0 ((rules_shape n).read (drop 68 xs))))
    unfolding rules_shape
    rules-held =
        rules-lent n (rules_part xs) (part-long 68 513 (omega arith))
        ∙ ap (λ (k : ℕ). (rules_shape n).test (rules_part xs) && (leb 1 k && are_in_order n [] 0 ((rules_shape n).read (rules_part xs)))) (sym (table-many 256 _ (rules_part xs)))
        ∙ first-decide (rules_shape n) (rules_exact n few) (λ (rules : List Rule). leb 1 (length rules) && are_in_order n [] 0 rules) (drop 68 xs) (room 68 513 (omega arith))

    -- the rules that the tests of the totals and of the rate read
    pub rules-are : (rules_shape n).test (drop 68 xs) ≡ true → rules_of (rules_part xs) ≡ (rules_shape n).read (drop 68 xs)
    rules-are t =
        ap (places 2 rule_at (get_or (rules_part xs) 0 0)) (take_all 512 (drop 1 (rules_part xs)) (omega (arith, length-drop 1 (rules_part xs), part-long 68 513 (omega arith))))
        ∙ sym (rules-read n (rules_part xs))
        ∙ read-part (rules_shape n) (rules_exact n few) (drop 68 xs) (room 68 513 (omega arith)) t

    pub log-held : (clock : ℕ) → log_holds n clock (log_part xs) ≡ ((log_shape n).test (drop log_at xs) && are_logged clock ((log_shape n).read (drop log_at xs)))
    log-held clock =
        log-lent n clock (log_part xs) (part-long log_at 1025 (omega arith))
        ∙ first-decide (log_shape n) (log-exact n few) (are_logged clock) (drop log_at xs) (room log_at 1025 (omega arith))

    pub register-held : register_holds n (register_part xs) ≡ ((register_shape n).test (drop register_at xs) && are_different ((register_shape n).read (drop register_at xs)))
    register-held =
        register-lent n (register_part xs)
        ∙ first-decide (register_shape n) (register-exact n few) are_different (drop register_at xs) (room register_at 129 (omega arith))

-- how many entries the log says that it has
pub log-many : (n : ℕ) (xs : List ℕ) → length ((log_shape n).read (drop log_at xs)) ≡ get_or xs log_at 0
unfolding log_shape
log-many n xs = table-many 512 _ (drop log_at xs) ∙ get_or-drop log_at xs 0 0
