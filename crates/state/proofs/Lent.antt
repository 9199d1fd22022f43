-- The tests of the parts, as the code runs them, are those of the map and of the state. Assumes nothing.
use Prim.Native.Nat.{ℕ, zero, suc, ◌*◌, ◌^◌, ◌≤◌, zero-le}
use native.Mathlib.Nat.{not-suc-le-zero, le_of_suc-le-suc, mul-one}
use native.Mathlib.Omega.{arith}
use mathlib.Core.Path.{◌≡◌, refl, sym, ap, ap₂, ◌∙◌}
use mathlib.Core.Bool.{Bool, true, false, ◌&&◌, and-true}
use mathlib.Core.List.{List, [], ◌∷◌}
use lib.ListN.{length, get_or, take, drop, length-drop}
use lib.Seq.{take_all, get_or-drop, drop-drop}
use lib.Dec.{leb, ltb}
use borrow.Author.Tests.{le-leb, leb-true}
use Rattle.laws.specs.Folds.{every}
use Rattle.shapes.specs.Shape.{cell, both, named, rows, table, word, flag}
use Rattle.rules.specs.Amounts.{amount_in}
use Rattle.rules.specs.Valid.{is_total, is_total_number}
use Rattle.rules.specs.declared.Rule.{Rule}
use Rattle.rules.proofs.Amounts.{number_in, of-in}
use Rattle.machine.specs.State.{cells_of}
use Rattle.machine.proofs.Totals.{is_paid}
use Rattle.tables.specs.Inner.Tables.{all_zero, places, places_pass}
use Rattle.packing.specs.RulePlace.{rule_at, is_rule_place, rules_shape}
use Rattle.packing.specs.EntryPlace.{entry_at, is_entry_place, log_shape}
use Rattle.packing.proofs.Shapes.{rules-read, rules-tested, log-read, log-tested}
use Rattle.admission.specs.Admission.{are_in_order}
use Rattle.given.specs.Given.{are_roots}
use Rattle.given.specs.Parts.{names_hold, places_hold, roots_hold, rules_hold, totals_hold, totals_size}
use Rattle.daylog.specs.Inner.Log.{log_holds}
use Rattle.daylog.proofs.Logs.{are_logged, holds_parts}
use Rattle.state.specs.State.{number, locks_of, locks_shape, totals_shape, accounts_of}
use Rattle.state.specs.Inner.Tests.{locks_hold}
use Rattle.machine.proofs.Cells.{cells-bound}
use Rattle.register.specs.Register.{register_shape, register_holds}
use Rattle.register.proofs.Shapes.{register-read}
use Rattle.machine.specs.Register.{are_different}
use Rattle.machine.specs.declared.Sent.{Sent}

-- the same tests in another order
shuffle : (b p o z : Bool) → (b && ((p && o) && z)) ≡ ((b && ((b && p) && z)) && o)
shuffle true true true true = refl
shuffle true true true false = refl
shuffle true true false true = refl
shuffle true true false false = refl
shuffle true false o z = refl
shuffle false p o z = refl

-- the log's table, lent alone
pub log-lent : (n clock : ℕ) (zs : List ℕ) → length zs ≡ 1025 → log_holds n clock zs ≡ ((log_shape n).test zs && are_logged clock ((log_shape n).read zs))
unfolding log_holds
log-lent n clock zs l =
    let k = get_or zs 0 0 in
    let all : take 1024 (drop 1 zs) ≡ drop 1 zs = take_all 1024 (drop 1 zs) (omega (arith, length-drop 1 zs)) in
    ap (λ (b : Bool). leb k 512 && b) (holds_parts n clock k (take 1024 (drop 1 zs)))
    ∙ ap (λ (ws : List ℕ). leb k 512 && (places_pass 2 (is_entry_place n) k ws && are_logged clock (places 2 entry_at k ws) && all_zero (drop (k * 2) (take 1024 (drop 1 zs))))) all
    ∙ shuffle (leb k 512) (places_pass 2 (is_entry_place n) k (drop 1 zs)) (are_logged clock (places 2 entry_at k (drop 1 zs))) (all_zero (drop (k * 2) (take 1024 (drop 1 zs))))
    ∙ ap₂ (λ (a b : Bool). a && b) (sym (log-tested n zs)) (sym (ap (are_logged clock) (log-read n zs)))

off : (x : Bool) → false ≡ (x && false)
off true = refl
off false = refl

shuffle-least : (a b p o z : Bool) → ((a && b) && ((p && o) && z)) ≡ ((b && ((b && p) && z)) && (a && o))
shuffle-least true b p o z = shuffle b p o z
shuffle-least false b p o z = off (b && ((b && p) && z))

-- the rules' table, lent alone
pub rules-lent : (n : ℕ) (zs : List ℕ) → length zs ≡ 513
    → rules_hold n zs ≡ ((rules_shape n).test zs && (leb 1 (get_or zs 0 0) && are_in_order n [] 0 ((rules_shape n).read zs)))
unfolding rules_hold places_hold
rules-lent n zs l =
    let k = get_or zs 0 0 in
    let all : take 512 (drop 1 zs) ≡ drop 1 zs = take_all 512 (drop 1 zs) (omega (arith, length-drop 1 zs)) in
    ap (λ (ws : List ℕ). (leb 1 k && leb k 256) && (places_pass 2 (is_rule_place n) k ws && are_in_order n [] 0 (places 2 rule_at k ws) && all_zero (drop (k * 2) (take 512 (drop 1 zs))))) all
    ∙ shuffle-least (leb 1 k) (leb k 256) (places_pass 2 (is_rule_place n) k (drop 1 zs)) (are_in_order n [] 0 (places 2 rule_at k (drop 1 zs))) (all_zero (drop (k * 2) (take 512 (drop 1 zs))))
    ∙ ap₂ (λ (a b : Bool). a && (leb 1 k && b)) (sym (rules-tested n zs)) (sym (ap (are_in_order n [] 0) (rules-read n zs)))

-- places of one number that may be any
pass-any : (k : ℕ) (ws : List ℕ) → places_pass 1 (λ xs. true) k ws ≡ true
unfolding places_pass
pass-any zero ws = refl
pass-any (suc k) ws = pass-any k (drop 1 ws)

pub ones-places : (k : ℕ) (ws : List ℕ) → k ≤ length ws → places 1 (λ xs. get_or xs 0 0) k ws ≡ take k ws
unfolding places
ones-places zero ws h = refl
ones-places (suc k) [] h = absurd (not-suc-le-zero h)
ones-places (suc k) (x ∷ ws) h = ap (λ (l : List ℕ). x ∷ l) (ones-places k ws (le_of_suc-le-suc h))

-- the roots' table, lent alone
pub roots-lent : (zs : List ℕ) → length zs ≡ 65 → roots_hold zs ≡ ((table 64 number).test zs && are_roots ((table 64 number).read zs))
unfolding roots_hold names_hold table named both rows number cell
roots-lent zs l = go (leb k 64) refl
  where
    k : ℕ
    k = get_or zs 0 0

    ws : List ℕ
    ws = take 64 (drop 1 zs)

    all : ws ≡ drop 1 zs
    all = take_all 64 (drop 1 zs) (omega (arith, length-drop 1 zs))

    swap : (a z : Bool) → (a && z) ≡ (z && a)
    swap true true = refl
    swap true false = refl
    swap false true = refl
    swap false false = refl

    go : (b : Bool) → leb k 64 ≡ b
        → (b && (are_roots (take k ws) && all_zero (drop k ws)))
        ≡ ((b && (b && places_pass 1 (λ xs. true) k (drop 1 zs) && all_zero (drop (k * 1) ws))) && are_roots (places 1 (λ xs. get_or xs 0 0) k (drop 1 zs)))
    go false e = refl
    go true e =
        let few : k ≤ 64 = leb-true k 64 e in
        let read : places 1 (λ xs. get_or xs 0 0) k (drop 1 zs) ≡ take k ws =
        ones-places k (drop 1 zs) (omega (arith, length-drop 1 zs)) ∙ ap (take k) (sym all) in
        swap (are_roots (take k ws)) (all_zero (drop k ws))
        ∙ (λ i. (sym (pass-any k (drop 1 zs)) i && all_zero (drop (sym (mul-one k) i) ws)) && are_roots (sym read i))

-- the totals, lent alone
total-number : (rule : Rule) (x : ℕ) → is_total rule (amount_in rule.limit x) ≡ is_total_number rule x
unfolding is_total
total-number rule x = rw (of-in rule.limit x, number_in rule.limit x)

later : (t a e : Bool) → (t && (a && e)) ≡ (a && (t && e))
later true a e = refl
later false true e = refl
later false false e = refl

totals-split : (rules : List Rule) (zs : List ℕ) → length rules ≤ length zs
    → totals_hold rules zs ≡ (all_zero (drop (length rules) zs) && every is_paid (accounts_of rules (take (length rules) zs)))
unfolding totals_hold every accounts_of
totals-split [] zs h = sym (and-true (all_zero zs))
totals-split (rule ∷ rules) [] h = absurd (not-suc-le-zero h)
totals-split (rule ∷ rules) (x ∷ zs) h =
    let others = every is_paid (accounts_of rules (take (length rules) zs)) in
    ap₂ (λ (a b : Bool). a && b) (sym (total-number rule x)) (totals-split rules zs (le_of_suc-le-suc h))
    ∙ later (is_total rule (amount_in rule.limit x)) (all_zero (drop (length rules) zs)) others

pub totals-lent : (rules : List Rule) (zs : List ℕ) → length rules ≤ 256 → length zs ≡ totals_size
    → totals_hold (cells_of rules) zs ≡ ((totals_shape rules).test zs && every is_paid (accounts_of (cells_of rules) ((totals_shape rules).read zs)))
unfolding totals_shape rows number cell
totals-lent rules zs few l =
    let cells = cells_of rules in
    let k = length cells in
    let most : k ≤ totals_size = cells-bound rules few in
    let all : take totals_size zs ≡ zs = take_all totals_size zs (omega arith) in
    totals-split cells zs (omega (arith, most))
    ∙ (λ i. (sym (le-leb k totals_size most) i && sym (pass-any k zs) i && all_zero (drop (sym (mul-one k) i) (sym all i))) && every is_paid (accounts_of cells (sym (ones-places k zs (omega (arith, most))) i)))

-- the locks, lent alone
pub locks-lent : (n : ℕ) (zs : List ℕ)
    → locks_hold n zs ≡ (locks_shape.test zs && (ltb (locks_shape.read zs).tripped (2 ^ n) && ltb (locks_shape.read zs).by_user (2 ^ n)))
unfolding locks_hold locks_shape locks_of named both word flag number cell
locks-lent n zs =
    rw (le-leb 0 (get_or zs 0 0) (zero-le), le-leb 0 (get_or zs 1 0) (zero-le))
    (regroup (leb (get_or zs 0 0) 1) (leb (get_or zs 1 0) 1) (ltb (get_or zs 2 0) (2 ^ n)) (ltb (get_or zs 3 0) (2 ^ n))
    ∙ (λ i. (leb (get_or zs 0 0) 1 && (leb (sym (get_or-drop 1 zs 0 0) i) 1 && true)) && (ltb (third i) (2 ^ n) && ltb (fourth i) (2 ^ n))))
  where
    regroup : (a b c d : Bool) → (((a && b) && c) && d) ≡ ((a && (b && true)) && (c && d))
    regroup true true c d = refl
    regroup true false c d = refl
    regroup false b c d = refl

    third : get_or zs 2 0 ≡ get_or (drop 1 (drop 1 zs)) 0 0
    third = sym (get_or-drop 2 zs 0 0) ∙ ap (λ (q : List ℕ). get_or q 0 0) (sym (drop-drop 1 1 zs))

    fourth : get_or zs 3 0 ≡ get_or (drop 1 (drop 1 (drop 1 zs))) 0 0
    fourth = sym (get_or-drop 3 zs 0 0) ∙ ap (λ (q : List ℕ). get_or q 0 0) (sym (drop-drop 1 2 zs) ∙ ap (drop 1) (sym (drop-drop 1 1 zs)))

-- the register's table, lent alone
pub register-lent : (n : ℕ) (zs : List ℕ) → register_holds n zs ≡ ((register_shape n).test zs && are_different ((register_shape n).read zs))
unfolding register_holds
register-lent n zs = ap (λ (register : List Sent). (register_shape n).test zs && are_different register) (sym (register-read n zs))
