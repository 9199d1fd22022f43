-- `state::is_sound` meets its contract: the tests are made in turn, and the use last. Assumes nothing.
use Prim.Native.Nat.{ℕ}
use mathlib.Core.Path.{◌≡◌, sym, ap, ◌∙◌}
use mathlib.Core.Bool.{true}
use mathlib.Core.List.{List}
use native.Mathlib.Omega.{arith}
use lib.ListN.{get_or}
use lib.Dec.{ltb}
use Rattle.machine.specs.Entries.{are_ordered}
use Rattle.machine.specs.Offers.{longest}
use Rattle.machine.specs.Refusals.{used}
use Rattle.given.specs.Parts.{rules_of, totals_size}
use Rattle.given.proofs.Pass.{told-hold, told-fail}
use Rattle.state.specs.State.{totals_at, decode}
use Rattle.state.specs.Inner.Laid.{Laid}
use Rattle.state.specs.Inner.Tests.{rules_part, front_holds, rules_paid, parts_hold, use_holds}
use Rattle.state.proofs.Parts.{part-long}
use Rattle.state.proofs.Laid.{laid-clock-is}
use Rattle.state.proofs.Uses.{most-below}
use Rattle.state.proofs.Said.{parted-laid, parted-ordered}
use Rattle.state.proofs.Sound.{sound-short, sound-front, roots-fit, sound-rules, rates-known, sound-parts, sound-parted, sound-rest}
use Rattle.state.proofs.is_sound.Goals.{Else-not-are_parts, Else-not-is_front, In-Some}
use Rattle.state.proofs.is_sound.Goals as goal

-- the clock is read from its place
clocked : (xs : List ℕ) → Laid xs → are_ordered 0 (decode xs).part.clock (decode xs).log ≡ true → are_ordered 0 (get_or xs 1 0) (decode xs).log ≡ true
clocked xs h e = ap (λ (t : ℕ). are_ordered 0 t (decode xs).log) (laid-clock-is h) ∙ e

used-clocked : (xs : List ℕ) → Laid xs → ltb (used (decode xs) (get_or xs 1 0)) 513 ≡ use_holds xs
unfolding use_holds
used-clocked xs h = ap (λ (t : ℕ). ltb (used (decode xs) t) 513) (laid-clock-is h) ∙ most-below (used (decode xs) (decode xs).part.clock)

-- the front passed
front : (c : Else-not-is_front) → front_holds c.args.m.now ≡ true
front c = sym c.is_front.ensures ∙ c.if-not-is_front.false

-- the rules and totals passed
found : (c : In-Some) → (rules_paid c.args.m.now ≡ true) × (c.in-Some.longest ≡ longest (rules_of (rules_part c.args.m.now)))
found c = told-hold _ _ (sym c.in-Some.is ∙ c.test_rules.ensures)

-- the other parts did
parts : (c : Else-not-are_parts) → parts_hold c.args.m.now ≡ true
parts c = sym c.are_parts.ensures ∙ c.if-not-are_parts.false

pub returns-then-m-lt-SIZE : goal.returns-then-m-lt-SIZE
returns-then-m-lt-SIZE c = sound-short _ c.if-m-lt-SIZE.true

pub returns-then-not-is_front : goal.returns-then-not-is_front
returns-then-not-is_front c = sound-front _ c.if-m-lt-SIZE.false (sym c.is_front.ensures ∙ c.if-not-is_front.true)

pub test_rules-requires : goal.test_rules-requires
test_rules-requires c =
    let m = c.args.m.now in
    let long = c.if-m-lt-SIZE.false in
    (part-long m long 68 513 (omega arith), part-long m long totals_at totals_size (omega arith), roots-fit m long (front (goal.at.test_rules-requires c).Else-not-is_front))

pub returns-in_default : goal.returns-in_default
returns-in_default c =
    sound-rules c.args.m.now c.if-m-lt-SIZE.false (front (goal.at.returns-in_default c).Else-not-is_front) (told-fail _ _ (sym c.in_default.is ∙ c.test_rules.ensures))

pub are_parts-requires : goal.are_parts-requires
are_parts-requires c =
    let long = c.if-m-lt-SIZE.false in
    (long, rates-known c.args.m.now long (front (goal.at.are_parts-requires c).Else-not-is_front) (found c).0 (found c).1)

pub returns-then-not-are_parts : goal.returns-then-not-are_parts
returns-then-not-are_parts c =
    let at = goal.at.returns-then-not-are_parts c in
    sound-parts c.args.m.now c.if-m-lt-SIZE.false (front at.Else-not-is_front) (found at.In-Some).0 (sym c.are_parts.ensures ∙ c.if-not-are_parts.true)

pub uses_less-requires : goal.uses_less-requires
uses_less-requires c =
    let at = goal.at.uses_less-requires c in
    let m = c.args.m.now in
    let long = c.if-m-lt-SIZE.false in
    let parted = sound-parted m long (front at.Else-not-is_front) (found at.In-Some).0 (parts at.Else-not-are_parts) in
    let laid = parted-laid m long parted in
    (laid, clocked m laid (parted-ordered m long parted))

pub returns : goal.returns
returns c =
    let at = goal.at.returns c in
    let m = c.args.m.now in
    let long = c.if-m-lt-SIZE.false in
    let fronted = front at.Else-not-is_front in
    let paid = (found at.In-Some).0 in
    let parted = parts at.Else-not-are_parts in
    c.uses_less.ensures ∙ used-clocked m (parted-laid m long (sound-parted m long fronted paid parted)) ∙ sound-rest m long fronted paid parted
