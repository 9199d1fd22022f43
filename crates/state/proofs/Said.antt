-- What a sound memory says, part by part, and that a memory which says it is sound. Assumes nothing.
use Prim.Native.Nat.{ℕ, ◌^◌, ◌≤◌, zero-le}
use native.Mathlib.Omega.{arith}
use mathlib.Core.Path.{◌≡◌, sym, ap, ◌∙◌}
use mathlib.Core.Bool.{true, ◌&&◌, ◌||◌}
use mathlib.Core.List.{List, []}
use lib.ListN.{length, get_or, drop, length-drop}
use lib.Dec.{eqb, ltb, leb}
use borrow.Author.Tests.{le-leb}
use Rattle.laws.proofs.Tests.{and_i, tests}
use Rattle.laws.specs.Folds.{every}
use Rattle.measures.specs.Ranges.{is_in, times}
use Rattle.shapes.specs.Shape.{coded, table}
use Rattle.shapes.proofs.Exact.{table-exact}
use Rattle.shapes.proofs.Valid.{table-few, table-all}
use Rattle.rules.specs.Valid.{is_rule, has_rate}
use Rattle.packing.specs.RulePlace.{rule_shape, rules_shape}
use Rattle.packing.specs.EntryPlace.{log_shape}
use Rattle.packing.proofs.Shapes.{rules_exact}
use Rattle.machine.specs.State.{State, cells_of, rules_in, roots_in}
use Rattle.machine.specs.Entries.{are_ordered, is_flagged}
use Rattle.machine.proofs.Totals.{is_paid}
use Rattle.given.specs.Names.{is_name_number}
use Rattle.admission.specs.Admission.{are_in_order}
use Rattle.given.specs.Given.{are_roots, is_made}
use Rattle.state.specs.State.{size, number, locks_shape, totals_shape, accounts_of, decode, locks_at, log_at, totals_at, register_at, numbers_shape}
use Rattle.state.specs.Sound.{is_sound_state, is_sound}
use Rattle.state.proofs.Exact.{number-exact}
use Rattle.state.proofs.Exactly.{taken-apart, put-together}
use Rattle.state.proofs.Map.{roots_told, rules_told, map-test, decode_is}
use Rattle.register.specs.Register.{register_shape}
use Rattle.machine.specs.Register.{are_different}
use Rattle.machine.specs.Refusals.{used}
use Rattle.machine.specs.Judge.{log_places}
use Rattle.state.specs.Inner.Tests.{use_holds}
use Rattle.state.specs.Inner.Laid.{Laid}
use Rattle.state.proofs.Stored.{test-laid}

-- what a memory says, part by part, whose parts are as they should be
pub record Parted (xs : List ℕ) : Type 0 where
  pub mark : eqb (get_or xs 0 0) 1 ≡ true
  pub clock : is_in times (get_or xs 1 0) ≡ true
  pub firm : is_name_number 1 4 (get_or xs 2 0) ≡ true
  pub roots : (table 64 number).test (drop 3 xs) ≡ true
  pub names : are_roots (roots_told xs) ≡ true
  pub rules : (rules_shape (length (roots_told xs))).test (drop 68 xs) ≡ true
  pub some : 1 ≤ length (rules_told xs)
  pub order : are_in_order (length (roots_told xs)) [] 0 (rules_told xs) ≡ true
  pub totals : (totals_shape (rules_told xs)).test (drop totals_at xs) ≡ true
  pub paid : every is_paid (accounts_of (cells_of (rules_told xs)) ((totals_shape (rules_told xs)).read (drop totals_at xs))) ≡ true
  pub locks : locks_shape.test (drop locks_at xs) ≡ true
  pub tripped : ltb (locks_shape.read (drop locks_at xs)).tripped (2 ^ length (roots_told xs)) ≡ true
  pub by_user : ltb (locks_shape.read (drop locks_at xs)).by_user (2 ^ length (roots_told xs)) ≡ true
  pub rate : (has_rate (rules_told xs) || eqb (length ((log_shape (length (roots_told xs))).read (drop log_at xs))) 0) ≡ true
  pub log : (log_shape (length (roots_told xs))).test (drop log_at xs) ≡ true
  pub ordered : are_ordered 0 (get_or xs 1 0) ((log_shape (length (roots_told xs))).read (drop log_at xs)) ≡ true
  pub flagged : every is_flagged ((log_shape (length (roots_told xs))).read (drop log_at xs)) ≡ true
  pub register : (register_shape (length (roots_told xs))).test (drop register_at xs) ≡ true
  pub different : are_different ((register_shape (length (roots_told xs))).read (drop register_at xs)) ≡ true

-- a sound memory: so, and its use within the log's places
pub record Said (xs : List ℕ) : Type 0 where
  pub parted : Parted xs
  pub in_use : use_holds xs ≡ true

-- the state that is told
told : List ℕ → State
told xs = record {
  part = record {
    clock = get_or xs 1 0;
    profile = record { firm = get_or xs 2 0; roots = roots_told xs; rules = rules_told xs };
    accounts = accounts_of (cells_of (rules_told xs)) ((totals_shape (rules_told xs)).read (drop totals_at xs));
    locks = locks_shape.read (drop locks_at xs);
    register = (register_shape (length (roots_told xs))).read (drop register_at xs);
  };
  log = (log_shape (length (roots_told xs))).read (drop log_at xs);
}

is-told : (xs : List ℕ) → decode xs ≡ told xs
unfolding told
is-told xs = decode_is xs

both-parted : (xs : List ℕ)
    → (eqb (get_or xs 0 0) 1 && (((table 64 number).test (drop 3 xs) && (rules_shape (length (roots_told xs))).test (drop 68 xs))
    && ((totals_shape (rules_told xs)).test (drop totals_at xs) && (locks_shape.test (drop locks_at xs) && (register_shape (length (roots_told xs))).test (drop register_at xs))) && (log_shape (length (roots_told xs))).test (drop log_at xs))) ≡ true
    → is_sound_state (told xs) ≡ true → Parted xs
unfolding is_sound_state is_made told roots_in rules_in
both-parted xs m s = record {
  mark = search tests depth 40;
  clock = search tests depth 40;
  firm = search tests depth 40;
  roots = search tests depth 40;
  names = search tests depth 40;
  rules = search tests depth 40;
  some = search tests depth 40;
  order = search tests depth 40;
  totals = search tests depth 40;
  paid = search tests depth 40;
  locks = search tests depth 40;
  tripped = search tests depth 40;
  by_user = search tests depth 40;
  rate = search tests depth 40;
  log = search tests depth 40;
  ordered = search tests depth 40;
  flagged = search tests depth 40;
  register = search tests depth 40;
  different = search tests depth 40;
}

pub sound-said : (xs : List ℕ) → is_sound xs ≡ true → Said xs
unfolding is_sound_state use_holds
sound-said xs h =
    let t = taken-apart xs h in
    let state : is_sound_state (decode xs) ≡ true = t.state in
    record {
      parted = both-parted xs (sym (map-test xs) ∙ t.map) (ap is_sound_state (sym (is-told xs)) ∙ t.state);
      in_use = search tests depth 40;
    }

module _ (xs : List ℕ) (long : size ≤ length xs) where
  pub few-told : (table 64 number).test (drop 3 xs) ≡ true → length (roots_told xs) ≤ 64
  few-told h = table-few 64 number (roots_told xs) ((table-exact 64 number number-exact).valid (drop 3 xs) (omega (arith, length-drop 3 xs)) h)

  -- the rules of a memory whose tables of roots and rules are as the map says
  module _ (roots : (table 64 number).test (drop 3 xs) ≡ true) (rules : (rules_shape (length (roots_told xs))).test (drop 68 xs) ≡ true) where
    rules-ok : (rules_shape (length (roots_told xs))).ok (rules_told xs) ≡ true
    rules-ok = (rules_exact (length (roots_told xs)) (few-told roots)).valid (drop 68 xs) (omega (arith, length-drop 68 xs)) rules

    pub rules-few : length (rules_told xs) ≤ 256
    unfolding rules_shape
    rules-few = table-few 256 _ _ rules-ok

    rules-valid : every (is_rule (length (roots_told xs))) (rules_told xs) ≡ true
    unfolding rules_shape rule_shape coded
    rules-valid = table-all 256 _ _ rules-ok

  module _ (s : Parted xs) where
    -- the map's test holds, and so the memory is laid out
    pub parted-test : numbers_shape.test xs ≡ true
    parted-test = map-test xs ∙ and_i s.mark (and_i (and_i (and_i s.roots s.rules) (and_i s.totals (and_i s.locks s.register))) s.log)

    pub parted-laid : Laid xs
    parted-laid = test-laid xs long parted-test

    pub parted-ordered : are_ordered 0 (decode xs).part.clock (decode xs).log ≡ true
    parted-ordered = ap (λ (t : State). are_ordered 0 t.part.clock t.log) (decode_is xs) ∙ s.ordered

    told-sound : leb (used (told xs) (told xs).part.clock) log_places ≡ true → is_sound_state (told xs) ≡ true
    unfolding is_sound_state is_made told roots_in rules_in
    told-sound within =
        let made =
        and_i (and_i (and_i (and_i (and_i s.firm (and_i (le-leb 0 (length (roots_told xs)) zero-le) (le-leb _ _ (few-told s.roots)))) s.names)
        (and_i (le-leb _ _ s.some) (le-leb _ _ (rules-few s.roots s.rules)))) (rules-valid s.roots s.rules)) s.order in
        and_i (and_i (and_i (and_i (and_i (and_i (and_i (and_i s.clock made) s.paid) s.tripped) s.by_user) s.rate) (and_i s.ordered s.flagged)) s.different) within

  pub said-sound : Said xs → is_sound xs ≡ true
  unfolding use_holds
  said-sound s = put-together xs (record {
    long = long;
    map = parted-test s.parted;
    state =
        ap is_sound_state (is-told xs)
        ∙ told-sound s.parted (ap (λ (t : State). leb (used t t.part.clock) log_places) (sym (is-told xs)) ∙ s.in_use);
  })
