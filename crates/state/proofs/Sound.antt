-- The tests of the parts together are the test of a sound memory. Assumes nothing.
use Prim.Native.Nat.{ℕ, ◌^◌, ◌≤◌, ◌<◌}
use native.Mathlib.Omega.{arith}
use mathlib.Core.Path.{◌≡◌, sym, ap, ap₂, ◌∙◌}
use mathlib.Core.Bool.{Bool, true, false, ◌&&◌, ◌||◌}
use mathlib.Core.List.{List, []}
use lib.ListN.{length, get_or, drop}
use lib.Dec.{eqb, leb, ltb}
use borrow.Author.Tests.{le-leb, lt-leb}
use Rattle.laws.proofs.Tests.{and_l, and_i, and-on, same_test, tests, and_r}
use Rattle.laws.specs.Folds.{every}
use Rattle.measures.specs.Ranges.{is_in, times}
use Rattle.shapes.specs.Shape.{table}
use Rattle.rules.specs.Valid.{has_rate}
use Rattle.packing.specs.RulePlace.{rules_shape}
use Rattle.packing.specs.EntryPlace.{log_shape}
use Rattle.rules.specs.declared.Rule.{Rule}
use Rattle.machine.specs.State.{cells_of}
use Rattle.machine.specs.Offers.{longest}
use Rattle.machine.proofs.Totals.{is_paid}
use Rattle.given.specs.Names.{is_name_number}
use Rattle.admission.specs.Admission.{are_in_order}
use Rattle.given.specs.Given.{are_roots}
use Rattle.given.specs.Parts.{rules_of, rules_hold, totals_hold}
use Rattle.given.proofs.Rates.{rate-told}
use Rattle.daylog.specs.Inner.Log.{log_holds}
use Rattle.daylog.proofs.Logs.{are_logged}
use Rattle.state.specs.State.{size, number, locks_shape, totals_shape, accounts_of, locks_at, log_at, totals_at, register_at}
use Rattle.state.specs.Sound.{is_sound}
use Rattle.state.specs.Inner.Tests.{rules_part, totals_part, locks_part, log_part, front_holds, locks_hold, rules_paid, parts_hold, sound_parts, register_part, use_holds}
use Rattle.state.proofs.Map.{roots_told, rules_told, roots-told}
use Rattle.state.proofs.Parts.{roots-held, rules-held, rules-are, totals-held, locks-held, log-held, log-many, register-held}
use Rattle.state.proofs.Said.{sound-said, said-sound, few-told, rules-few, Parted}
use Rattle.register.specs.Register.{register_shape, register_holds}
use Rattle.machine.specs.Register.{are_different}

-- the tests of the parts where they stand: the front, the rules, and what is left
abbrev told_front : List ℕ → Bool
told_front xs =
    eqb (get_or xs 0 0) 1 && is_in times (get_or xs 1 0) && is_name_number 1 4 (get_or xs 2 0) && ((table 64 number).test (drop 3 xs) && are_roots (roots_told xs))

abbrev told_rules : List ℕ → Bool
told_rules xs =
    (rules_shape (length (roots_told xs))).test (drop 68 xs) && (leb 1 (length (rules_told xs)) && are_in_order (length (roots_told xs)) [] 0 (rules_told xs))

abbrev told_totals : List ℕ → Bool
told_totals xs =
    (totals_shape (rules_told xs)).test (drop totals_at xs) && every is_paid (accounts_of (cells_of (rules_told xs)) ((totals_shape (rules_told xs)).read (drop totals_at xs)))

abbrev told_rest : List ℕ → Bool
told_rest xs =
    (locks_shape.test (drop locks_at xs)
    && (ltb (locks_shape.read (drop locks_at xs)).tripped (2 ^ length (roots_told xs)) && ltb (locks_shape.read (drop locks_at xs)).by_user (2 ^ length (roots_told xs))))
    && (has_rate (rules_told xs) || eqb (length ((log_shape (length (roots_told xs))).read (drop log_at xs))) 0)
    && ((log_shape (length (roots_told xs))).test (drop log_at xs) && are_logged (get_or xs 1 0) ((log_shape (length (roots_told xs))).read (drop log_at xs)))
    && ((register_shape (length (roots_told xs))).test (drop register_at xs) && are_different ((register_shape (length (roots_told xs))).read (drop register_at xs)))

parts_said : (xs : List ℕ) → (told_front xs && (told_rules xs && told_totals xs) && told_rest xs) ≡ true → Parted xs
parts_said xs h = record {
  mark = search tests depth 40;
  clock = search tests depth 40;
  firm = search tests depth 40;
  roots = search tests depth 40;
  names = search tests depth 40;
  rules = search tests depth 40;
  some = search tests depth 40;
  order = search tests depth 40;
  totals = search tests depth 40;
  paid = search tests depth 40;
  locks = search tests depth 40;
  tripped = search tests depth 40;
  by_user = search tests depth 40;
  rate = search tests depth 40;
  log = search tests depth 40;
  ordered = search tests depth 40;
  flagged = search tests depth 40;
  register = search tests depth 40;
  different = search tests depth 40;
}

said-parts : (xs : List ℕ) → Parted xs → (told_front xs && (told_rules xs && told_totals xs) && told_rest xs) ≡ true
said-parts xs s =
    let front = and_i (and_i (and_i s.mark s.clock) s.firm) (and_i s.roots s.names) in
    let rules = and_i s.rules (and_i (le-leb _ _ s.some) s.order) in
    let locks = and_i s.locks (and_i s.tripped s.by_user) in
    and_i (and_i front (and_i rules (and_i s.totals s.paid)))
    (and_i (and_i (and_i locks s.rate) (and_i s.log (and_i s.ordered s.flagged))) (and_i s.register s.different))

-- the tests that the code runs over the parts are these
module _ (xs : List ℕ) (long : size ≤ length xs) where
  abbrev many : ℕ
  many = length (roots_told xs)

  front-told : front_holds xs ≡ told_front xs
  unfolding front_holds
  front-told = ap (λ (b : Bool). eqb (get_or xs 0 0) 1 && is_in times (get_or xs 1 0) && is_name_number 1 4 (get_or xs 2 0) && b) (roots-held xs long)

  few-front : told_front xs ≡ true → many ≤ 64
  few-front h = few-told xs long (search tests depth 20)

  rules-told : told_front xs ≡ true → rules_hold (get_or xs 3 0) (rules_part xs) ≡ told_rules xs
  rules-told h = ap (λ (n : ℕ). rules_hold n (rules_part xs)) (sym (roots-told xs)) ∙ rules-held xs long many (few-front h)

  totals-told : told_front xs ≡ true → told_rules xs ≡ true → totals_hold (cells_of (rules_of (rules_part xs))) (totals_part xs) ≡ told_totals xs
  totals-told f h =
      let roots : (table 64 number).test (drop 3 xs) ≡ true = search tests depth 20 in
      let rules : (rules_shape many).test (drop 68 xs) ≡ true = search tests depth 20 in
      ap (λ (rs : List Rule). totals_hold (cells_of rs) (totals_part xs)) (rules-are xs long many (few-front f) rules)
      ∙ totals-held xs long (rules_told xs) (rules-few xs long roots rules)

  paid-told : told_front xs ≡ true → rules_paid xs ≡ (told_rules xs && told_totals xs)
  paid-told h =
      ap (λ (b : Bool). b && totals_hold (cells_of (rules_of (rules_part xs))) (totals_part xs)) (rules-told h) ∙ and-on (told_rules xs) (totals-told h)

  rest-told : (told_front xs && (told_rules xs && told_totals xs)) ≡ true → parts_hold xs ≡ told_rest xs
  unfolding parts_hold
  rest-told h =
      let few = few-front (and_l (told_front xs) _ h) in
      let rules : (rules_shape many).test (drop 68 xs) ≡ true = search tests depth 20 in
      let n = sym (roots-told xs) in
      let r = rules-are xs long many few rules in
      (λ i. locks_hold (n i) (locks_part xs) && (has_rate (r i) || eqb (sym (log-many many xs) i) 0)
      && log_holds (n i) (get_or xs 1 0) (log_part xs) && register_holds (n i) (register_part xs))
      ∙ (λ i. locks-held xs long many i
      && (has_rate (rules_told xs) || eqb (length ((log_shape many).read (drop log_at xs))) 0) && log-held xs long many few (get_or xs 1 0) i && register-held xs long many few i)

  parts-told : (front_holds xs && rules_paid xs && parts_hold xs) ≡ (told_front xs && (told_rules xs && told_totals xs) && told_rest xs)
  parts-told =
      let first : (front_holds xs && rules_paid xs) ≡ (told_front xs && (told_rules xs && told_totals xs)) =
      ap (λ (b : Bool). b && rules_paid xs) front-told ∙ and-on (told_front xs) paid-told in
      ap (λ (b : Bool). b && parts_hold xs) first ∙ and-on (told_front xs && (told_rules xs && told_totals xs)) rest-told

  -- what the tests of the parts say
  pub parts-parted : (front_holds xs && rules_paid xs && parts_hold xs) ≡ true → Parted xs
  parts-parted h = parts_said xs (sym parts-told ∙ h)

  -- memory that is long enough is sound exactly if the tests of its parts and of its use say so
  pub sound-is : is_sound xs ≡ sound_parts xs
  unfolding sound_parts
  sound-is =
      let parts = front_holds xs && rules_paid xs && parts_hold xs in
      same_test (is_sound xs) (parts && use_holds xs)
      (λ h. let s = sound-said xs h in and_i (parts-told ∙ said-parts xs s.parted) s.in_use)
      (λ h. said-sound xs long (record { parted = parts-parted (and_l parts (use_holds xs) h); in_use = and_r parts (use_holds xs) h }))

-- what the code answers on the way, and what it knows when it goes on
pub sound-short : (xs : List ℕ) → length xs < size → false ≡ is_sound xs
unfolding is_sound
sound-short xs h = rw (lt-leb _ _ h)

module _ (xs : List ℕ) (long : size ≤ length xs) where
  pub sound-front : front_holds xs ≡ false → false ≡ is_sound xs
  unfolding sound_parts
  sound-front h = sym (sound-is xs long ∙ ap (λ (a : Bool). a && rules_paid xs && parts_hold xs && use_holds xs) h)

  module _ (front : front_holds xs ≡ true) where
    pub roots-fit : get_or xs 3 0 ≤ 64
    roots-fit = omega (arith, roots-told xs, few-front xs long (sym (front-told xs long) ∙ front))

    pub sound-rules : rules_paid xs ≡ false → false ≡ is_sound xs
    unfolding sound_parts
    sound-rules h = sym (sound-is xs long ∙ ap₂ (λ (a b : Bool). a && b && parts_hold xs && use_holds xs) front h)

    module _ (rules : rules_paid xs ≡ true) where
      pub rates-known : {w : ℕ} → w ≡ longest (rules_of (rules_part xs)) → ltb 0 w ≡ has_rate (rules_of (rules_part xs))
      rates-known e = rw e (rate-told (get_or xs 3 0) (rules_part xs) (and_l (rules_hold (get_or xs 3 0) (rules_part xs)) _ rules))

      pub sound-parts : parts_hold xs ≡ false → false ≡ is_sound xs
      unfolding sound_parts
      sound-parts h = sym (sound-is xs long ∙ (λ i. front i && rules i && h i && use_holds xs))

      pub sound-parted : parts_hold xs ≡ true → Parted xs
      sound-parted h = parts-parted xs long (and_i (and_i front rules) h)

      pub sound-rest : parts_hold xs ≡ true → use_holds xs ≡ is_sound xs
      unfolding sound_parts
      sound-rest h = sym (sound-is xs long ∙ (λ i. front i && rules i && h i && use_holds xs))
