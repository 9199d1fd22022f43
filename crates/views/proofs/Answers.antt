-- What each call answers, case by case. Assumes nothing.
use Prim.Native.Nat.{ℕ, ◌+◌, ◌-◌, ◌≤◌, ◌<◌}
use native.Mathlib.Omega.{arith}
use native.Mathlib.Nat.{zero-add}
use mathlib.Core.Path.{◌≡◌, ap, ◌∙◌}
use mathlib.Core.List.{List}
use lib.ListN.{length, get_or, take, drop}
use lib.Seq.{take-length, sets}
use lib.Dec.{lit<}
use borrow.Author.Tests.{ne_eqb, le-ltb, lt-ltb, le-leb, lt-leb}
use Rattle.text.specs.Text.{index_of, made, name_of}
use Rattle.std.specs.Prelude.{Some}
use Rattle.text.proofs.Written.{sets-front}
use Rattle.rules.specs.declared.Rule.{Rule}
use Rattle.machine.specs.State.{roots_in, rules_in}
use Rattle.machine.specs.Remaining.{rule_numbered}
use Rattle.given.specs.Names.{name_bytes}
use Rattle.given.proofs.Names.{name-read}
use Rattle.writing.proofs.Roots.{root-name, root-index}
use Rattle.state.specs.State.{decode}
use Rattle.state.proofs.Laid.{laid-roots, laid-names}
use Rattle.calls.specs.Calls.{memory_refusal}
use Rattle.std.specs.declared.result.Result.TheVariants.{Ok, Err}
use Rattle.views.specs.Views.{asked, found_root, root_named, name_answer, name_room, root_name, root_name_room, terms_of, rule_told}
use Rattle.views.proofs.Held.{laid, name-short, roots-named}

-- the memory meets a refusal
module _ (xs : List ℕ) (n : ℕ) (e : n ≡ memory_refusal xs) (h : n ≡ 0 → ⊥) where
  pub named-refused : (name : List ℕ) → Err n ≡ root_named xs name
  unfolding root_named asked
  named-refused name = rw (← e, ne_eqb _ _ h)

  pub name-refused : (root : ℕ) (room : List ℕ) → (Err n ≡ root_name xs root room) × (room ≡ root_name_room xs root room)
  unfolding root_name root_name_room asked
  name-refused root room = (rw (← e, ne_eqb _ _ h), rw (← e, ne_eqb _ _ h))

  pub rule-refused : (rule : ℕ) → Err n ≡ rule_told xs rule
  unfolding rule_told asked
  rule-refused rule = rw (← e, ne_eqb _ _ h)

module _ (xs : List ℕ) (ready : memory_refusal xs ≡ 0) where
  -- a root by its name
  module _ (name : List ℕ) where
    pub named-empty : length name < 1 → Err 13 ≡ root_named xs name
    unfolding root_named asked found_root name_of made
    named-empty h = rw (ready, lt-leb 1 (length name) h)

    pub named-is : 1 ≤ length name → found_root (decode xs).part.profile.roots (name_of 0 6 name) ≡ root_named xs name
    unfolding root_named asked name_of made
    named-is h = rw (ready, le-leb 1 (length name) h, le-leb 0 (length name) (omega arith))

  module _ (roots : ℕ) (roots-are : roots ≡ roots_in (decode xs)) where
    module _ (name root : ℕ) (is : root ≡ index_of name (take (4 + roots - 4) (drop 4 xs))) where
      place_is : index_of name (decode xs).part.profile.roots ≡ root
      place_is =
          let all : 4 + roots - 4 ≡ get_or xs 3 0 = omega (arith, roots-are, laid-roots (laid xs ready)) in
          rw (is, all, laid-names (laid xs ready))

      pub place-known : root < roots → Ok root ≡ found_root (decode xs).part.profile.roots (Some name)
      unfolding found_root roots_in
      place-known h = rw (place_is, ← roots-are, lt-ltb _ _ h)

      pub place-unknown : roots ≤ root → Err 13 ≡ found_root (decode xs).part.profile.roots (Some name)
      unfolding found_root roots_in
      place-unknown h = rw (place_is, ← roots-are, le-ltb _ _ h)

    -- a root's name
    module _ (root : ℕ) (room : List ℕ) where
      pub name-unknown : roots ≤ root → (Err 13 ≡ root_name xs root room) × (room ≡ root_name_room xs root room)
      unfolding root_name root_name_room asked name_answer name_room roots_in
      name-unknown h = (rw (ready, ← roots-are, le-ltb _ _ h), rw (ready, ← roots-are, le-ltb _ _ h))

      module _ (known : root < roots) where
        pub name-unsaid : length room < 6 → (Err 1 ≡ root_name xs root room) × (room ≡ root_name_room xs root room)
        unfolding root_name root_name_room asked name_answer name_room roots_in
        name-unsaid h =
            (rw (ready, ← roots-are, lt-ltb _ _ known, lt-ltb _ _ h), rw (ready, ← roots-are, lt-ltb _ _ known, lt-ltb _ _ h))

        pub name-said : 6 ≤ length room → (name : ℕ) → name ≡ get_or (decode xs).part.profile.roots root 0
            → (Ok (0 + length (name_bytes name)) ≡ root_name xs root room) × (sets room 0 (name_bytes name) ≡ root_name_room xs root room)
        unfolding root_name root_name_room asked name_answer name_room roots_in
        name-said h name is =
            let short = name-short xs ready root (omega (arith, roots-are)) in
            let bytes : length (name_bytes name) ≤ length room = omega (arith, ap (λ (n : ℕ). length (name_bytes n)) is) in (
              ap Ok (zero-add _) ∙ rw (ready, ← roots-are, lt-ltb _ _ known, le-ltb _ _ h, is),
              sets-front (name_bytes name) room bytes ∙ rw (ready, ← roots-are, lt-ltb _ _ known, le-ltb _ _ h, is),
            )

  -- a rule
  module _ (rules : ℕ) (are : rules ≡ length (rules_in (decode xs))) (rule : ℕ) where
    pub rule-unknown : rules ≤ rule → Err 13 ≡ rule_told xs rule
    unfolding rule_told asked rules_in
    rule-unknown h = rw (ready, ← are, le-ltb _ _ h)

    pub rule_told_lem : rule < rules → (r : Rule) → r ≡ rule_numbered (rules_in (decode xs)) rule → Ok (terms_of r) ≡ rule_told xs rule
    unfolding rule_told asked rules_in rule_numbered
    rule_told_lem h r is = rw (ready, ← are, lt-ltb _ _ h, is)

  -- the name that a root has is that of this root alone
  pub named_back : (root : ℕ) → root < length (decode xs).part.profile.roots
      → root_named xs (name_bytes (get_or (decode xs).part.profile.roots root 0)) ≡ Ok root
  unfolding root_named asked found_root
  named_back root known =
      let roots = (decode xs).part.profile.roots in
      let place : index_of (get_or roots root 0) roots ≡ root =
      (rw take-length at (root-index roots root (length roots) (roots-named xs ready) known)) ∙ omega arith in
      rw (ready, name-read 1 6 (get_or roots root 0) (root-name roots root (roots-named xs ready) known) (lit< tt), place, lt-ltb _ _ known)
