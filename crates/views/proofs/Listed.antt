-- The profile that a memory holds is the one that its lent tables hold, and what writing it answers. Assumes nothing.
use Prim.Native.Nat.{ℕ, ◌≤◌, ◌<◌}
use native.Mathlib.Omega.{arith}
use mathlib.Core.Path.{◌≡◌, sym, ap, ◌∙◌, subst}
use mathlib.Core.Bool.{true, ◌&&◌}
use mathlib.Core.List.{List, ◌++◌}
use lib.ListN.{length, get_or, take, drop, length-drop}
use lib.Seq.{get_or-take, get_or-drop, length-take-le}
use borrow.Author.Tests.{ne_eqb, le-ltb, lt-ltb}
use Rattle.laws.proofs.Tests.{tests}
use Rattle.shapes.specs.Shape.{cell, table}
use Rattle.shapes.proofs.Exact.{table-exact, read-part}
use Rattle.packing.specs.RulePlace.{rules_shape}
use Rattle.machine.specs.State.{Profile, State, roots_in}
use Rattle.given.specs.Given.{is_made}
use Rattle.given.specs.Parts.{rules_of}
use Rattle.writing.specs.Writing.{text_of}
use Rattle.writing.specs.Inner.Parts.{names_of, Lent, profile_in}
use Rattle.writing.proofs.Lent.{made-lent, names-lent}
use Rattle.state.specs.State.{number, decode}
use Rattle.state.specs.Inner.Laid.{Laid}
use Rattle.state.specs.Inner.Tests.{roots_part, rules_part}
use Rattle.state.proofs.Exact.{number-exact}
use Rattle.state.proofs.Exactly.{taken-apart, given-is-made, sound-decode}
use Rattle.state.proofs.Laid.{laid-roots}
use Rattle.state.proofs.Map.{roots_told, roots-told, map-test, decode_is}
use Rattle.state.proofs.Parts.{rules-are}
use Rattle.calls.specs.Calls.{memory_refusal}
use Rattle.calls.proofs.Armed.{sound-memory}
use Rattle.views.specs.Views.{Listed, Short, NotListed, asked, list_answer, list_room, profile_answer, profile_room}
use Rattle.views.proofs.Held.{laid}

-- the memory meets a refusal
pub listed-refused : (xs : List ℕ) (n : ℕ) → n ≡ memory_refusal xs → (n ≡ 0 → ⊥) → (room : List ℕ) → (NotListed n ≡ profile_answer xs room) × (room ≡ profile_room xs room)
unfolding profile_answer profile_room asked
listed-refused xs n e h room = (rw (← e, ne_eqb _ _ h), rw (← e, ne_eqb _ _ h))

module _ (xs : List ℕ) (ready : memory_refusal xs ≡ 0) where
  roots-tested : (table 64 number).test (drop 3 xs) ≡ true
  roots-tested = let h = sym (map-test xs) ∙ (taken-apart xs (sound-memory xs ready)).map in search tests depth 20

  rules-tested : (rules_shape (length (roots_told xs))).test (drop 68 xs) ≡ true
  rules-tested = let h = sym (map-test xs) ∙ (taken-apart xs (sound-memory xs ready)).map in search tests depth 20

  roots-long : length (roots_part xs) ≡ 65
  roots-long = length-take-le 65 (drop 3 xs) (omega (arith, length-drop 3 xs, (laid xs ready).long))

  rules-long : length (rules_part xs) ≡ 513
  rules-long = length-take-le 513 (drop 68 xs) (omega (arith, length-drop 68 xs, (laid xs ready).long))

  few : get_or xs 3 0 ≤ 64
  few = omega (arith, laid-roots (laid xs ready), (laid xs ready).fits.roots)

  names-are : names_of (roots_part xs) ≡ (decode xs).part.profile.roots
  unfolding number
  names-are =
      sym (names-lent (roots_part xs) roots-long (omega (arith, few, get_or-take 65 (drop 3 xs) 0 0 (omega arith), get_or-drop 3 xs 0 0)))
      ∙ read-part (table 64 number) (table-exact 64 number number-exact) (drop 3 xs) (omega (arith, length-drop 3 xs, (laid xs ready).long)) roots-tested
      ∙ sym (ap (λ (s : State). s.part.profile.roots) (decode_is xs))

  pub profile-held : profile_in (get_or xs 2 0) (roots_part xs) (rules_part xs) ≡ (decode xs).part.profile
  unfolding profile_in
  profile-held = λ i. record { firm = firm i; roots = names-are i; rules = rules i }
    where
      firm : get_or xs 2 0 ≡ (decode xs).part.profile.firm
      firm = sym (ap (λ (s : State). s.part.profile.firm) (decode_is xs))

      rules : rules_of (rules_part xs) ≡ (decode xs).part.profile.rules
      rules =
          rules-are xs (laid xs ready).long (length (roots_told xs)) (omega (arith, roots-told xs, few)) rules-tested
          ∙ sym (ap (λ (s : State). s.part.profile.rules) (decode_is xs))

  pub profile-lent : Lent (roots_part xs) (rules_part xs)
  profile-lent =
      let made = given-is-made (decode xs).part.profile (sound-decode xs (sound-memory xs ready)).given in
      made-lent (get_or xs 2 0) (roots_part xs) (rules_part xs) roots-long rules-long (subst (λ (p : Profile). is_made p ≡ true) (sym profile-held) made)

  -- the room is short, or it is not
  module _ (room : List ℕ) (size : ℕ) (is : size ≡ length (text_of (profile_in (get_or xs 2 0) (roots_part xs) (rules_part xs)))) where
    size_is : length (text_of (decode xs).part.profile) ≡ size
    size_is = sym (is ∙ ap (λ (p : Profile). length (text_of p)) profile-held)

    pub listed-short : length room < size → (Short size ≡ profile_answer xs room) × (room ≡ profile_room xs room)
    unfolding profile_answer profile_room asked list_answer list_room
    listed-short h = (rw (ready, size_is, lt-ltb _ _ h), rw (ready, size_is, lt-ltb _ _ h))

    pub listed : size ≤ length room → (n : ℕ) → n ≡ length (text_of (profile_in (get_or xs 2 0) (roots_part xs) (rules_part xs)))
        → (Listed n ≡ profile_answer xs room)
        × (text_of (profile_in (get_or xs 2 0) (roots_part xs) (rules_part xs)) ++ drop (length (text_of (profile_in (get_or xs 2 0) (roots_part xs) (rules_part xs)))) room
        ≡ profile_room xs room)
    unfolding profile_answer profile_room asked list_answer list_room
    listed h n e =
        let same : n ≡ size = e ∙ sym is in
        (rw (ready, size_is, le-ltb _ _ h, same), rw (profile-held, ready, size_is, le-ltb _ _ h))
