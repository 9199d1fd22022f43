-- The tests of the roots' and the rules' tables, by the count in front of them. Assumes nothing.
use Prim.Native.Nat.{ℕ, ◌≤◌, ◌<◌}
use mathlib.Core.Path.{◌≡◌, sym, ap, ◌∙◌}
use mathlib.Core.Bool.{Bool, true, false, ◌&&◌}
use mathlib.Core.List.{List}
use lib.ListN.{get_or, take, drop}
use lib.Dec.{leb}
use borrow.Author.Tests.{leb-true, lt-leb, le-leb}
use Rattle.laws.proofs.Tests.{and_r}
use Rattle.measures.specs.Ranges.{◌to◌, is_in}
use Rattle.machine.specs.State.{cells_of}
use Rattle.machine.specs.Offers.{longest}
use Rattle.std.specs.Prelude.{Option}
use Rattle.std.specs.declared.option.Option.TheVariants.{None}
use Rattle.given.specs.Parts.{names_hold, places_hold, roots_hold, places_of, rules_of, rules_hold, totals_hold}
use Rattle.given.specs.Inner.Tested.{tested_of}

module _ (xs : List ℕ) where
  pub roots-many : 64 < get_or xs 0 0 → false ≡ roots_hold xs
  unfolding roots_hold
  roots-many h = rw (lt-leb _ _ h)

  pub roots_few : get_or xs 0 0 ≤ 64 → (b : Bool) → b ≡ names_hold (get_or xs 0 0) (take 64 (drop 1 xs)) → b ≡ roots_hold xs
  unfolding roots_hold
  roots_few h b e = e ∙ sym (ap (λ (a : Bool). a && names_hold (get_or xs 0 0) (take 64 (drop 1 xs))) (le-leb _ _ h))

module _ (n : ℕ) (xs amounts : List ℕ) (inside : Bool) (is : inside ≡ is_in (1 to 256) (get_or xs 0 0)) where
  -- what is to be answered, by what the places and totals say
  abbrev answer : Bool → Option ℕ
  answer b = tested_of (b && totals_hold (cells_of (rules_of xs)) amounts) (longest (rules_of xs))

  pub rules-out : inside ≡ false → None ≡ answer (rules_hold n xs)
  unfolding rules_hold
  rules-out h = ap (λ (a : Bool). answer (a && places_hold n (get_or xs 0 0) (places_of xs))) (sym (sym is ∙ h))

  pub rules-few : inside ≡ true → get_or xs 0 0 ≤ 256
  rules-few h = leb-true _ _ (and_r (leb 1 (get_or xs 0 0)) _ (sym is ∙ h))

  pub rules-in : inside ≡ true → (t : Option ℕ) → t ≡ answer (places_hold n (get_or xs 0 0) (places_of xs)) → t ≡ answer (rules_hold n xs)
  unfolding rules_hold
  rules-in h t e = e ∙ ap (λ (a : Bool). answer (a && places_hold n (get_or xs 0 0) (places_of xs))) (sym (sym is ∙ h))
