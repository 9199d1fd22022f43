-- A mark that some deed set and none since has lifted: the test and the sentence. Assumes nothing.
use mathlib.Core.Path.{◌≡◌, refl, ap}
use mathlib.Core.Logic.{◌↔◌}
use mathlib.Core.Bool.{Bool, true, false, not, ◌&&◌, ◌||◌, false≢true, or-true}
use mathlib.Core.List.{List, [], ◌∷◌, ◌++◌}
use Rattle.machine.specs.Deeds.{Deed}
use Rattle.demand.specs.History.{NoneOf}
use Rattle.demand.specs.Locked.{Since}
use Rattle.demand.specs.Answers.{since}

module _ (lift : Deed → Bool) (sets : Deed → List Deed → Bool) (apart : (deed : Deed) (earlier : List Deed) → sets deed earlier ≡ true → lift deed ≡ false) where
  find : (deeds : List Deed) → since lift sets deeds ≡ true → Since lift sets deeds
  unfolding since Since NoneOf
  find [] = λ e. absurd (false≢true e)
  find (deed ∷ earlier) = go (lift deed) refl (sets deed earlier) refl (find earlier)
    where
      go : (b : Bool) → lift deed ≡ b → (k : Bool) → sets deed earlier ≡ k
          → (since lift sets earlier ≡ true → Since lift sets earlier) → (not b && (k || since lift sets earlier)) ≡ true
          → Since lift sets (deed ∷ earlier)
      go true eb k ek ih e = absurd (false≢true e)
      go false eb true ek ih e = ([], deed, earlier, refl, tt, ek)
      go false eb false ek ih e = let w = ih e in (deed ∷ w.0, w.1, w.2, ap (λ l. deed ∷ l) w.3, (eb, w.4), w.5)

  held : (later : List Deed) (deed : Deed) (earlier : List Deed) → NoneOf lift later → sets deed earlier ≡ true
      → since lift sets (later ++ (deed ∷ earlier)) ≡ true
  unfolding since NoneOf
  held [] deed earlier none e = rw (apart deed earlier e, e)
  held (newer ∷ later) deed earlier none e =
      rw (none.0, held later deed earlier none.1 e) (or-true (sets newer (later ++ (deed ∷ earlier))))

  pub since-by : (deeds : List Deed) → (since lift sets deeds ≡ true) ↔ Since lift sets deeds
  unfolding Since
  since-by deeds = (find deeds, λ w. rw w.3 (held w.0 w.1 w.2 w.4 w.5))

-- a mark of either sort
either_way : (l a b x y : Bool) → (not l && ((a || b) || (x || y))) ≡ ((not l && (a || x)) || (not l && (b || y)))
either_way true a b x y = refl
either_way false true b x y = refl
either_way false false true true y = refl
either_way false false true false y = refl
either_way false false false x y = refl

pub since-or : (lift : Deed → Bool) (a b : Deed → List Deed → Bool) (deeds : List Deed)
    → since lift (λ deed earlier. a deed earlier || b deed earlier) deeds ≡ (since lift a deeds || since lift b deeds)
unfolding since
since-or lift a b [] = refl
since-or lift a b (deed ∷ earlier) =
    rw (since-or lift a b earlier) (either_way (lift deed) (a deed earlier) (b deed earlier) (since lift a earlier) (since lift b earlier))
