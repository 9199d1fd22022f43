-- The state that Arm stores is sound if some text gives its profile. Assumes nothing.
use Prim.Native.Nat.{ℕ, ◌≤◌, zero-le}
use native.Mathlib.Omega.{arith}
use mathlib.Core.Path.{◌≡◌, refl, ◌∙◌}
use mathlib.Core.Bool.{Bool, true, false, cond, ◌&&◌}
use mathlib.Core.List.{List, [], ◌∷◌, map, map-map, map-id}
use lib.ListN.{length}
use lib.Pow.{pow_pos}
use Rattle.laws.specs.Folds.{every, keep, sum_of}
use Rattle.rules.specs.declared.Rule.{Rule}
use Rattle.machine.specs.State.{Profile, cells_of, rules_in, roots_in, account_rule, Fitting, no_locks, fresh, armed}
use Rattle.rules.specs.Valid.{has_rate}
use Rattle.machine.specs.Entries.{are_ordered, recent}
use Rattle.machine.specs.Register.{are_different, kept_places}
use Rattle.machine.specs.Refusals.{used}
use Rattle.machine.specs.Judge.{log_places}
use Rattle.machine.proofs.Totals.{is_paid, nothing-total}
use Rattle.profile.specs.Profile.{outcome_of}
use Rattle.profile.proofs.Laws.{Answer, none, size, fault, answered}
use Rattle.given.specs.Given.{is_made}
use Rattle.given.proofs.Given.{given_made}
use Rattle.state.specs.Sound.{SoundState}
use Rattle.state.proofs.Exactly.{made-given}

-- a total of 0 is one that any rule may have
fresh-totals : (rules : List Rule) → every is_paid (map fresh rules) ≡ true
unfolding every fresh
fresh-totals [] = refl
fresh-totals (rule ∷ rules) = rw (nothing-total rule) (fresh-totals rules)

-- nothing is in use
none-used : (p : Profile) → used (armed p) 0 ≤ log_places
unfolding used armed recent keep kept_places sum_of
none-used p = go (has_rate (rules_in (armed p)))
  where
    go : (b : Bool) → cond b 0 0 ≤ log_places
    go true = zero-le
    go false = zero-le

-- a freshly armed state is sound
pub fresh-sound : (p : Profile) → is_made p ≡ true → SoundState (armed p)
unfolding armed no_locks Fitting fresh rules_in roots_in are_ordered are_different every
fresh-sound p h = record {
  clock = (zero-le, zero-le);
  given = made-given p h;
  fitting = map-map account_rule fresh (cells_of p.rules) ∙ map-id (cells_of p.rules);
  totals = fresh-totals (cells_of p.rules);
  tripped = pow_pos (length p.roots);
  by_user = pow_pos (length p.roots);
  number = zero-le;
  none = λ e. refl;
  ordered = refl;
  entries = refl;
  flagged = refl;
  few = zero-le;
  registered = refl;
  different = refl;
  in_use = none-used p;
}

-- a text that is accepted gives a profile that passes the test of profiles
pub accepted-made : (text : List ℕ) → (outcome_of text).refusal ≡ 0 → is_made (outcome_of text).profile ≡ true
accepted-made text ok =
    given_made text (outcome_of text).profile (λ i. record { profile = (outcome_of text).profile; refusal = ok i; line = no_line (answered text) i })
  where
    no_line : {lines : ℕ} → Answer lines (outcome_of text).refusal (outcome_of text).line → (outcome_of text).line ≡ 0
    no_line (none a b) = b
    no_line (size a b) = b
    no_line (fault a b c d) = absurd (omega arith)
