-- The test that the code runs says just what document 01 says of soundness. Assumes nothing.
use Prim.Native.Nat.{ℕ, ◌≤◌}
use mathlib.Core.Path.{◌≡◌, refl, sym, ap, ◌∙◌, subst}
use mathlib.Core.Logic.{◌↔◌}
use mathlib.Core.Bool.{Bool, true, false, ◌&&◌, ◌||◌, false≢true}
use mathlib.Core.List.{List, []}
use lib.ListN.{length, take}
use lib.Dec.{eqb, leb}
use borrow.Author.Tests.{eq-eqb, eqb-true, le-leb, leb-true, lt-ltb, ltb-true}
use Rattle.laws.proofs.Tests.{and_l, and_r, and_i, tests}
use Rattle.laws.specs.Folds.{every}
use Rattle.rules.specs.Amounts.{is_of}
use Rattle.rules.specs.Valid.{is_rule, has_rate}
use Rattle.machine.specs.State.{Profile, State, rules_in, roots_in}
use Rattle.machine.proofs.Lists.{every-imp}
use Rattle.machine.proofs.Totals.{is_paid, total-in}
use Rattle.given.specs.Names.{is_name_number}
use Rattle.admission.specs.Admission.{are_in_order}
use Rattle.given.specs.Given.{are_roots, is_made}
use Rattle.given.proofs.Given.{given_made}
use Rattle.writing.proofs.ReadBack.{given-by-text}
use Rattle.state.specs.State.{size, numbers_shape, encode, stored, decode}
use Rattle.state.specs.Sound.{Given, SoundState, Sound, is_sound_state, is_sound}
use Rattle.state.specs.Inner.Laid.{Fits, Laid}
use Rattle.state.proofs.Stored.{decode-stored, stored-test, stored-long, is-stored, test-restored, test_fits, test-laid}

-- what the test of a profile says, part by part
pub record MadeParts (p : Profile) : Type 0 where
  pub firm : is_name_number 1 4 p.firm ≡ true
  pub few : length p.roots ≤ 64
  pub names : are_roots p.roots ≡ true
  pub some : 1 ≤ length p.rules
  pub most : length p.rules ≤ 256
  pub valid : every (is_rule (length p.roots)) p.rules ≡ true
  pub order : are_in_order (length p.roots) [] 0 p.rules ≡ true

pub made-parts : (p : Profile) → is_made p ≡ true → MadeParts p
unfolding is_made
made-parts p h = record {
  firm = search tests depth 20;
  few = search tests depth 20;
  names = search tests depth 20;
  some = search tests depth 20;
  most = search tests depth 20;
  valid = search tests depth 20;
  order = search tests depth 20;
}

-- a sound state has room in its tables
pub sound-fits : (s : State) → SoundState s → MadeParts s.part.profile → Fits s
unfolding roots_in rules_in
sound-fits s k m = record {
  roots = m.few;
  rules = m.most;
  log = k.number;
  fitting = k.fitting;
  measured = every-imp is_paid (λ a. is_of a.rule.limit a.total) (λ a h. (total-in a.rule a.total h).0) s.part.accounts k.totals;
  valid = m.valid;
  entries = k.entries;
  few = k.few;
  sent = k.registered;
}

or-none : (a : Bool) (n : ℕ) → (a || eqb n 0) ≡ true → a ≡ false → n ≡ 0
or-none true n h e = absurd (false≢true (sym e))
or-none false n h e = eqb-true n 0 h

none_or : (a : Bool) (n : ℕ) → (a ≡ false → n ≡ 0) → (a || eqb n 0) ≡ true
none_or true n h = refl
none_or false n h = eq-eqb n 0 (h refl)

-- what some accepted text gives is what passes the test
pub made-given : (p : Profile) → is_made p ≡ true → Given p
unfolding Given
made-given p h = given-by-text p h

pub given-is-made : (p : Profile) → Given p → is_made p ≡ true
unfolding Given
given-is-made p g = given_made g.0 p g.1.1

-- a sound state passes the test on the state, and a state that fits and passes is sound
pub sound-passes : (s : State) → SoundState s → is_sound_state s ≡ true
unfolding is_sound_state
sound-passes s k =
    let clock = and_i (le-leb _ _ k.clock.0) (le-leb _ _ k.clock.1) in
    let made = given-is-made s.part.profile k.given in
    let words = and_i (and_i (and_i (and_i clock made) k.totals) (lt-ltb _ _ k.tripped)) (lt-ltb _ _ k.by_user) in
    and_i (and_i (and_i (and_i words (none_or (has_rate (rules_in s)) (length s.log) k.none)) (and_i k.ordered k.flagged))
    k.different) (le-leb _ _ k.in_use)

pub passes-sound : (s : State) → Fits s → is_sound_state s ≡ true → SoundState s
unfolding is_sound_state
passes-sound s f h = record {
  clock = (search tests depth 20, search tests depth 20);
  given = made-given s.part.profile (search tests depth 20);
  fitting = f.fitting;
  totals = search tests depth 20;
  tripped = ltb-true _ _ (search tests depth 20);
  by_user = ltb-true _ _ (search tests depth 20);
  number = f.log;
  none = λ e. or-none (has_rate (rules_in s)) (length s.log) (search tests depth 20) e;
  ordered = search tests depth 20;
  entries = f.entries;
  flagged = search tests depth 20;
  few = f.few;
  registered = f.sent;
  different = search tests depth 20;
  in_use = leb-true _ _ (search tests depth 20);
}

-- what the test says
pub record Tests (xs : List ℕ) : Type 0 where
  pub long : size ≤ length xs
  pub map : numbers_shape.test xs ≡ true
  pub state : is_sound_state (decode xs) ≡ true

pub taken-apart : (xs : List ℕ) → is_sound xs ≡ true → Tests xs
unfolding is_sound
taken-apart xs h = record {
  long = leb-true _ _ (and_l (leb size (length xs)) _ (and_l (leb size (length xs) && numbers_shape.test xs) _ h));
  map = and_r (leb size (length xs)) _ (and_l (leb size (length xs) && numbers_shape.test xs) _ h);
  state = and_r (leb size (length xs) && numbers_shape.test xs) _ h;
}

pub put-together : (xs : List ℕ) → Tests xs → is_sound xs ≡ true
unfolding is_sound
put-together xs t = and_i (and_i (le-leb _ _ t.long) t.map) t.state

pub sound-decode : (xs : List ℕ) → is_sound xs ≡ true → SoundState (decode xs)
sound-decode xs h = let t = taken-apart xs h in passes-sound (decode xs) (test_fits xs t.long t.map) t.state

-- a sound state fits
pub sound-state-fits : (s : State) → SoundState s → Fits s
sound-state-fits s k = sound-fits s k (made-parts s.part.profile (given-is-made s.part.profile k.given))

pub sound-stored : (s : State) (xs : List ℕ) → SoundState s → is_sound (stored s xs) ≡ true
sound-stored s xs k =
    let f = sound-state-fits s k in
    put-together (stored s xs) (record { long = stored-long s f xs; map = stored-test s f xs; state = ap is_sound_state (decode-stored s f xs) ∙ sound-passes s k })

-- the numbers of a sound memory are just those of the state that they stand for
pub restored : (xs : List ℕ) → is_sound xs ≡ true → take size xs ≡ encode (decode xs)
restored xs h = let t = taken-apart xs h in test-restored xs t.long t.map

-- EXACTLY: the test that the code runs holds exactly if the sentence of document 01 does
pub exactly : (xs : List ℕ) → Sound xs ↔ (is_sound xs ≡ true)
unfolding Sound
exactly xs = (
  λ h. subst (λ (l : List ℕ). is_sound l ≡ true) (sym (is-stored h.0 xs h.1.1)) (sound-stored h.0 xs h.1.0),
  λ h. (decode xs, (sound-decode xs h, restored xs h)),
)

-- a sound memory is laid out, and its profile is valid
pub sound-is-laid : (xs : List ℕ) → is_sound xs ≡ true → Laid xs
sound-is-laid xs h = let t = taken-apart xs h in test-laid xs t.long t.map

pub decode-made : (xs : List ℕ) → is_sound xs ≡ true → is_made (decode xs).part.profile ≡ true
decode-made xs h = given-is-made (decode xs).part.profile (sound-decode xs h).given
