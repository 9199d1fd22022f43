-- The cases of Arm, Clear and Text. Assumes nothing.
use Prim.Native.Nat.{ℕ, ◌≤◌, ◌<◌}
use mathlib.Core.Path.{◌≡◌, sym, ap, ◌∙◌}
use mathlib.Core.List.{List, [], ◌∷◌, ◌++◌}
use lib.ListN.{length, drop}
use borrow.Author.Tests.{eq-eqb, ne_eqb, le-ltb, lt-ltb}
use Rattle.tables.specs.Inner.Tables.{zeros}
use Rattle.std.specs.declared.result.Result.TheVariants.{Ok, Err}
use Rattle.profile.specs.Profile.{outcome_of, reading_of, Scanned, scan_of, scan_told}
use Rattle.profile.specs.Reading.{Refused as NotRead, reading_told}
use Rattle.profile.specs.declared.Armed.{Armed}
use Rattle.profile.specs.declared.Fault.{Fault}
use Rattle.profile.specs.declared.Scan.{Scan}
use Rattle.profile.proofs.Laws.{lawful, reading-accepted, reading-refused}
use Rattle.state.specs.State.{size, rest_size}
use Rattle.state.proofs.Armed.{armed-stored}
use Rattle.machine.specs.Refusals.{first_of}
use Rattle.std.specs.declared.result.Result.TheVariants.{Ok, Err}
use Rattle.calls.specs.Calls.{is_short, clear_answer, clear_memory, say_answer, say_memory, mark_of, arm_refusal, arm_answer, arm_memory}

module _ (xs : List ℕ) where
  pub clear-short : length xs < size → (Err 1 ≡ clear_answer xs) × (xs ≡ clear_memory xs)
  unfolding clear_answer clear_memory is_short
  clear-short h = (rw (lt-ltb _ _ h), rw (lt-ltb _ _ h))

  pub clear-done : size ≤ length xs → (Ok tt ≡ clear_answer xs) × (zeros size ++ drop size xs ≡ clear_memory xs)
  unfolding clear_answer clear_memory is_short
  clear-done h = (rw (le-ltb _ _ h), rw (le-ltb _ _ h))

module _ (words room : List ℕ) where
  pub say-short : length room < 20 → (Err 1 ≡ say_answer words room) × (room ≡ say_memory words room)
  unfolding say_answer say_memory
  say-short h = (rw (lt-ltb _ _ h), rw (lt-ltb _ _ h))

  pub say-done : 20 ≤ length room → (Ok (length words) ≡ say_answer words room) × (words ++ drop (length words) room ≡ say_memory words room)
  unfolding say_answer say_memory
  say-done h = (rw (le-ltb _ _ h), rw (le-ltb _ _ h))

-- Arm: short memory, a mark that is not 0, a refused text, an accepted one
module _ (xs text : List ℕ) where
  pub arm-short : length xs < size → (NotRead 1 0 ≡ arm_answer xs text) × (xs ≡ arm_memory xs text)
  unfolding arm_answer arm_memory arm_refusal is_short first_of
  arm-short h = (rw (lt-ltb _ _ h), rw (lt-ltb _ _ h))

  pub arm-marked : size ≤ length xs → (mark_of xs ≡ 0 → ⊥) → (NotRead 3 0 ≡ arm_answer xs text) × (xs ≡ arm_memory xs text)
  unfolding arm_answer arm_memory arm_refusal is_short first_of
  arm-marked h m = (rw (le-ltb _ _ h, ne_eqb _ _ m), rw (le-ltb _ _ h, ne_eqb _ _ m))

  module _ (h : size ≤ length xs) (m : mark_of xs ≡ 0) (scan : Scan) (e : scan_told scan ≡ scan_of text) where
    read_is : reading_told scan.reading ≡ reading_of (outcome_of text)
    unfolding scan_of
    read_is = ap (λ (s : Scanned). s.reading) e

    pub arm-refused : (fault : Fault) → scan.reading ≡ Err fault → (reading_told (Err fault) ≡ arm_answer xs text) × (xs ≡ arm_memory xs text)
    unfolding arm_answer arm_memory arm_refusal is_short first_of
    arm-refused fault is =
        let r : reading_told (Err fault) ≡ reading_of (outcome_of text) = ap reading_told (sym is) ∙ read_is in
        let f = reading-refused (outcome_of text) _ _ (sym r) in
        (rw (le-ltb _ _ h, eq-eqb _ _ m) r, rw (le-ltb _ _ h, eq-eqb _ _ m, ne_eqb _ _ f.0))

    pub arm-accepted : (armed : Armed) → scan.reading ≡ Ok armed
        → (reading_told (Ok armed) ≡ arm_answer xs text)
        × ((1 ∷ 0 ∷ armed.firm ∷ armed.roots ∷ []) ++ (scan.roots ++ ((armed.rules ∷ []) ++ (scan.rules ++ (zeros rest_size ++ drop size xs)))) ≡ arm_memory xs text)
    unfolding arm_answer arm_memory arm_refusal is_short first_of scan_of
    arm-accepted armed is =
        let r : reading_told (Ok armed) ≡ reading_of (outcome_of text) = ap reading_told (sym is) ∙ read_is in
        let f = reading-accepted (outcome_of text) _ _ _ (sym r) in (
          rw (le-ltb _ _ h, eq-eqb _ _ m) r,
          rw (le-ltb _ _ h, eq-eqb _ _ m, eq-eqb _ _ f.0)
              ((λ i. (1 ∷ 0 ∷ f.1 i ∷ f.3 i ∷ []) ++ ((e i).roots ++ ((f.2 i ∷ []) ++ ((e i).rules ++ (zeros rest_size ++ drop size xs)))))
              ∙ armed-stored (outcome_of text).profile xs (lawful text).rules-most),
        )
