-- The records of an input as a loop takes them: those of what is left are still to be applied and counted. Assumes nothing.
use Prim.Native.Nat.{ℕ, suc, ◌+◌, ◌-◌, ◌*◌, ◌≤◌, ◌<◌, min}
use mathlib.Core.Path.{◌≡◌, refl, sym, ap, ap₂, ◌∙◌}
use mathlib.Core.List.{List, [], ◌∷◌, ◌++◌}
use native.Mathlib.Omega.{arith}
use lib.ListN.{length, take, drop, length-drop}
use Rattle.std.proofs.lemmas.List.{nil_from_length}
use Rattle.tables.specs.Inner.Tables.{places}
use Rattle.records.specs.Event16.{bytes16, read16_of}
use Rattle.answering.specs.Run.{record_count, first_records, records_of}
use Rattle.answering.proofs.Runs.{cut}
use Rattle.answering.proofs.Pieces.{records-append}
use Rattle.tabled.specs.Tabled.{tabled_memory, account_of, memory_taken, account_taken}

-- an input that is not at its end has a record in front
first-record : (s : List ℕ) → 0 < length s → records_of s ≡ take bytes16 s ∷ records_of (drop bytes16 s)
unfolding records_of first_records record_count places
first-record s h =
    let n : record_count (length s) ≡ suc (record_count (length (drop bytes16 s))) = omega (arith, length-drop bytes16 s) in
    rw n

no_record : (s : List ℕ) → length s ≡ 0 → records_of s ≡ []
unfolding records_of first_records record_count places
no_record s h = rw (nil_from_length s h)

-- the records of what is left are still to be applied and counted
pub record Taking (s xs was m a left : List ℕ) : Type 0 where
  pub same : length m ≡ length xs
  pub long : length a ≡ length was
  pub memory : memory_taken xs was (records_of s) ≡ memory_taken m a (records_of left)
  pub account : account_taken xs was (records_of s) ≡ account_taken m a (records_of left)

pub taking-none : {s left : List ℕ} (xs was : List ℕ) → left ≡ s → Taking s xs was xs was left
taking-none xs was is = rw is (record { same = refl; long = refl; memory = refl; account = refl })

pub taking-on : {s xs was m a left : List ℕ} → Taking s xs was m a left → (piece rest : List ℕ) → left ≡ piece ++ rest
    → length piece ≡ min bytes16 (length left) → 0 < length left → (m' a' : List ℕ) → length m' ≡ length m → length a' ≡ length a
    → m' ≡ tabled_memory m a (read16_of piece) → a' ≡ account_of m a (read16_of piece) → Taking s xs was m' a' rest
unfolding memory_taken account_taken
taking-on {s} {xs} {was} {m} {a} {left} w piece rest is cuts some m' a' k l p q =
    let c : (take bytes16 left ≡ piece) × (drop bytes16 left ≡ rest) = cut is cuts in
    let here : records_of left ≡ piece ∷ records_of rest =
    first-record left some ∙ ap₂ (λ (r others : List ℕ). r ∷ records_of others) c.0 c.1
    in
    record {
      same = k ∙ w.same;
      long = l ∙ w.long;
      memory = w.memory ∙ ap (memory_taken m a) here ∙ ap₂ (λ (x y : List ℕ). memory_taken x y (records_of rest)) (sym p) (sym q);
      account = w.account ∙ ap (account_taken m a) here ∙ ap₂ (λ (x y : List ℕ). account_taken x y (records_of rest)) (sym p) (sym q);
    }

pub taking-end : {s xs was m a left : List ℕ} → Taking s xs was m a left → length left ≡ 0
    → (m ≡ memory_taken xs was (records_of s)) × (a ≡ account_taken xs was (records_of s))
unfolding memory_taken account_taken
taking-end {s} {xs} {was} {m} {a} {left} w h =
    let none = no_record left h in
    (sym (w.memory ∙ ap (memory_taken m a) none), sym (w.account ∙ ap (account_taken m a) none))

-- ---- an input that comes in pieces

taken-append : (xs account : List ℕ) (rs ts : List (List ℕ))
    → (memory_taken xs account (rs ++ ts) ≡ memory_taken (memory_taken xs account rs) (account_taken xs account rs) ts)
    × (account_taken xs account (rs ++ ts) ≡ account_taken (memory_taken xs account rs) (account_taken xs account rs) ts)
unfolding memory_taken account_taken
taken-append xs account [] ts = (refl, refl)
taken-append xs account (s ∷ rs) ts = taken-append (tabled_memory xs account (read16_of s)) (account_of xs account (read16_of s)) rs ts

-- a piece of whole records, and then the rest of the input, leave what the input leaves in one go
pub pieces : (n : ℕ) (xs account a b : List ℕ) → length a ≡ n * bytes16
    → (memory_taken xs account (records_of (a ++ b)) ≡ memory_taken (memory_taken xs account (records_of a)) (account_taken xs account (records_of a)) (records_of b))
    × (account_taken xs account (records_of (a ++ b)) ≡ account_taken (memory_taken xs account (records_of a)) (account_taken xs account (records_of a)) (records_of b))
pieces n xs account a b h = rw (records-append n a b h) (taken-append xs account (records_of a) (records_of b))
