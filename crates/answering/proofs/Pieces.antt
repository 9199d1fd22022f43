-- An input that is answered piece by piece: pieces of whole records print what the input prints in one go. Assumes nothing.
use Prim.Native.Nat.{ℕ, zero, suc, ◌+◌, ◌*◌, ◌^◌, ◌≤◌, ◌<◌}
use mathlib.Core.Path.{◌≡◌, refl, sym, ap, ◌∙◌}
use mathlib.Core.List.{List, [], ◌∷◌, ◌++◌, append_assoc}
use native.Mathlib.Nat.{add-zero, zero-add, suc-add}
use native.Mathlib.Omega.{arith}
use lib.ListN.{length, take, drop, length-append, length-drop}
use lib.Seq.{take-append-le, drop-append-le}
use Rattle.tables.specs.Inner.Tables.{places}
use Rattle.records.specs.Event16.{bytes16}
use Rattle.answering.specs.Lines.{record_line}
use Rattle.answering.specs.Run.{record_answer, record_memory, record_count, first_records, records_of, fitting, taken, memory_after, lines_of}

pub memory-append : (xs : List ℕ) (rs ts : List (List ℕ)) → memory_after xs (rs ++ ts) ≡ memory_after (memory_after xs rs) ts
unfolding memory_after
memory-append xs [] ts = refl
memory-append xs (s ∷ rs) ts = memory-append (record_memory xs s) rs ts

pub lines-append : (place : ℕ) (xs : List ℕ) (rs ts : List (List ℕ))
    → lines_of place xs (rs ++ ts) ≡ lines_of place xs rs ++ lines_of (place + length rs) (memory_after xs rs) ts
unfolding lines_of memory_after
lines-append place xs [] ts = ap (λ (n : ℕ). lines_of n xs ts) (sym (add-zero place))
lines-append place xs (s ∷ rs) ts =
    let line = record_line place (record_answer xs s) in
    let after = memory_after (record_memory xs s) rs in
    let n : place + 1 + length rs ≡ place + suc (length rs) = omega arith in
    ap (λ (l : List ℕ). line ++ l) (lines-append (place + 1) (record_memory xs s) rs ts ∙ ap (λ (k : ℕ). lines_of (place + 1) (record_memory xs s) rs ++ lines_of k after ts) n)
    ∙ sym (append_assoc line (lines_of (place + 1) (record_memory xs s) rs) (lines_of (place + suc (length rs)) after ts))

-- whole records in front
places-append : (n k : ℕ) (a b : List ℕ) → length a ≡ n * bytes16
    → places bytes16 (take bytes16) (n + k) (a ++ b) ≡ places bytes16 (take bytes16) n a ++ places bytes16 (take bytes16) k b
unfolding places
places-append zero k [] b h = ap (λ (j : ℕ). places bytes16 (take bytes16) j b) (zero-add k)
places-append zero k (x ∷ a) b h = absurd (omega arith)
places-append (suc n) k a b h =
    let sixteen : bytes16 ≤ length a = omega arith in
    rw (suc-add n k, take-append-le bytes16 a b sixteen, drop-append-le bytes16 a b sixteen)
    (ap (λ (l : List (List ℕ)). take bytes16 a ∷ l) (places-append n k (drop bytes16 a) b (omega (arith, length-drop bytes16 a))))

pub records-append : (n : ℕ) (a b : List ℕ) → length a ≡ n * bytes16 → records_of (a ++ b) ≡ records_of a ++ records_of b
unfolding records_of first_records record_count
records-append n a b h =
    let all : record_count (length (a ++ b)) ≡ n + record_count (length b) = omega (arith, length-append a b) in
    let front : record_count (length a) ≡ n = omega arith in
    ap (λ (k : ℕ). places bytes16 (take bytes16) k (a ++ b)) all ∙ places-append n (record_count (length b)) a b h
    ∙ ap (λ (k : ℕ). places bytes16 (take bytes16) k a ++ places bytes16 (take bytes16) (record_count (length b)) b) (sym front)

-- a piece of whole records, and then the rest of the input
pub pieces : (place n : ℕ) (xs a b : List ℕ) → length a ≡ n * bytes16
    → (lines_of place xs (records_of (a ++ b)) ≡ lines_of place xs (records_of a) ++ lines_of (place + length (records_of a)) (memory_after xs (records_of a)) (records_of b))
    × (memory_after xs (records_of (a ++ b)) ≡ memory_after (memory_after xs (records_of a)) (records_of b))
pieces place n xs a b h =
    rw (records-append n a b h) (lines-append place xs (records_of a) (records_of b), memory-append xs (records_of a) (records_of b))

-- with room for a longest line each, and places left to count, a run answers every record of its input
pub taken-all : (place room : ℕ) (s : List ℕ) → record_count (length s) * 126 ≤ room → place + record_count (length s) < 2 ^ 64 → taken place s room ≡ records_of s
unfolding taken records_of fitting
taken-all place room s h k =
    let all : fitting place (length s) room ≡ record_count (length s) = omega arith in
    ap (λ (n : ℕ). first_records n s) all
