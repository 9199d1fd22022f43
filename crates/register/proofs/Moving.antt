-- Numbers that have gone two places up, and the two that become 0. Assumes nothing.
use Prim.Native.Nat.{ℕ, ◌-◌, ◌≤◌}
use mathlib.Core.Path.{◌≡◌, ap, ap₂, ◌∙◌}
use mathlib.Core.List.{List, ◌++◌, append-nil}
use native.Mathlib.Omega.{arith}
use lib.ListN.{length, take, drop, length-append, length-drop, drop_of_length-le, replicate}
use lib.Seq.{take_all, take_at, length-take-le}
use borrow.Rule.Slice.PartMut.{put_mid, Post-is}
use Rattle.tables.specs.Inner.Tables.{zeros}

-- all have moved, and the last two become 0
pub moved_all : (s t z : List ℕ) → 2 ≤ length s → let n = length s - 2 in t ≡ take n (drop 2 s) ++ drop n s
    → z ≡ replicate (length (take (length t - n) (drop n t))) 0 → put_mid n (length t - n) t z ≡ drop 2 s ++ zeros 2
unfolding zeros
moved_all s t z some is none =
    let n = length s - 2 in
    let long : length (drop 2 s) ≡ n = length-drop 2 s in
    let all : take n (drop 2 s) ≡ drop 2 s = take_all n (drop 2 s) (omega arith) in
    let front : take n t ≡ drop 2 s = ap (take n) (is ∙ ap (λ (l : List ℕ). l ++ drop n s) all) ∙ take_at (drop 2 s) (drop n s) n long in
    let many : length t ≡ length s = omega (arith, ap length is, length-append (take n (drop 2 s)) (drop n s), ap length all, length-drop n s) in
    let two : length (take (length t - n) (drop n t)) ≡ 2 = length-take-le (length t - n) (drop n t) (omega (arith, length-drop n t)) ∙ omega arith in
    ap₂ (λ (a b : List ℕ). a ++ (z ++ b)) front (Post-is n (length t) t (omega arith) ∙ drop_of_length-le t {i = length t} (omega arith))
    ∙ ap (λ (l : List ℕ). drop 2 s ++ l) (append-nil z ∙ none ∙ ap (λ (k : ℕ). replicate k 0) two)
