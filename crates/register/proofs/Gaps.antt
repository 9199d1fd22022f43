-- The gaps of an order's two numbers are clear just if these are an order's. Assumes nothing.
use Prim.Native.Nat.{ℕ, ◌+◌, ◌/◌, ◌%◌, ◌<◌, min}
use mathlib.Core.Path.{◌≡◌, sym, ap₂, ◌∙◌}
use mathlib.Core.Bool.{Bool, ◌&&◌}
use mathlib.Core.List.{[], ◌∷◌}
use native.Mathlib.Omega.{arith}
use lib.Bits.{bit_or}
use Rattle.measures.specs.Ranges.{premiums}
use Rattle.packing.specs.Gaps.{gap_of, is_clear, range_gaps}
use Rattle.packing.proofs.Gaps.{or-clear, gap-clear, range_clear, root-clear}
use Rattle.register.specs.SentPlace.{is_sent_place, sent_gaps}
use Rattle.register.proofs.SentPlace.{sent-place}

pub sent-clear : (roots first second : ℕ) → first < 18_446_744_073_709_551_616 → second < 18_446_744_073_709_551_616
    → is_clear (sent_gaps roots first second) ≡ is_sent_place roots (first ∷ second ∷ [])
unfolding sent_gaps
sent-clear roots first second fits fits-too =
    let both : Bool → Bool → Bool = λ a b. a && b in
    let identity = gap_of 65_535 (first / 8192) in
    let root = gap_of (min roots 64) (first / 128 % 64 + 1) in
    let reports = gap_of 16 (first % 32) in
    let premium = range_gaps premiums (second / 1_048_576) in
    let contracts = gap_of 1_000_000 (second % 1_048_576) in
    or-clear (bit_or (bit_or (bit_or identity root) reports) premium) contracts
    ∙ ap₂ both
    (or-clear (bit_or (bit_or identity root) reports) premium
    ∙ ap₂ both
    (or-clear (bit_or identity root) reports
    ∙ ap₂ both
    (or-clear identity root ∙ ap₂ both (gap-clear 65_535 (first / 8192) (omega arith) (omega arith)) (root-clear roots (first / 128 % 64) (omega arith)))
    (gap-clear 16 (first % 32) (omega arith) (omega arith)))
    (range_clear premiums (second / 1_048_576) (omega arith) (omega arith) (omega arith)))
    (gap-clear 1_000_000 (second % 1_048_576) (omega arith) (omega arith))
    ∙ sym (sent-place roots first second [])
