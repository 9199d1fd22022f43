-- `figures::rows::put_row` meets its contract: what is copied over a part of the account is the row's numbers. Assumes nothing.
use Rattle.std.proofs.Common.{ℕ, ◌≡◌, ◌+◌, ◌≤◌, ◌∙◌, ◌++◌, List, length, take, drop, sym, ap, refl, arith}
use Rattle.std.proofs.Math.Seq.{take-length}
use Rattle.std.proofs.lemmas.List.Edits.{sets, sets-eq}
use Rattle.std.proofs.lemmas.Slice.{put_mid-paste}
use borrow.Rule.Slice.PartMut.{put_mid}
use Rattle.figures.specs.Figures.{row_numbers}
use Rattle.figures.proofs.rows.put_row.Goals as goal

written : (xs vs ys : List ℕ) (at k : ℕ) → ys ≡ vs → length vs ≡ k → at + length vs ≤ length xs → put_mid at k xs ys ≡ sets xs at vs
written xs vs ys at k same long h =
    put_mid-paste at k xs ys vs (length vs) same long refl
    ∙ ap (λ (l : List ℕ). take at xs ++ l ++ drop (at + length vs) xs) (take-length vs) ∙ sym (sets-eq vs xs at h)

pub returns : goal.returns
unfolding row_numbers
returns c =
    written c.args.a.now (row_numbers c.args.f) c.copy_from_slice.new.self c.args.at _ (c.copy_from_slice.ensures.after ∙ c.from.ensures)
    (omega arith) c.requires
