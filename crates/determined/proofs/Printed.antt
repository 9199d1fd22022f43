-- Writers that take bytes one behind the other, as a String does, are such as `OneAfter` asks for. Assumes nothing.
use Rattle.std.proofs.Common.{◌≡◌, ◌∙◌, sym, ap, List, [], ◌∷◌, ◌++◌, ℕ, append_assoc, append-nil}
use Rattle.std.specs.List.{FoldsTo, concat}
use Rattle.determined.specs.Determines.{OneAfter}

module _ {W : Type 0} (bytes_of : W → List ℕ) where
  abbrev appends : W → List ℕ → W → Type 0
  appends w bytes v = bytes_of v ≡ bytes_of w ++ bytes

  appended : (parts : List (List ℕ)) (w v : W) → FoldsTo appends w parts v → bytes_of v ≡ bytes_of w ++ concat parts
  appended [] w v same = ap bytes_of (sym same) ∙ sym (append-nil (bytes_of w))
  appended (part ∷ parts) w v (next, first, rest) = appended parts next v rest ∙ ap (λ s. s ++ concat parts) first ∙ append_assoc (bytes_of w) part (concat parts)

  pub one-after : OneAfter bytes_of (λ w bytes v. bytes_of v ≡ bytes_of w ++ bytes)
  one-after w u v bytes p q = appended p.parts w u p.calls ∙ ap (λ s. bytes_of w ++ s) (p.whole ∙ sym q.whole) ∙ sym (appended q.parts w v q.calls)
