-- Two values that a contract says are one are equal. Assumes nothing.
use mathlib.Core.Path.{◌≡◌, sym, ◌∙◌}

pub alike : {A : Type 0} {x y z : A} → x ≡ z → y ≡ z → x ≡ y
alike p q = p ∙ sym q
