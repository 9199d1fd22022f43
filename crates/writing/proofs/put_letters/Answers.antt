-- `output::put_letters` meets its contract: a scope by its case. Assumes nothing.
use Prim.Native.Nat.{ℕ}
use mathlib.Core.Path.{refl, sym, ap, ap₂, ◌∙◌}
use mathlib.Core.List.{[], ◌∷◌}
use native.Mathlib.Nat.{add-zero}
use native.Mathlib.Omega.{arith}
use lib.ListN.{length}
use Rattle.writing.specs.Inner.Parts.{letters_text}
use Rattle.writing.proofs.Cut.{as-text, letters-every, letters-whole, letters-unit}
use Rattle.writing.proofs.put_letters.Goals as goal

pub put_words-requires : goal.put_words-requires
put_words-requires c =
    omega (arith, c.requires, ap (λ s. length (letters_text s)) c.in-EveryFill.is, ap length letters-every)

pub put_words-requires-in-OneUnit : goal.put_words-requires-in-OneUnit
put_words-requires-in-OneUnit c =
    let told = ap (λ s. length (letters_text s)) c.in-OneUnit.is ∙ ap length (letters-unit _ c.in-OneUnit.unit) in
    omega (arith, c.requires, told)

pub returns-in-EveryFill : goal.returns-in-EveryFill
returns-in-EveryFill c =
    let w = c.put_words in
    let a = c.args in
    let told = as-text (sym (ap letters_text c.in-EveryFill.is ∙ letters-every)) a.room.now a.at w.ensures.value w.ensures.room_after in
    record { value = told.0; room_after = told.1 }

pub returns-in-WholeRoot : goal.returns-in-WholeRoot
returns-in-WholeRoot c =
    let a = c.args in
    let told = as-text (sym (ap letters_text c.in-WholeRoot.is ∙ letters-whole _)) a.room.now a.at (sym (add-zero a.at)) refl in
    record { value = told.0; room_after = told.1 }

pub returns-in-OneUnit : goal.returns-in-OneUnit
returns-in-OneUnit c =
    let w = c.put_words-in-OneUnit in
    let a = c.args in
    let told = as-text
    (ap₂ (λ (call front : ℕ). 44 ∷ 44 ∷ call ∷ 44 ∷ front ∷ []) c.call_put.ensures c.month.ensures
    ∙ sym (ap letters_text c.in-OneUnit.is ∙ letters-unit _ c.in-OneUnit.unit))
    a.room.now a.at w.ensures.value w.ensures.room_after in
    record { value = told.0; room_after = told.1 }
