-- `output::put_name` meets its contract: the comma is written after the name. Assumes nothing.
use mathlib.Core.Path.{refl}
use mathlib.Core.List.{[], ◌∷◌}
use Rattle.text.specs.Digits.{name_bytes}
use Rattle.text.proofs.Written.{then-written}
use Rattle.writing.proofs.put_name.Goals as goal

pub returns : goal.returns
returns c =
    let w = c.put_name-next in
    let a = c.args in
    let told = then-written a.room.now (name_bytes a.name) (44 ∷ []) a.at w.ensures.value w.ensures.room_after refl refl in
    record { value = told.0; room_after = told.1 }
