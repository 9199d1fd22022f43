-- `output::put_end` meets its contract: a kind by its case, and for an absolute rule whether anything follows. Assumes nothing.
use Prim.Native.Nat.{◌+◌, ◌<◌}
use mathlib.Core.Path.{◌≡◌, refl, sym, ap, ◌∙◌}
use mathlib.Core.List.{[], ◌∷◌, ◌++◌}
use native.Mathlib.Nat.{add-zero, pos_of_ne-zero}
use native.Mathlib.Omega.{arith}
use lib.ListN.{length, length-set}
use Rattle.text.specs.Digits.{decimal}
use Rattle.text.proofs.Written.{then-written}
use Rattle.writing.specs.Inner.Parts.{letters_text, end_text}
use Rattle.writing.proofs.Cut.{as-text, end-rate, rate-long, end_none, end_more}
use Rattle.writing.proofs.put_end.Goals.{Else-letters_size-eq0}
use Rattle.writing.proofs.put_end.Goals as goal

-- an absolute rule with something after its time limit
more : (c : Else-letters_size-eq0) → let a = c.args in end_text a.kind a.scope ≡ 44 ∷ letters_text a.scope
more c =
    let a = c.args in
    let some : 0 < length (letters_text a.scope) = omega (arith, c.letters_size.ensures, pos_of_ne-zero c.if-letters_size-eq0.false) in
    ap (λ k. end_text k a.scope) c.in-Absolute.is ∙ end_more a.scope some

pub bounds-room-at : goal.bounds-room-at
bounds-room-at c =
    omega (arith, c.requires, ap (λ k. length (end_text k c.args.scope)) c.in-Rate.is ∙ rate-long c.in-Rate.window c.args.scope)

pub put_decimal-next-requires : goal.put_decimal-next-requires
put_decimal-next-requires c =
    simp length-set (omega (arith, c.requires, ap (λ k. length (end_text k c.args.scope)) c.in-Rate.is ∙ rate-long c.in-Rate.window c.args.scope))

pub put_letters-requires : goal.put_letters-requires
put_letters-requires c =
    omega (arith, c.requires, c.put_decimal-next.ensures.value, c.put_decimal-next.auto.room, length-set c.args.room.now c.args.at 44, ap (λ k. length (end_text k c.args.scope)) c.in-Rate.is ∙ rate-long c.in-Rate.window c.args.scope)

pub returns-then-letters_size-eq0 : goal.returns-then-letters_size-eq0
returns-then-letters_size-eq0 c =
    let a = c.args in
    let none = ap (λ k. end_text k a.scope) c.in-Absolute.is ∙ end_none a.scope (sym c.letters_size.ensures ∙ c.if-letters_size-eq0.true) in
    let told = as-text (sym none) a.room.now a.at (sym (add-zero a.at)) refl in
    record { value = told.0; room_after = told.1 }

pub bounds-room-at-in-Absolute : goal.bounds-room-at-in-Absolute
bounds-room-at-in-Absolute c = omega (arith, c.requires, ap length (more c))

pub put_letters-requires-in-Absolute : goal.put_letters-requires-in-Absolute
put_letters-requires-in-Absolute c =
    simp length-set (omega (arith, c.requires, ap length (more (goal.at.put_letters-requires-in-Absolute c).Else-letters_size-eq0)))

pub shape_of-room-in-Rate : goal.shape_of-room-in-Rate
shape_of-room-in-Rate c =
    let a = c.args in
    c.put_letters.auto.room ∙ c.put_decimal-next.auto.room ∙ length-set a.room.now a.at 44

pub returns-in-Rate : goal.returns-in-Rate
returns-in-Rate c =
    let a = c.args in
    let window = c.in-Rate.window in
    let letters = then-written _ (decimal window) (letters_text a.scope) (a.at + 1) c.put_decimal-next.ensures.value c.put_decimal-next.ensures.room_after c.put_letters.ensures.value c.put_letters.ensures.room_after in
    let all = then-written a.room.now (44 ∷ []) (decimal window ++ letters_text a.scope) a.at refl refl letters.0 letters.1 in
    let told = as-text (sym (ap (λ c. end_text c a.scope) c.in-Rate.is ∙ end-rate window a.scope)) a.room.now a.at all.0 all.1 in
    record { value = told.0; room_after = told.1 }

pub shape_of-room-else-letters_size-eq0 : goal.shape_of-room-else-letters_size-eq0
shape_of-room-else-letters_size-eq0 c =
    let a = c.args in
    c.put_letters-in-Absolute.auto.room ∙ length-set a.room.now a.at 44

pub returns-else-letters_size-eq0 : goal.returns-else-letters_size-eq0
returns-else-letters_size-eq0 c =
    let a = c.args in
    let all = then-written a.room.now (44 ∷ []) (letters_text a.scope) a.at refl refl c.put_letters-in-Absolute.ensures.value c.put_letters-in-Absolute.ensures.room_after in
    let told = as-text (sym (more (goal.at.returns-else-letters_size-eq0 c).Else-letters_size-eq0)) a.room.now a.at all.0 all.1 in
    record { value = told.0; room_after = told.1 }
