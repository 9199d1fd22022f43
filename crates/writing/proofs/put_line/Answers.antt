-- `output::put_line` meets its contract: the line's parts are written one after the other. Assumes nothing.
use Prim.Native.Nat.{ℕ}
use mathlib.Core.Path.{refl, sym, ap, ap₂, ◌∙◌}
use mathlib.Core.List.{List, [], ◌∷◌, ◌++◌}
use native.Mathlib.Omega.{arith}
use lib.ListN.{length, length-append, length-set}
use Rattle.text.specs.Digits.{name_bytes, decimal}
use Rattle.text.proofs.Written.{then-written}
use Rattle.writing.specs.Writing.{type_name}
use Rattle.writing.specs.Inner.Parts.{names_of, end_text}
use Rattle.writing.proofs.Cut.{as-text, line-parts, line-long}
use Rattle.writing.proofs.put_line.Goals as goal

pub put_name-to_type-requires : goal.put_name-to_type-requires
put_name-to_type-requires c = omega (arith, c.requires.rule_in_bounds, line-long c.args.firm (names_of c.args.roots.now) c.args.rule)

pub put_words-to_root-requires : goal.put_words-to_root-requires
put_words-to_root-requires c = omega (arith, ap length c.type_words.ensures, length-append (type_name c.args.rule.kind c.args.rule.limit) (44 ∷ []), c.requires.rule_in_bounds, line-long c.args.firm (names_of c.args.roots.now) c.args.rule, c.put_name-to_type.ensures.value, c.put_name-to_type.auto.room, length-append (name_bytes c.args.firm) (44 ∷ []))

pub put_name-to_limit-requires : goal.put_name-to_limit-requires
put_name-to_limit-requires c = omega (arith, c.requires.rule_in_bounds, line-long c.args.firm (names_of c.args.roots.now) c.args.rule, c.put_name-to_type.ensures.value, c.put_name-to_type.auto.room, length-append (name_bytes c.args.firm) (44 ∷ []), c.put_words-to_root.ensures.value, ap length c.type_words.ensures, c.put_words-to_root.auto.room, length-append (type_name c.args.rule.kind c.args.rule.limit) (44 ∷ []), ap length c.name_in-name.ensures)

pub put_decimal-to_end-requires : goal.put_decimal-to_end-requires
put_decimal-to_end-requires c = omega (arith, c.requires.rule_in_bounds, line-long c.args.firm (names_of c.args.roots.now) c.args.rule, c.put_name-to_type.ensures.value, c.put_name-to_type.auto.room, length-append (name_bytes c.args.firm) (44 ∷ []), c.put_words-to_root.ensures.value, ap length c.type_words.ensures, c.put_words-to_root.auto.room, length-append (type_name c.args.rule.kind c.args.rule.limit) (44 ∷ []), c.put_name-to_limit.ensures.value, c.put_name-to_limit.auto.room, length-append (name_bytes c.name_in-name.result) (44 ∷ []), ap length c.name_in-name.ensures, ap (λ n. length (decimal n)) c.limit_number.ensures)

pub put_end-end-requires : goal.put_end-end-requires
put_end-end-requires c = omega (arith, c.requires.rule_in_bounds, line-long c.args.firm (names_of c.args.roots.now) c.args.rule, c.put_name-to_type.ensures.value, c.put_name-to_type.auto.room, length-append (name_bytes c.args.firm) (44 ∷ []), c.put_words-to_root.ensures.value, ap length c.type_words.ensures, c.put_words-to_root.auto.room, length-append (type_name c.args.rule.kind c.args.rule.limit) (44 ∷ []), c.put_name-to_limit.ensures.value, c.put_name-to_limit.auto.room, length-append (name_bytes c.name_in-name.result) (44 ∷ []), c.put_decimal-to_end.ensures.value, c.put_decimal-to_end.auto.room, ap length c.name_in-name.ensures, ap (λ n. length (decimal n)) c.limit_number.ensures)

pub bounds-room-end : goal.bounds-room-end
bounds-room-end c = omega (arith, c.requires.rule_in_bounds, line-long c.args.firm (names_of c.args.roots.now) c.args.rule, c.put_name-to_type.ensures.value, c.put_name-to_type.auto.room, length-append (name_bytes c.args.firm) (44 ∷ []), c.put_words-to_root.ensures.value, ap length c.type_words.ensures, c.put_words-to_root.auto.room, length-append (type_name c.args.rule.kind c.args.rule.limit) (44 ∷ []), c.put_name-to_limit.ensures.value, c.put_name-to_limit.auto.room, length-append (name_bytes c.name_in-name.result) (44 ∷ []), c.put_decimal-to_end.ensures.value, c.put_decimal-to_end.auto.room, c.put_end-end.ensures.value, c.put_end-end.auto.room, ap length c.name_in-name.ensures, ap (λ n. length (decimal n)) c.limit_number.ensures)

pub overflow_add-result : goal.overflow_add-result
overflow_add-result c = omega (arith, c.requires.rule_in_bounds, line-long c.args.firm (names_of c.args.roots.now) c.args.rule, c.put_name-to_type.ensures.value, c.put_name-to_type.auto.room, length-append (name_bytes c.args.firm) (44 ∷ []), c.put_words-to_root.ensures.value, ap length c.type_words.ensures, c.put_words-to_root.auto.room, length-append (type_name c.args.rule.kind c.args.rule.limit) (44 ∷ []), c.put_name-to_limit.ensures.value, c.put_name-to_limit.auto.room, length-append (name_bytes c.name_in-name.result) (44 ∷ []), c.put_decimal-to_end.ensures.value, c.put_decimal-to_end.auto.room, c.put_end-end.ensures.value, c.put_end-end.auto.room, ap length c.name_in-name.ensures, ap (λ n. length (decimal n)) c.limit_number.ensures)

pub shape_of-room : goal.shape_of-room
shape_of-room c =
    simp length-set (c.put_end-end.auto.room ∙ c.put_decimal-to_end.auto.room ∙ c.put_name-to_limit.auto.room ∙ c.put_words-to_root.auto.room ∙ c.put_name-to_type.auto.room)

pub returns : goal.returns
returns c =
    let number = c.limit_number in
    let name = c.name_in-name in
    let a = c.args in
    let rule = a.rule in
    let type = type_name rule.kind rule.limit ++ (44 ∷ []) in
    let end = end_text rule.kind rule.scope in
    let lf = then-written c.put_decimal-to_end.new.room end (10 ∷ []) c.put_decimal-to_end.result c.put_end-end.ensures.value c.put_end-end.ensures.room_after refl refl in
    let limit = then-written c.put_name-to_limit.new.room (decimal number.result) (end ++ (10 ∷ [])) c.put_name-to_limit.result c.put_decimal-to_end.ensures.value c.put_decimal-to_end.ensures.room_after lf.0 lf.1 in
    let root = then-written c.put_words-to_root.new.room (name_bytes name.result ++ (44 ∷ [])) _ c.put_words-to_root.result c.put_name-to_limit.ensures.value c.put_name-to_limit.ensures.room_after limit.0 limit.1 in
    let typed = then-written c.put_name-to_type.new.room type _ c.put_name-to_type.result (rw c.type_words.ensures at c.put_words-to_root.ensures.value) (rw c.type_words.ensures at c.put_words-to_root.ensures.room_after) root.0 root.1 in
    let all = then-written a.room.now (name_bytes a.firm ++ (44 ∷ [])) _ a.at c.put_name-to_type.ensures.value c.put_name-to_type.ensures.room_after typed.0 typed.1 in
    let is =
    ap₂ (λ (n l : List ℕ). (name_bytes a.firm ++ (44 ∷ [])) ++ (type ++ ((n ++ (44 ∷ [])) ++ (l ++ (end ++ (10 ∷ [])))))) name.ensures (ap decimal number.ensures)
    ∙ sym (line-parts a.firm (names_of a.roots.now) rule) in
    let told = as-text is a.room.now a.at all.0 all.1 in
    record { value = told.0; room_after = told.1 }
