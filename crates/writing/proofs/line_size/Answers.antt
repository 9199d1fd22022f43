-- `output::line_size` meets its contract: the sizes of the line's parts are its size. Assumes nothing.
use mathlib.Core.Path.{ap, ◌∙◌}
use native.Mathlib.Omega.{arith}
use mathlib.Core.List.{[], ◌∷◌}
use lib.ListN.{length, length-append}
use Rattle.text.specs.Digits.{decimal}
use Rattle.text.proofs.Decimal.{decimal-few}
use Rattle.given.proofs.Names.{name-few}
use Rattle.writing.specs.Writing.{type_name}
use Rattle.writing.specs.Inner.Parts.{names_of}
use Rattle.writing.proofs.Cut.{type-few, end-few, line-long}
use Rattle.writing.proofs.line_size.Goals as goal

pub overflow_add-result : goal.overflow_add-result
overflow_add-result c = omega (arith, c.name_size.ensures, name-few c.args.firm, ap length c.type_words.ensures, length-append (type_name c.args.rule.kind c.args.rule.limit) (44 ∷ []), type-few c.args.rule.kind c.args.rule.limit)

pub overflow_add-result-2 : goal.overflow_add-result-2
overflow_add-result-2 c = omega (arith, c.name_size.ensures, name-few c.args.firm, ap length c.type_words.ensures, length-append (type_name c.args.rule.kind c.args.rule.limit) (44 ∷ []), type-few c.args.rule.kind c.args.rule.limit, c.name_size-2.ensures, name-few c.name_in-name.result)

pub overflow_add-result-3 : goal.overflow_add-result-3
overflow_add-result-3 c = omega (arith, c.name_size.ensures, name-few c.args.firm, ap length c.type_words.ensures, length-append (type_name c.args.rule.kind c.args.rule.limit) (44 ∷ []), type-few c.args.rule.kind c.args.rule.limit, c.name_size-2.ensures, name-few c.name_in-name.result, c.decimal_size.ensures, decimal-few c.limit_number.result)

pub overflow_add-result-4 : goal.overflow_add-result-4
overflow_add-result-4 c = omega (arith, c.name_size.ensures, name-few c.args.firm, ap length c.type_words.ensures, length-append (type_name c.args.rule.kind c.args.rule.limit) (44 ∷ []), type-few c.args.rule.kind c.args.rule.limit, c.name_size-2.ensures, name-few c.name_in-name.result, c.decimal_size.ensures, decimal-few c.limit_number.result, c.end_size.ensures, end-few c.args.rule.kind c.args.rule.scope)

pub overflow_add-result-5 : goal.overflow_add-result-5
overflow_add-result-5 c = omega (arith, c.name_size.ensures, name-few c.args.firm, ap length c.type_words.ensures, length-append (type_name c.args.rule.kind c.args.rule.limit) (44 ∷ []), type-few c.args.rule.kind c.args.rule.limit, c.name_size-2.ensures, name-few c.name_in-name.result, c.decimal_size.ensures, decimal-few c.limit_number.result, c.end_size.ensures, end-few c.args.rule.kind c.args.rule.scope)

pub returns : goal.returns
returns c = omega (arith, c.name_size.ensures, ap length c.type_words.ensures, length-append (type_name c.args.rule.kind c.args.rule.limit) (44 ∷ []), c.name_size-2.ensures ∙ ap length c.name_in-name.ensures, c.decimal_size.ensures ∙ ap (λ n. length (decimal n)) c.limit_number.ensures, c.end_size.ensures, line-long c.args.firm (names_of c.args.roots.now) c.args.rule)
