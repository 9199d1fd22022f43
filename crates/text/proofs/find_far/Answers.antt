-- `text::find_far` meets its contract: the bytes that were passed have no b. Assumes nothing.
use Rattle.std.proofs.Common.{ℕ, ◌≡◌, ◌∙◌, ◌+◌, ◌-◌, ◌/◌, ◌<◌, [], get_or, take, drop, length, length-take, length-drop, ap, arith, refl}
use Rattle.std.proofs.lemmas.List.{take_rest}
use Rattle.text.specs.Text.{index_of}
use Rattle.text.proofs.Lists.{index-le, eight-at, eight-behind, rest-from}
use Rattle.text.proofs.find_far.Goals as goal

pub loop-eight-init : goal.loop-eight-init
loop-eight-init c = (refl, omega arith)

pub loop-eight-preserved : goal.loop-eight-preserved
loop-eight-preserved c =
    let all = take (length c.args.s.now - c.min.result) (drop c.min.result c.args.s.now) in
    let i = c.loop-eight.eight-index in
    let before = c.loop-eight.invariant in
    let within : i < length all / 8 = omega (arith, c.loop-eight-test.true, c.as_chunks.ensures.front_len) in
    let eight : get_or c.as_chunks.result.0.now i [] ≡ take 8 (drop c.loop-eight.far all) =
    ap (λ l. get_or l i []) c.as_chunks.ensures.front ∙ eight-at (length all / 8) i all within ∙ ap (λ (n : ℕ). take 8 (drop n all)) (omega (arith, before.0)) in
    (omega (arith, before.0), omega (arith, before.1, eight-behind c.args.b all _ c.loop-eight.far eight (omega (arith, before.0, within)) (c.is_near.ensures c.if-is_near.false)))

pub overflow_add-result-2 : goal.overflow_add-result-2
overflow_add-result-2 c =
    let s = c.args.s.now in
    let all = take (length s - c.min.result) (drop c.min.result s) in
    let rest = take (length all - c.loop-eight.far) (drop c.loop-eight.far all) in
    omega (arith, c.index_of.ensures, index-le c.args.b rest, length-take (length all - c.loop-eight.far) (drop c.loop-eight.far all), length-take (length s - c.min.result) (drop c.min.result s), length-drop c.min.result s)

pub returns : goal.returns
returns c =
    let s = c.args.s.now in
    let all = take (length s - c.min.result) (drop c.min.result s) in
    let whole : all ≡ drop c.args.from s = rw c.min.ensures (rest-from s c.args.from) in
    let rest : c.index_of.result ≡ index_of c.args.b (drop c.loop-eight.far all) = c.index_of.ensures ∙ ap (index_of c.args.b) (take_rest all c.loop-eight.far) in
    let here : c.args.from + c.loop-eight.far + c.index_of.result ≡ c.args.from + index_of c.args.b all = omega (arith, c.loop-eight.invariant.1, rest) in
    here ∙ ap (λ l. c.args.from + index_of c.args.b l) whole
