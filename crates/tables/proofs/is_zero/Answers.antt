-- `tables::is_zero` meets its contract: what is joined so far and what is left are 0 exactly if all is. Assumes nothing.
use Prim.Native.Nat.{ℕ, ◌+◌, ◌*◌, ◌-◌, ◌%◌}
use mathlib.Core.Path.{◌≡◌, sym, ap, ◌∙◌}
use mathlib.Core.List.{[], ◌∷◌, ◌++◌}
use native.Mathlib.Omega.{arith}
use lib.Bits.{bit_or}
use lib.Dec.{eqb}
use lib.ListN.{length, drop, length-append, length-drop}
use lib.Seq.{drop_at, drop-drop}
use Rattle.std.proofs.Common.{rules}
use Rattle.std.specs.List.{fold}
use Rattle.tables.proofs.AllZero.{eight-start, eight-on, eight-end}
use Rattle.tables.proofs.is_zero.Goals.{In-Some, In-None}
use Rattle.tables.proofs.is_zero.Goals as goal

pub loop-eight-init : goal.loop-eight-init
loop-eight-init c =
    let all : c.into_iter-eight-iterator.result.rest.now ≡ c.args.s.now = search rules in
    record { size = search rules; passed = omega arith; left = all; value = rw all (eight-start _) }

-- the next eight, and what is left after it
module _ (c : In-Some) where
  next-eight : length c.in-Some.eight.now ≡ 8
  next-eight = c.in-Some.ensures.steps.1.1 ∙ c.loop-eight.invariant.size

  more : length (c.loop-eight.yielded ++ (c.in-Some.eight ∷ [])) * 8 ≡ length c.loop-eight.yielded * 8 + 8
  more = omega (arith, length-append c.loop-eight.yielded (c.in-Some.eight ∷ []))

  split : drop (length c.loop-eight.yielded * 8) c.args.s.now ≡ c.in-Some.eight.now ++ c.next.new.self.rest.now
  split = sym c.loop-eight.invariant.left ∙ c.in-Some.ensures.steps.1.0

pub loop-eight-preserved : goal.loop-eight-preserved
loop-eight-preserved c =
    let i = (goal.at.loop-eight-preserved c).In-Some in
    let s = c.args.s.now in
    let k = length c.loop-eight.yielded in
    let l = c.loop-eight in
    record {
      size = c.in-Some.ensures.steps.0 ∙ l.invariant.size;
      passed = omega (arith, more i, next-eight i, ap length (split i), length-append c.in-Some.eight.now c.next.new.self.rest.now, length-drop (k * 8) s);
      left = sym (drop_at c.in-Some.eight.now _ 8 (next-eight i)) ∙ ap (drop 8) (sym (split i)) ∙ drop-drop 8 (k * 8) s ∙ ap (λ (n : ℕ). drop n s) (sym (more i));
      value = sym (eight-on l.a l.b l.c l.d l.e l.f l.g l.h _ _ (next-eight i)) ∙ rw (← c.in-Some.ensures.steps.1.0) l.invariant.value;
    }

pub returns : goal.returns
returns c =
    let s = c.args.s.now in
    let l = c.loop-eight in
    let few = c.in-None.ensures.steps.1.0 in
    let last : length s - length s % 8 ≡ length l.yielded * 8 = omega (arith, few, l.invariant.size, l.invariant.passed, ap length l.invariant.left, length-drop (length l.yielded * 8) s) in
    let rest : c.remainder-rest.result.now ≡ l.eight-iterator.rest.now = c.remainder-rest.ensures ∙ c.chunks_exact-eights.ensures.remainder ∙ ap (λ (n : ℕ). drop n s) last ∙ sym l.invariant.left in
    let all : c.fold.result ≡ fold bit_or (bit_or (bit_or (bit_or (bit_or (bit_or (bit_or (bit_or l.a l.b) l.c) l.d) l.e) l.f) l.g) l.h) c.remainder-rest.result.now = search rules in
    ap (λ (x : ℕ). eqb x 0) (all ∙ ap (fold bit_or _) rest) ∙ eight-end l.a l.b l.c l.d l.e l.f l.g l.h _ ∙ l.invariant.value
