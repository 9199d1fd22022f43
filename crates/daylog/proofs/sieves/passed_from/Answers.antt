-- `daylog::passed_from` meets its contract: in order of time a reading passes all entries that are not before its first time. Assumes nothing.
use Prim.Native.Nat.{ℕ}
use mathlib.Core.Path.{◌≡◌, sym, ap, ◌∙◌}
use mathlib.Core.Bool.{Bool, true, ◌&&◌}
use mathlib.Core.List.{List}
use lib.Dec.{eqb, ltb}
use lib.ListN.{length}
use borrow.Author.Tests.{ltb-true, eqb-true}
use Rattle.laws.proofs.Tests.{and_l, and_r}
use Rattle.machine.specs.declared.Entry.{Entry}
use Rattle.machine.specs.Entries.{are_ordered}
use Rattle.daylog.specs.declared.Memo.{Memo}
use Rattle.daylog.specs.Newest.{newest}
use Rattle.daylog.specs.Inner.Log.{entries_of}
use Rattle.daylog.specs.Inner.Memo.{reading_since, Passed}
use Rattle.daylog.proofs.Memos.{passed-many}
use Rattle.daylog.proofs.sieves.passed_from.Goals as goal

-- a memo with the first time says so
told : (es : List Entry) (clock : ℕ) → are_ordered 0 clock es ≡ true → (m : Memo) (from : ℕ) → Passed es m → {b : Bool} → b ≡ (ltb 0 m.sieve.mask && eqb m.sieve.from from)
    → b ≡ true → m.passed ≡ length (newest from es)
told es clock ordered m from right is taken =
    let both = sym is ∙ taken in
    let some = ltb-true 0 m.sieve.mask (and_l (ltb 0 m.sieve.mask) (eqb m.sieve.from from) both) in
    let same = eqb-true m.sieve.from from (and_r (ltb 0 m.sieve.mask) (eqb m.sieve.from from) both) in
    right some ∙ ap (λ (n : ℕ). reading_since n es) same ∙ passed-many from clock es ordered

pub returns-then-before-from : goal.returns-then-before-from
returns-then-before-from c =
    let s = c in
    let es = entries_of s.args.k s.args.log.now in
    s.requires.2.read ∙ ap (λ (n : ℕ). reading_since n es) c.if-before-from.true ∙ passed-many s.args.from s.requires.3.0 es s.requires.3.1

pub returns-then-has_read : goal.returns-then-has_read
returns-then-has_read c =
    let s = c in
    let es = entries_of s.args.k s.args.log.now in
    told es s.requires.3.0 s.requires.3.1 s.args.before.last s.args.from s.requires.2.last-passed c.has_read.ensures c.if-has_read.true

pub returns-then-has_read-2 : goal.returns-then-has_read-2
returns-then-has_read-2 c =
    let s = c in
    let es = entries_of s.args.k s.args.log.now in
    told es s.requires.3.0 s.requires.3.1 s.args.before.other s.args.from s.requires.2.other-passed c.has_read-2.ensures c.if-has_read-2.true
