-- `text::fields::is_same` meets its contract: the words are the same if the bytes before are alike and what is left is the same. Assumes nothing.
use Rattle.std.proofs.Common.{◌≡◌, ◌&&◌, length}
use Rattle.laws.specs.Lists.{same}
use Rattle.text.proofs.fields.is_same.Given as goal

abbrev pub invariant-loop-x : goal.invariant-loop-x
invariant-loop-x l =
    (same l.one l.other ≡ (l.alike && same l.x-iterator.a.rest.now l.x-iterator.b.rest.now))
    × (length l.x-iterator.a.rest.now ≡ length l.x-iterator.b.rest.now)
