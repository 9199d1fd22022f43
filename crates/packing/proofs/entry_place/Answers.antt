-- `packing::entry_place` meets its contract: the entry's two numbers if it passes the test. Assumes nothing.
use Rattle.std.proofs.Common.{◌≡◌, ◌&&◌, sym, ◌∙◌}
use Rattle.tables.specs.Inner.Tables.{place_of, zeros}
use Rattle.packing.specs.EntryPlace.{entry_numbers}
use Rattle.machine.specs.Entries.{is_entry}
use Rattle.packing.proofs.EntryPlace.{entry-tested}
use Rattle.packing.proofs.entry_place.Goals.{After-is_in-2}
use Rattle.packing.proofs.entry_place.Goals as goal

tested : (c : After-is_in-2) → is_entry 64 c.args.e ≡ (c.is_in.result && c.are_ranged.result && c.is_in-2.result)
tested c = rw (c.is_in.ensures, c.are_ranged.ensures, c.is_in-2.ensures) (sym (entry-tested 64 c.args.e))

pub returns-then-not-is_in-are_ranged : goal.returns-then-not-is_in-are_ranged
unfolding place_of zeros
returns-then-not-is_in-are_ranged c = rw (tested (goal.at.returns-then-not-is_in-are_ranged c).After-is_in-2 ∙ c.if-not-is_in-are_ranged.true)

pub fill_word-requires : goal.fill_word-requires
fill_word-requires c = tested (goal.at.fill_word-requires c).After-is_in-2 ∙ c.if-not-is_in-are_ranged.false

pub amount_word-requires : goal.amount_word-requires
amount_word-requires c = tested (goal.at.amount_word-requires c).After-is_in-2 ∙ c.if-not-is_in-are_ranged.false

pub returns : goal.returns
unfolding place_of entry_numbers
returns c = rw (tested (goal.at.returns c).After-is_in-2 ∙ c.if-not-is_in-are_ranged.false, c.fill_word.ensures, c.amount_word.ensures)
