-- `packing::entry_of` meets its contract: each field stands where the shift and the mask take it from. Assumes nothing.
use Rattle.std.proofs.Common.{sym}
use Rattle.packing.proofs.EntryPlace.{entry_in_lem}
use Rattle.packing.proofs.entry_of.Goals as goal

pub returns : goal.returns
returns c = sym (entry_in_lem _ _ _)
