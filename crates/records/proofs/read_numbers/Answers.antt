-- `records::read_numbers` meets its contract: the fields of a record stand in the row. Assumes nothing.
use Rattle.records.proofs.Cases.{row_is, row-not}
use Rattle.records.proofs.read_numbers.Goals as goal

pub returns-in-Ok : goal.returns-in-Ok
returns-in-Ok c = row_is _ _ c.in-Ok.ensures

pub returns-in-Err : goal.returns-in-Err
returns-in-Err c = rw c.number.ensures (row-not _ _ c.in-Err.ensures)
