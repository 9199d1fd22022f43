-- `records::sixteen::read16_numbers` meets its contract: the fields of a record stand in the row. Assumes nothing.
use Rattle.records.proofs.Cases.{row16-is, row16-not}
use Rattle.records.proofs.sixteen.read16_numbers.Goals as goal

pub returns-in-Ok : goal.returns-in-Ok
returns-in-Ok c = row16-is _ _ c.in-Ok.ensures

pub returns-in-Err : goal.returns-in-Err
returns-in-Err c = rw c.number.ensures (row16-not _ _ c.in-Err.ensures)
