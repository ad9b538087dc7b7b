-- `command_writes::write::set_row` meets its contract. Four stores in a row. Assumes nothing.
use Rattle.command_writes.proofs.RowLaws.{row_set}
use Rattle.command_writes.proofs.write.set_row.Goals as goal

pub returns : goal.returns
returns c = search row_set
