-- `store_commit::merge::write_row` meets its contract. Four stores in a row. Assumes nothing.
use Rattle.store_memtable.proofs.Moves.{row_put}
use Rattle.store_commit.proofs.merge.write_row.Goals as goal

pub returns : goal.returns
returns c = search row_put
