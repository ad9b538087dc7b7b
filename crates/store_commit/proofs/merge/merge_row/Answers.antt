-- `store_commit::merge::merge_row` meets its contract. The move opens a gap, and the row fills its end. Assumes nothing.
use Rattle.store_memtable.proofs.Merging.{row_merged_lem}
use Rattle.store_commit.proofs.merge.merge_row.Goals as goal

pub returns : goal.returns
returns c = search row_merged_lem
