-- `store_commit::merge::merge_bytes` meets its contract. The move opens a gap, and the key and the value fill its end. Assumes nothing.
use Rattle.store_memtable.proofs.Merging.{bytes_merged_lem}
use Rattle.store_commit.proofs.merge.merge_bytes.Goals as goal

pub returns : goal.returns
returns c = search bytes_merged_lem
