-- `group_merge::writes_size` meets its contract. What the writes leave of the free bytes says their size. Assumes nothing.
use Rattle.std.proofs.Common.{rules}
use Rattle.store_memtable.specs.Rows.{bytes_left}
use Rattle.group_merge.proofs.writes_size.Goals as goal

pub overflow_sub-result : goal.overflow_sub-result
unfolding bytes_left
overflow_sub-result c = search rules

pub returns-in-Some : goal.returns-in-Some
unfolding bytes_left
returns-in-Some c = search rules

pub returns-in-None : goal.returns-in-None
unfolding bytes_left
returns-in-None c = search rules
