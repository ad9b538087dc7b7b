-- `store_commit::merge::kept` meets its contract. A live value is kept whole, a tombstone has no bytes. Assumes nothing.
use Rattle.std.proofs.Common.{rules}
use Rattle.store_memtable.specs.Rows.{value_if}
use Rattle.store_commit.proofs.merge.kept.Goals as goal

pub returns-then-live : goal.returns-then-live
unfolding value_if
returns-then-live c = search rules

pub returns-else-live : goal.returns-else-live
unfolding value_if
returns-else-live c = search rules
