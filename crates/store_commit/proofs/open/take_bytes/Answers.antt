-- `store_commit::open::take_bytes` meets its contract. Assumes nothing.
use Rattle.std.proofs.Common.{rules}
use Rattle.store_memtable.specs.Rows.{bytes_left}
use Rattle.store_commit.proofs.open.take_bytes.Goals as goal

pub returns : goal.returns
unfolding bytes_left
returns c = search rules

pub returns-in_err-checked_sub : goal.returns-in_err-checked_sub
unfolding bytes_left
returns-in_err-checked_sub c = search rules
