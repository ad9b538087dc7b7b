-- `store_memtable::read::comes_before` meets its contract. By how key and sequence compare. Assumes nothing.
use Rattle.std.proofs.Common.{rules}
use Rattle.store_memtable.specs.Layout.{version_at}
use Rattle.store_memtable.specs.Rows.{order_with}
use Rattle.store_memtable.proofs.read.comes_before.Goals as goal

pub returns-in-Less : goal.returns-in-Less
unfolding version_at order_with
returns-in-Less c = search rules

pub returns-in_default : goal.returns-in_default
unfolding version_at order_with
returns-in_default c = search rules
