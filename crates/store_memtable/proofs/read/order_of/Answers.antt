-- `store_memtable::read::order_of` meets its contract. The order of the two keys and sequences. Assumes nothing.
use Rattle.std.proofs.Common.{rules}
use Rattle.store_memtable.specs.Layout.{version_at}
use Rattle.store_memtable.specs.Versions.{order_of}
use Rattle.store_memtable.proofs.read.order_of.Goals as goal

pub returns : goal.returns
unfolding version_at order_of
returns c = search rules
