-- `store_memtable::read::key_of` meets its contract. The part between the start and the end of the key. Assumes nothing.
use Rattle.std.proofs.Common.{rules}
use Rattle.store_memtable.specs.Layout.{version_at}
use Rattle.store_memtable.proofs.read.key_of.Goals as goal

pub returns : goal.returns
unfolding version_at
returns c = search rules
