-- `store_memtable::store::Store::moved` meets its contract. By the newest sequence. Assumes nothing.
use Rattle.std.proofs.Common.{rules}
use Rattle.store_memtable.specs.Versions.{moved}
use Rattle.store_memtable.proofs.store.Store.moved.Goals as goal

pub returns : goal.returns
unfolding moved
returns c = search rules
