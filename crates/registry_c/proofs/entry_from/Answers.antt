-- `registry_c::entry_from` meets its contract. The version that was found is one of the store. Assumes nothing.
use Rattle.store_memtable.proofs.Walk.{found_below}
use Rattle.registry_c.proofs.entry_from.Goals as goal

pub entry_at-requires : goal.entry_at-requires
entry_at-requires c = search found_below
