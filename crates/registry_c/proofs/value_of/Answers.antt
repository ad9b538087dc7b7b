-- `registry_c::value_of` meets its contract. The version that was found is one of the store. Assumes nothing.
use Rattle.store_memtable.proofs.Rows.{read_in}
use Rattle.registry_c.proofs.value_of.Goals as goal

pub value_at-requires : goal.value_at-requires
value_at-requires c = search read_in
