-- `store_memtable::read::value_of` meets its contract. The part between the end of the key and the end of the value. Assumes nothing.
use Rattle.store_memtable.proofs.Rows.{value_part_lem}
use Rattle.store_memtable.proofs.read.value_of.Goals as goal

pub returns : goal.returns
returns c = search value_part_lem
