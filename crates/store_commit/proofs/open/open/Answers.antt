-- `store_commit::open::open` meets its contract. The header is written where the buffers hold the capacities. Assumes nothing.
use Rattle.store_memtable.proofs.Opening.{open_head}
use Rattle.store_commit.proofs.open.open.Goals as goal

pub write_header-requires : goal.write_header-requires
write_header-requires c = search open_head
