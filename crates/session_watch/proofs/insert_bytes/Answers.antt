-- `session_watch::insert_bytes` meets its contract. The move opens a gap, and the bytes fill it. Assumes nothing.
use Rattle.session_memory.proofs.Watching.{bytes_inserted}
use Rattle.session_watch.proofs.insert_bytes.Goals as goal

pub returns : goal.returns
returns c = search bytes_inserted
