-- `session_watch::watch::Watch::of` meets its contract. The tables and the bytes are copied. Assumes nothing.
use Rattle.session_memory.proofs.WatchCall.{watch_table}
use Rattle.session_watch.proofs.watch.Watch.of.Goals as goal

pub invariant_of-watch : goal.invariant_of-watch
invariant_of-watch c = record { table = search watch_table }
