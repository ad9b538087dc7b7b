-- `session_watch::keep` meets its contract. Both tables and the bytes are put in their places. Assumes nothing.
use Rattle.session_memory.proofs.WatchCall.{watch_put}
use Rattle.session_watch.proofs.keep.Goals as goal

pub returns : goal.returns
returns c = search watch_put
