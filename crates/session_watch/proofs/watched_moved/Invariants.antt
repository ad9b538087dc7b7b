-- `session_watch::watched_moved` meets its contract. Assumes nothing.
use Rattle.session_watch.proofs.WatchedKeys.{Passing}
use Rattle.store_memtable.specs.Rows.{versions_in}
use Rattle.session_watch.proofs.watched_moved.Given as goal

abbrev pub invariant-loop-i : goal.invariant-loop-i
invariant-loop-i l = Passing (versions_in l.store.words.now l.store.bytes.now) l.session.words.now l.session.bytes.now l.count l.start l.i
