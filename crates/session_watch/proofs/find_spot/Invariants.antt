-- `session_watch::find_spot` meets its contract. The invariant: the key goes behind the first i, which end at `start`, `Spotting`. Assumes nothing.
use Rattle.session_memory.proofs.Watching.{Spotting}
use Rattle.session_watch.proofs.find_spot.Given as goal

abbrev pub invariant-loop-i : goal.invariant-loop-i
invariant-loop-i l = Spotting l.lens l.text l.count l.name l.start l.i
