-- `session_queue::expand` meets its contract. The invariant: the places of the first i arguments have been written, `Placing`. Assumes nothing.
use Rattle.session_memory.proofs.Expanding.{Placing}
use Rattle.session_queue.proofs.expand.Given as goal

abbrev pub invariant-loop-i : goal.invariant-loop-i
invariant-loop-i l = Placing l.words l.initial.places l.count l.places l.start l.i
