-- `session_queue::put_arguments` meets its contract. The invariant: the first i arguments have been written, up to `pos`, `Storing`. Assumes nothing.
use Rattle.session_memory.proofs.Queueing.{Storing}
use Rattle.session_queue.proofs.put_arguments.Given as goal

abbrev pub invariant-loop-i : goal.invariant-loop-i
invariant-loop-i l = Storing l.initial.bytes l.at l.request.input.now l.request.places.now l.request.count l.bytes l.pos l.i
