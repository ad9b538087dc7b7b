-- `session_queue::put_lengths` meets its contract. The invariant: the first i lengths have been written, `Listing`. Assumes nothing.
use Rattle.session_memory.proofs.Queueing.{Listing}
use Rattle.session_queue.proofs.put_lengths.Given as goal

abbrev pub invariant-loop-i : goal.invariant-loop-i
invariant-loop-i l = Listing l.initial.words l.at l.request.places.now l.request.count l.words l.i
