-- `session_memory::sum_every` meets its contract. The invariant: i of the words are summed, `Summing`. Assumes nothing.
use Rattle.session_memory.proofs.Sums.{Summing}
use Rattle.session_memory.proofs.sum_every.Given as goal

abbrev pub invariant-loop-i : goal.invariant-loop-i
invariant-loop-i l = Summing l.words l.from l.step l.count l.limit l.i l.sum
