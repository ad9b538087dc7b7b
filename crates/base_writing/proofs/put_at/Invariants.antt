-- `base_writing::put_at` meets its contract. The invariant: the first i elements have been copied, `Putting`. Assumes nothing.
use Rattle.base_key.proofs.Writes.{Putting}
use Rattle.base_writing.proofs.put_at.Given as goal

abbrev pub invariant-loop-i : goal.invariant-loop-i
invariant-loop-i g l = Putting l.initial.dst l.at l.src l.dst l.i
