-- `examples::show_all` meets its contract. The measure is what is left of the input. Assumes nothing.
use Rattle.std.proofs.Common.{length}
use Rattle.examples.proofs.show_all.Given as goal

abbrev pub decreases-loop-one : goal.decreases-loop-one
decreases-loop-one l = length l.rest
