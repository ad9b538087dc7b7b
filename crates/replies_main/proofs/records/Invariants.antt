-- `replies_main::records` meets its contract. The measure is what is left of the input. Assumes nothing.
use Rattle.std.proofs.Common.{length}
use Rattle.replies_main.proofs.records.Given as goal

abbrev pub decreases-loop-one : goal.decreases-loop-one
decreases-loop-one l = length l.rest
