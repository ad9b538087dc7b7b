-- `examples::replies::reply_in` meets its contract. The measure is what is left of the items. Assumes nothing.
use Rattle.std.proofs.Common.{length}
use Rattle.examples.proofs.replies.reply_in.Given as goal

abbrev pub decreases-loop-one : goal.decreases-loop-one
decreases-loop-one l = length l.rest
