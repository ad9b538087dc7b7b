use Rattle.session_memory.proofs.Queueing.{listing_none, listing_more}
use Rattle.session_queue.proofs.put_lengths.Goals as goal

pub loop-i-init : goal.loop-i-init
loop-i-init c = search listing_none

pub loop-i-preserved : goal.loop-i-preserved
loop-i-preserved c = search listing_more
