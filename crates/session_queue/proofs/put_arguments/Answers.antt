use Rattle.session_memory.proofs.Queueing.{storing_none, storing_more, put_room}
use Rattle.session_queue.proofs.put_arguments.Goals as goal

pub loop-i-init : goal.loop-i-init
loop-i-init c = search storing_none

pub put_at-requires : goal.put_at-requires
put_at-requires c = search put_room

pub loop-i-preserved : goal.loop-i-preserved
loop-i-preserved c = search storing_more
