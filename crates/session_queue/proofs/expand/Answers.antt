use native.Mathlib.Omega.{arith}
use Rattle.session_memory.proofs.Expanding.{placing_none, placing_more, place_room}
use Rattle.session_queue.proofs.expand.Goals as goal

pub loop-i-init : goal.loop-i-init
loop-i-init c = search placing_none

pub overflow_add-start : goal.overflow_add-start
overflow_add-start c = omega (arith, place_room c.loop-i.invariant c.requires c.loop-i-test.true)

pub loop-i-preserved : goal.loop-i-preserved
loop-i-preserved c = search placing_more
