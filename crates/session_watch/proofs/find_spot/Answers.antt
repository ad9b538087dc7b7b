use native.Mathlib.Omega.{arith}
use Rattle.session_memory.proofs.Watching.{spotting_none, spotting_more, spot_room, spot_less, spot_there, spot_last}
use Rattle.session_watch.proofs.find_spot.Goals as goal

pub loop-i-init : goal.loop-i-init
loop-i-init c = search spotting_none

pub overflow_add-end : goal.overflow_add-end
overflow_add-end c = omega (arith, spot_room c.loop-i.invariant c.requires c.loop-i-test.true)

pub slice_bounds-compare-end : goal.slice_bounds-compare-end
slice_bounds-compare-end c = omega (arith, spot_room c.loop-i.invariant c.requires c.loop-i-test.true)

pub returns-in-Less : goal.returns-in-Less
returns-in-Less c = search spot_less

pub returns-in-Equal : goal.returns-in-Equal
returns-in-Equal c = search spot_there

pub loop-i-preserved : goal.loop-i-preserved
loop-i-preserved c = search spotting_more

pub returns : goal.returns
returns c = search spot_last
