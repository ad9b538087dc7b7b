use Rattle.session_watch.proofs.WatchedKeys.{passing_none, passing_room, passing_more, passing_found, passed_all}
use native.Mathlib.Omega.{arith}
use Rattle.session_watch.proofs.watched_moved.Goals as goal

pub loop-i-init : goal.loop-i-init
loop-i-init c = search passing_none

pub overflow_add-end : goal.overflow_add-end
overflow_add-end c = omega (arith, passing_room c.loop-i.invariant c.args.session.now.held c.loop-i-test.true)

pub slice_bounds-moved-end : goal.slice_bounds-moved-end
slice_bounds-moved-end c = omega (arith, passing_room c.loop-i.invariant c.args.session.now.held c.loop-i-test.true)

pub returns-then-moved : goal.returns-then-moved
returns-then-moved c = search passing_found

pub loop-i-preserved : goal.loop-i-preserved
loop-i-preserved c = search passing_more

pub returns : goal.returns
returns c = search passed_all
