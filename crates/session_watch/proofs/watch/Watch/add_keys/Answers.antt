use Rattle.session_watch.proofs.Growing.{growing_none, growing_full, growing_more, grown_all}
use Rattle.session_watch.proofs.watch.Watch.add_keys.Goals as goal

pub loop-i-init : goal.loop-i-init
loop-i-init c = search growing_none

pub returns-in_err-add : goal.returns-in_err-add
returns-in_err-add c = growing_full c.loop-i.invariant c.loop-i-test.true c.argument.ensures c.add.new.self c.add.ensures c.in_err-add.was c.from_residual.ensures

pub loop-i-preserved : goal.loop-i-preserved
loop-i-preserved c = growing_more c.loop-i.invariant c.loop-i-test.true c.argument.ensures c.add.new.self c.add.ensures c.in_ok-add.was

pub returns : goal.returns
returns c = search grown_all
