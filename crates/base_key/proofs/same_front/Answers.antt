use Rattle.base_key.proofs.Keys.{front_none, front_more, front_other, front_all}
use Rattle.base_key.proofs.same_front.Goals as goal

pub loop-i-init : goal.loop-i-init
loop-i-init c = search front_none

pub returns-then-a-i : goal.returns-then-a-i
returns-then-a-i c = search front_other

pub loop-i-preserved : goal.loop-i-preserved
loop-i-preserved c = search front_more

pub returns : goal.returns
returns c = search front_all
