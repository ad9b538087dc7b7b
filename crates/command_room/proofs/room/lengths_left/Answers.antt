use Rattle.command_room.proofs.Writes.{lasting_more, lasting_short, lasting_all}
use Rattle.command_room.proofs.room.lengths_left.Goals as goal

pub returns-then-rest-len : goal.returns-then-rest-len
returns-then-rest-len c = search lasting_short

pub loop-i-preserved : goal.loop-i-preserved
loop-i-preserved c = search lasting_more

pub returns : goal.returns
returns c = search lasting_all
