use Rattle.command_writes.proofs.ArgumentLaws.{tombstones_more, tombstones_all}
use Rattle.command_writes.proofs.arguments.put_tombstones.Goals as goal

pub loop-i-preserved : goal.loop-i-preserved
loop-i-preserved c = search tombstones_more

pub returns : goal.returns
returns c = search tombstones_all
