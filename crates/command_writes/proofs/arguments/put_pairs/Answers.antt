use Rattle.command_writes.proofs.ArgumentLaws.{pairs_more, pairs_all}
use Rattle.command_writes.proofs.arguments.put_pairs.Goals as goal

pub loop-j-preserved : goal.loop-j-preserved
loop-j-preserved c = search pairs_more

pub returns : goal.returns
returns c = search pairs_all
