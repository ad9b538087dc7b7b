use Rattle.std.proofs.Common.{arith}
use Rattle.base_key.proofs.Blocks.{alike_block}
use Rattle.base_key.proofs.skip.Goals as goal

pub loop-i-preserved : goal.loop-i-preserved
loop-i-preserved c = alike_block c.same_block.ensures c.if-not-same_block.false c.loop-i.invariant (omega arith) (omega arith) (omega arith)
