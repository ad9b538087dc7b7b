use Rattle.std.proofs.Common.{arith}
use Rattle.base_key.proofs.Keys.{alike_more, byte_here, ended}
use Rattle.base_key.proofs.compare.Goals as goal

pub returns-then-a-i : goal.returns-then-a-i
returns-then-a-i c = search (arith, byte_here)

pub loop-i-preserved : goal.loop-i-preserved
loop-i-preserved c = search (arith, alike_more)

pub returns : goal.returns
returns c = search (arith, ended)
