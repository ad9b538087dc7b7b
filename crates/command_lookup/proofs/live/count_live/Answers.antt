use native.Mathlib.Omega.{arith}
use Rattle.command_lookup.proofs.Arguments.{counting_more, counting_all}
use Rattle.command_lookup.proofs.live.count_live.Goals as goal

pub loop-i-preserved : goal.loop-i-preserved
loop-i-preserved c = counting_more c.loop-i.invariant _ (omega arith) c.argument.ensures c.is_live.ensures c.from-count.ensures

pub returns : goal.returns
returns c = search counting_all
