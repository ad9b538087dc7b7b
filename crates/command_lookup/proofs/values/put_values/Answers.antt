use native.Mathlib.Omega.{arith}
use Rattle.command_lookup.proofs.ValueReplies.{values_more, values_full, values_all}
use Rattle.command_lookup.proofs.values.put_values.Goals as goal

pub returns-in_err-put : goal.returns-in_err-put
returns-in_err-put c = values_full c.loop-i.invariant c.put_head-put.ensures c.in_err-put.was c.from_residual.ensures

pub loop-i-preserved : goal.loop-i-preserved
loop-i-preserved c = values_more c.loop-i.invariant _ (omega arith) c.argument.ensures c.then_value-put.ensures

pub returns : goal.returns
returns c = search values_all
