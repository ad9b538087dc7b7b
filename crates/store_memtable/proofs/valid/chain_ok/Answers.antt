use Rattle.store_memtable.proofs.Validity.{linked_none, linked_more, linked_broken, linked_all}
use Rattle.std.proofs.Common.{arith, rules}
use Rattle.store_memtable.proofs.valid.chain_ok.Goals as goal

pub loop-i-init : goal.loop-i-init
loop-i-init c = search linked_none

pub returns-in_default : goal.returns-in_default
returns-in_default c = search (rules, linked_broken)

pub loop-i-preserved : goal.loop-i-preserved
loop-i-preserved c = linked_more c.loop-i.invariant (omega arith) c.row_end.ensures c.in-Some.is

pub returns : goal.returns
returns c = search (rules, linked_all)
