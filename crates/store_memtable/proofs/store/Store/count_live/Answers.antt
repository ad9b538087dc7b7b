use Rattle.std.proofs.Common.{rules}
use Rattle.store_memtable.proofs.Walk.{count_step, count_end, count_all}
use Rattle.store_memtable.proofs.store.Store.count_live.Goals as goal

pub loop-i-preserved : goal.loop-i-preserved
loop-i-preserved c = search (rules, count_step)

pub returns : goal.returns
returns c = search (rules, count_end, count_all)
