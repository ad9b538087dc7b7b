use Rattle.std.proofs.Common.{rules}
use Rattle.store_memtable.proofs.Walk.{next_step, next_end}
use Rattle.store_memtable.proofs.live.next_live.Goals as goal

pub returns-then-live_at : goal.returns-then-live_at
returns-then-live_at c = search (rules, next_step)

pub loop-i-preserved : goal.loop-i-preserved
loop-i-preserved c = search (rules, next_step)

pub returns : goal.returns
returns c = search (rules, next_end)
