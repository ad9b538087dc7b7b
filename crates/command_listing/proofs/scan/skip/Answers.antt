use native.Mathlib.Omega.{arith}
use Rattle.store_memtable.proofs.Walk.{found_below}
use Rattle.command_listing.proofs.Scanning.{skipping_more, skipping_over}
use Rattle.command_listing.proofs.scan.skip.Goals as goal

pub overflow_add-i : goal.overflow_add-i
overflow_add-i c = omega (arith, found_below _ _ _ c.next_live.ensures c.in-Some.is)

pub loop-skipped-preserved : goal.loop-skipped-preserved
loop-skipped-preserved c = search (arith, skipping_more)

pub returns-in_default : goal.returns-in_default
returns-in_default c = search skipping_over
