use native.Mathlib.Omega.{arith}
use Rattle.command_listing.proofs.Ranging.{passing_more, passing_stop, passing_over}
use Rattle.store_memtable.proofs.Walk.{found_below}
use Rattle.command_listing.proofs.range.count_below.Goals as goal

pub returns-in_default : goal.returns-in_default
returns-in_default c = search passing_over

pub key-requires : goal.key-requires
key-requires c = search found_below

pub returns-then-not-is_below : goal.returns-then-not-is_below
returns-then-not-is_below c = search passing_stop

pub overflow_add-i : goal.overflow_add-i
overflow_add-i c = omega (arith, found_below _ _ _ c.next_live.ensures c.in-Some.is)

pub loop-count-preserved : goal.loop-count-preserved
loop-count-preserved c = search passing_more
