use Rattle.command_listing.proofs.Ranging.{count_few}
use native.Mathlib.Omega.{arith}
use Rattle.command_listing.proofs.Ranging.{pairing_more, pairing_full, pairing_over, pairing_end}
use Rattle.store_memtable.proofs.Walk.{found_below}
use Rattle.command_listing.proofs.range.put_pairs.Goals as goal

pub overflow_mul-count : goal.overflow_mul-count
overflow_mul-count c = omega (arith, count_few _ _ _ c.requires.count_in_bounds)

pub returns-in_err-put : goal.returns-in_err-put
returns-in_err-put c = rw c.from_residual.ensures (pairing_full c.loop-written.invariant c.requires.count_in_bounds c.put_head-put.ensures c.in_err-put.was)

pub returns-in_default : goal.returns-in_default
returns-in_default c = search pairing_over

pub key-name-requires : goal.key-name-requires
key-name-requires c = search found_below

pub value-requires : goal.value-requires
value-requires c = search found_below

pub overflow_add-i : goal.overflow_add-i
overflow_add-i c = omega (arith, found_below _ _ _ c.next_live.ensures c.in-Some.is)

pub loop-written-preserved : goal.loop-written-preserved
loop-written-preserved c = pairing_more c.loop-written.invariant (omega arith) (omega arith) c.next_live.ensures c.in-Some.is c.key-name.ensures c.value.ensures c.then_pair-put.ensures

pub returns : goal.returns
returns c = pairing_end c.loop-written.invariant c.requires.count_in_bounds c.put_head-put.ensures (omega arith)
