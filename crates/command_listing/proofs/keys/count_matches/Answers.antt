use native.Mathlib.Omega.{arith}
use Rattle.store_memtable.proofs.Walk.{found_below}
use Rattle.command_listing.proofs.Matching.{looking_more, looking_over, looking_end, one_at_most}
use Rattle.command_listing.proofs.keys.count_matches.Goals as goal

pub key-name-requires : goal.key-name-requires
key-name-requires c = search found_below

pub overflow_add-matched : goal.overflow_add-matched
overflow_add-matched c = omega (arith, one_at_most _ c.one_if_matching-matched.ensures)

pub overflow_add-i : goal.overflow_add-i
overflow_add-i c = omega (arith, found_below _ _ _ c.next_live.ensures c.in-Some.is)

pub loop-looked-preserved : goal.loop-looked-preserved
loop-looked-preserved c = looking_more c.loop-looked.invariant c.next_live.ensures c.in-Some.is c.key-name.ensures c.one_if_matching-matched.ensures (omega arith) (omega arith)

pub returns-in_default : goal.returns-in_default
returns-in_default c = search looking_over

pub returns-after-loop-looked : goal.returns-after-loop-looked
returns-after-loop-looked c = looking_end c.loop-looked.invariant (omega arith)
