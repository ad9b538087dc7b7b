use native.Mathlib.Omega.{arith}
use Rattle.store_memtable.proofs.Walk.{found_below, found_from}
use Rattle.command_listing.proofs.Matching.{match_at, missing_more, missing_all}
use Rattle.command_listing.proofs.keys.next_match.Goals as goal

pub key-name-requires : goal.key-name-requires
key-name-requires c = search found_below

pub returns-then-glob : goal.returns-then-glob
returns-then-glob c = search match_at

pub overflow_add-i : goal.overflow_add-i
overflow_add-i c = omega (arith, found_below _ _ _ c.next_live.ensures c.in-Some.is)

pub loop-j-smaller : goal.loop-j-smaller
loop-j-smaller c = omega (arith, found_below _ _ _ c.next_live.ensures c.in-Some.is, found_from _ _ _ c.next_live.ensures c.in-Some.is)

pub loop-j-preserved : goal.loop-j-preserved
loop-j-preserved c = search missing_more

pub returns : goal.returns
returns c = search missing_all
