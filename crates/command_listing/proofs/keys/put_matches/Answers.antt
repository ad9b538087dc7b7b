use native.Mathlib.Omega.{arith}
use Rattle.command_listing.proofs.Matching.{writing_match, writing_full, writing_over, writing_end}
use Rattle.command_listing.proofs.keys.put_matches.Goals as goal

pub returns-in_err-put : goal.returns-in_err-put
returns-in_err-put c = rw c.from_residual.ensures (writing_full c.loop-written.invariant c.requires.count_in_bounds c.put_head-put.ensures c.in_err-put.was)

pub returns-in_default : goal.returns-in_default
returns-in_default c = search writing_over

pub loop-written-preserved : goal.loop-written-preserved
loop-written-preserved c = writing_match c.loop-written.invariant (omega arith) (omega arith) c.next_match.ensures c.in-Some.is c.then_bulk-put.ensures

pub returns : goal.returns
returns c = writing_end c.loop-written.invariant c.requires.count_in_bounds c.put_head-put.ensures (omega arith)
