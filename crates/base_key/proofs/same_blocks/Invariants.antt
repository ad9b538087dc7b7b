-- `base_key::same_blocks` meets its contract. The invariant: whole blocks follow from `end` on, and they are the same, `BlocksSame`. Assumes nothing.
use Rattle.base_key.proofs.Blocks.{BlocksSame}
use Rattle.base_key.proofs.same_blocks.Given as goal

abbrev pub invariant-loop-start : goal.invariant-loop-start
invariant-loop-start l = BlocksSame l.a l.b l.end

abbrev pub decreases-loop-start : goal.decreases-loop-start
decreases-loop-start l = l.end
