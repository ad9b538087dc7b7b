use native.Mathlib.Omega.{arith}
use Rattle.base_key.proofs.Blocks.{blocks_none, blocks_more, blocks_other, blocks_all}
use Rattle.base_key.proofs.same_blocks.Goals as goal

pub loop-start-init : goal.loop-start-init
loop-start-init c = search blocks_none

pub returns-then-not-same_block : goal.returns-then-not-same_block
returns-then-not-same_block c = search (arith, blocks_other, c.in-Some.ensures)

pub loop-start-preserved : goal.loop-start-preserved
loop-start-preserved c = blocks_more c.loop-start.invariant _ c.same_block.ensures (omega (arith, c.in-Some.ensures)) c.if-not-same_block.false

pub returns : goal.returns
returns c = blocks_all c.loop-start.invariant (omega (arith, c.in_default.ensures))
