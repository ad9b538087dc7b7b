-- `base_key::same` meets its contract. Keys of different lengths differ; else by their ends, and then by what stands in front. Assumes nothing.
use Rattle.std.proofs.Common.{◌∙◌, sym}
use borrow.Author.Tests.{ne_eqb}
use Rattle.base_key.proofs.Bytes.{neither}
use Rattle.base_key.proofs.Keys.{differ_by_length, differ_by_end, same_by_front}
use Rattle.base_key.proofs.same.Goals as goal
use Rattle.base_key.proofs.same.Goals.{then-a-b, else-a-b}

pub returns-then-same_blocks : goal.returns-then-same_blocks
returns-then-same_blocks c = elim c.if-a-b.branch [
  | then-a-b w ↦ same_by_front _ _ _ w.same_blocks.ensures (sym w.value-is ∙ c.if-same_blocks.true) c.same_front.ensures
  | else-a-b w ↦ neither c.if-same_blocks.true (w.value-is ∙ ne_eqb _ _ w.if-a-b.false)
]

pub returns-else-same_blocks : goal.returns-else-same_blocks
returns-else-same_blocks c = elim c.if-a-b.branch [
  | then-a-b w ↦ c.if-same_blocks.false ∙ differ_by_end _ _ _ w.same_blocks.ensures (sym w.value-is ∙ c.if-same_blocks.false)
  | else-a-b w ↦ c.if-same_blocks.false ∙ differ_by_length _ _ w.if-a-b.false
]
