-- `base_key::same_block` meets its contract. Assumes nothing.
use Rattle.base_key.proofs.Blocks.{same_block_lem}
use Rattle.base_key.proofs.same_block.Goals as goal

pub returns : goal.returns
returns c = search same_block_lem
