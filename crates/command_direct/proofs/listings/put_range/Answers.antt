-- `command_direct::listings::put_range` meets its contract. Assumes nothing.
use Rattle.command_direct.proofs.Listed.{range_argued}
use Rattle.command_direct.proofs.listings.put_range.Goals as goal

pub returns : goal.returns
returns c = search range_argued
