-- `command_listing::range::put_range` meets its contract. Assumes nothing.
use Rattle.command_listing.proofs.Ranging.{range_fits, range_answer}
use Rattle.command_listing.proofs.range.put_range.Goals as goal

pub put_pairs-requires : goal.put_pairs-requires
put_pairs-requires c = search range_fits

pub returns : goal.returns
returns c = search range_answer
