-- `command_listing::scan::then_matches` meets its contract. Assumes nothing.
use Rattle.base_writing.proofs.Puts.{adds}
use Rattle.command_listing.proofs.scan.then_matches.Goals as goal

pub returns : goal.returns
returns c = search adds
