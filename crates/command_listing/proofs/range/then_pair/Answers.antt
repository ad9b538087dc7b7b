-- `command_listing::range::then_pair` meets its contract. Assumes nothing.
use Rattle.base_writing.proofs.Puts.{then_adds}
use Rattle.command_listing.proofs.Ranging.{pair_full}
use Rattle.command_listing.proofs.range.then_pair.Goals as goal

pub returns-in_err-line : goal.returns-in_err-line
returns-in_err-line c = rw c.from_residual.ensures (pair_full c.then_bulk-line.ensures c.in_err-line.was _)

pub returns : goal.returns
returns c = search then_adds
