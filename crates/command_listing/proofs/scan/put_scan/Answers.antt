-- `command_listing::scan::put_scan` meets its contract. Assumes nothing.
use Rattle.command_listing.proofs.Scanning.{scan_full, scan_answer}
use Rattle.command_listing.proofs.Matching.{seen_fits}
use Rattle.command_listing.proofs.scan.put_scan.Goals as goal

pub returns-in_err-line : goal.returns-in_err-line
returns-in_err-line c = rw (c.from_residual.ensures, ← c.new-pattern.ensures) (scan_full _ _ _ _ _ c.args.store.now.valid c.skip-at.ensures c.count_matches-seen.ensures c.cursor-follows.ensures c.put_head-head.ensures c.then_bulk_digits-line.ensures c.in_err-line.was)

pub then_matches-requires : goal.then_matches-requires
then_matches-requires c = search seen_fits

pub returns : goal.returns
returns c = rw (← c.new-pattern.ensures) (scan_answer _ _ _ _ _ c.args.store.now.valid c.skip-at.ensures c.count_matches-seen.ensures c.cursor-follows.ensures c.put_head-head.ensures c.then_bulk_digits-line.ensures c.then_matches.ensures)
