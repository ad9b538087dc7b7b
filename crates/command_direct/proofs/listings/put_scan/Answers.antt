-- `command_direct::listings::put_scan` meets its contract. Assumes nothing.
use Rattle.command_direct.proofs.Listed.{pattern_counted, scan_all, scan_some}
use Rattle.command_direct.proofs.listings.put_scan.Goals as goal

pub argument-requires : goal.argument-requires
argument-requires c = search pattern_counted

pub returns-in-None : goal.returns-in-None
returns-in-None c = search scan_all

pub returns-in-Some : goal.returns-in-Some
returns-in-Some c = search scan_some
