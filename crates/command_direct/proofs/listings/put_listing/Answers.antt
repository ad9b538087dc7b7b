-- `command_direct::listings::put_listing` meets its contract. Assumes nothing.
use Rattle.command_direct.proofs.Listed.{keys_counted, lists_dbsize, lists_keys, lists_range, lists_scan, range_counted, scan_counted}
use Rattle.command_direct.proofs.listings.put_listing.Goals as goal

pub argument-requires : goal.argument-requires
argument-requires c = search keys_counted

pub put_scan-requires : goal.put_scan-requires
put_scan-requires c = search scan_counted

pub put_range-requires : goal.put_range-requires
put_range-requires c = search range_counted

pub returns-in-Dbsize : goal.returns-in-Dbsize
returns-in-Dbsize c = search lists_dbsize

pub returns-in-Keys : goal.returns-in-Keys
returns-in-Keys c = search lists_keys

pub returns-in-Scan : goal.returns-in-Scan
returns-in-Scan c = search lists_scan

pub returns-in-Range : goal.returns-in-Range
returns-in-Range c = search lists_range
