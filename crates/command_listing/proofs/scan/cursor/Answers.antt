-- `command_listing::scan::cursor` meets its contract. Assumes nothing.
use native.Mathlib.Omega.{arith}
use Rattle.command_listing.proofs.Scanning.{cursor_fits, cursor_none, cursor_more}
use Rattle.command_listing.proofs.scan.cursor.Goals as goal

pub overflow_add-result : goal.overflow_add-result
overflow_add-result c = omega (arith, cursor_fits _ _ _ c.args.from c.args.most c.next_live.ensures c.in-Some.is c.requires.next_value, c.args.store.now.valid)

pub returns-in-None : goal.returns-in-None
returns-in-None c = search cursor_none

pub returns-in-Some : goal.returns-in-Some
returns-in-Some c = search cursor_more
