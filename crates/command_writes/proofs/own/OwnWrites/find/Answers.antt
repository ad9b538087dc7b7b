-- `command_writes::own::OwnWrites::find` meets its contract. The row at the place holds the key, or none does. Assumes nothing.
use Rattle.command_writes.proofs.Places.{found_at, found_nothing}
use Rattle.command_writes.proofs.own.OwnWrites.find.Goals as goal

pub returns-then-holds : goal.returns-then-holds
returns-then-holds c = search found_at

pub returns : goal.returns
returns c = search found_nothing
