-- `command_writes::own::OwnWrites::written` meets its contract. By the write. Assumes nothing.
use Rattle.command_writes.proofs.Growing.{own_row}
use Rattle.command_writes.proofs.Readers.{gives_value, gives_none}
use Rattle.command_writes.proofs.own.OwnWrites.written.Goals as goal

pub write_at-live-requires : goal.write_at-live-requires
write_at-live-requires c = search own_row

pub returns-then-live : goal.returns-then-live
returns-then-live c = search gives_value

pub returns-else-live : goal.returns-else-live
returns-else-live c = search gives_none
