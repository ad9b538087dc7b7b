-- `command_lookup::reader::Reader::last` meets its contract. No writes hide nothing. Assumes nothing.
use Rattle.command_writes.proofs.Growing.{own_none}
use Rattle.command_writes.proofs.Readers.{reader_none}
use Rattle.command_lookup.proofs.reader.Reader.last.Goals as goal

pub invariant_of-writes : goal.invariant_of-writes
invariant_of-writes c = search own_none

pub returns : goal.returns
returns c = reader_none _ _ _ _ _
