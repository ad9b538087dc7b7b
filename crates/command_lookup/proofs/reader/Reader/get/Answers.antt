-- `command_lookup::reader::Reader::get` meets its contract. The own write, or the store. Assumes nothing.
use Rattle.command_lookup.proofs.Seeing.{read_own, read_stored}
use Rattle.command_lookup.proofs.reader.Reader.get.Goals as goal

pub returns-in-Some : goal.returns-in-Some
returns-in-Some c = read_own _ _ _ _ _ _ _ c.args.self.now.writes.own_writes c.in-Some.ensures c.written.ensures

pub returns : goal.returns
returns c = read_stored _ _ _ _ _ _ _ c.args.self.now.writes.own_writes c.in_default.ensures c.get.ensures
