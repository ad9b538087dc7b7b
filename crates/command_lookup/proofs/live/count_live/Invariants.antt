-- `command_lookup::live::count_live` meets its contract. The invariant: how many of the keys before place i are live, `Counting`. Assumes nothing.
use Rattle.command_lookup.specs.Reads.{read_through}
use Rattle.command_lookup.proofs.Arguments.{Counting}
use Rattle.command_lookup.proofs.live.count_live.Given as goal

abbrev pub invariant-loop-i : goal.invariant-loop-i
invariant-loop-i l = Counting (read_through l.reader) l.request.places.now l.request.input.now l.from l.request.count l.i l.count
