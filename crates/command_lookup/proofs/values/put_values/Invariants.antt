-- `command_lookup::values::put_values` meets its contract. The invariant: the values from place i on are still to be written, `ValuesFrom`. Assumes nothing.
use Rattle.command_lookup.specs.Reads.{read_through}
use Rattle.command_lookup.proofs.ValueReplies.{ValuesFrom}
use Rattle.command_lookup.proofs.values.put_values.Given as goal

abbrev pub invariant-loop-i : goal.invariant-loop-i
invariant-loop-i l = ValuesFrom (read_through l.reader) l.request.places.now l.request.input.now l.from l.request.count l.i l.initial.put l.initial.out l.put l.out
