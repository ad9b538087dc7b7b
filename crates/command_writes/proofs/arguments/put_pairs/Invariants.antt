-- `command_writes::arguments::put_pairs` meets its contract. The invariant: the first j pairs have been set, `Pairs`. Assumes nothing.
use Rattle.command_writes.proofs.ArgumentLaws.{Pairs}
use Rattle.command_writes.proofs.arguments.put_pairs.Given as goal

abbrev pub invariant-loop-j : goal.invariant-loop-j
invariant-loop-j l = Pairs l.initial.own l.own l.request.input.now l.n l.request.places.now l.from l.request.count l.r l.j
