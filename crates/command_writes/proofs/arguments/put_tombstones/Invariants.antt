-- `command_writes::arguments::put_tombstones` meets its contract. The invariant: the arguments before i have their tombstones, `Tombstones`. Assumes nothing.
use Rattle.command_writes.proofs.ArgumentLaws.{Tombstones}
use Rattle.command_writes.proofs.arguments.put_tombstones.Given as goal

abbrev pub invariant-loop-i : goal.invariant-loop-i
invariant-loop-i l = Tombstones l.initial.own l.own l.request.input.now l.n l.request.places.now l.from l.request.count l.r l.i
