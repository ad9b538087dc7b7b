use Rattle.command_room.proofs.Writes.{Lasting}
use Rattle.command_room.proofs.room.lengths_left.Given as goal

abbrev pub invariant-loop-i : goal.invariant-loop-i
invariant-loop-i l = Lasting l.places l.from l.to l.left l.rest l.i
