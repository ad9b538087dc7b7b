use Rattle.store_commit.specs.Leaving.{SameLent}
use Rattle.command_room.proofs.Writes.{Deleting}
use Rattle.command_room.proofs.commit.commit_tombstones.Given as goal

abbrev pub invariant-loop-i : goal.invariant-loop-i
invariant-loop-i l = SameLent l.initial.store l.store × Deleting l.request.places.now l.request.input.now l.from l.request.count l.initial.store.words.now l.initial.store.bytes.now l.store.words.now l.store.bytes.now l.i
