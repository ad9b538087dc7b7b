use Rattle.store_commit.specs.Leaving.{SameLent}
use Rattle.command_room.proofs.Writes.{Setting}
use Rattle.command_room.proofs.commit.commit_pairs.Given as goal

abbrev pub invariant-loop-j : goal.invariant-loop-j
invariant-loop-j l = SameLent l.initial.store l.store × Setting l.request.places.now l.request.input.now l.from l.pairs l.initial.store.words.now l.initial.store.bytes.now l.store.words.now l.store.bytes.now l.j
