-- `group_walk::settle_members` meets its contract. Before each turn i members are settled, and the others follow from the words, the bytes
-- and the verdict bytes as they stand. Assumes nothing.
use Rattle.store_commit.specs.Leaving.{SameLent}
use Rattle.group_spec.specs.Settling.{as_room}
use Rattle.group_spec.proofs.Walking.{Walking}
use Rattle.group_walk.proofs.settle_members.Given as goal

abbrev pub invariant-loop-i : goal.invariant-loop-i
invariant-loop-i l = SameLent l.initial.store l.store × Walking l.members l.began l.parts.table.now l.parts.«data».now l.initial.store.words.now l.initial.store.bytes.now l.initial.verdicts l.i (as_room l.room) l.store.words.now l.store.bytes.now l.verdicts
