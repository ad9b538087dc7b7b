-- `group_judge::commit_writes` meets its contract. The invariant: the writes before place j are committed, `Committing`. Assumes nothing.
use Rattle.std.proofs.Common.{◌+◌}
use Rattle.store_commit.specs.Leaving.{SameLent}
use Rattle.group_spec.proofs.Committed.{Committing}
use Rattle.group_judge.proofs.commit_writes.Given as goal

abbrev pub invariant-loop-j : goal.invariant-loop-j
invariant-loop-j l = SameLent l.initial.store l.store × Committing l.parts.table.now l.parts.«data».now l.first l.count (l.first + l.count) l.initial.store.words.now l.initial.store.bytes.now l.store.words.now l.store.bytes.now l.j
