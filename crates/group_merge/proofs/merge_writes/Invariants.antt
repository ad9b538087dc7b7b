-- `group_merge::merge_writes` meets its contract. The invariant: the first j writes are left, `Turning`. Assumes nothing.
use Rattle.group_spec.proofs.AscendingLaws.{Turning}
use Rattle.group_merge.proofs.merge_writes.Given as goal

abbrev pub invariant-loop-j : goal.invariant-loop-j
invariant-loop-j l = Turning l.parts.table.now l.parts.«data».now l.first l.count l.initial.words l.initial.bytes l.words l.bytes l.left l.j
