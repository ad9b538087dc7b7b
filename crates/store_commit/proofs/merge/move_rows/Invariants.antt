-- `store_commit::merge::move_rows` meets its contract. The invariant: all rows from place j on have been moved, `RowsMoving`. Assumes nothing.
use Rattle.store_memtable.proofs.Moves.{RowsMoving}
use Rattle.store_commit.proofs.merge.move_rows.Given as goal

abbrev pub invariant-loop-j : goal.invariant-loop-j
invariant-loop-j l = RowsMoving l.initial.words l.from l.to l.by l.size l.words l.j
