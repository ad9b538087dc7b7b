use Rattle.store_memtable.proofs.Moves.{rows_moving_none, rows_moving_more, row_start_fits}
use Rattle.store_commit.proofs.merge.move_rows.Goals as goal

pub loop-j-init : goal.loop-j-init
loop-j-init c = search rows_moving_none

pub move_row-requires-clause-size_bound : goal.move_row-requires-clause-size_bound
move_row-requires-clause-size_bound c = search row_start_fits

pub loop-j-preserved : goal.loop-j-preserved
loop-j-preserved c = search rows_moving_more
