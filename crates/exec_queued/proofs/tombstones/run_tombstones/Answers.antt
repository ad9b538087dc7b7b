-- `exec_queued::tombstones::run_tombstones` meets its contract. Assumes nothing.
use native.Mathlib.Omega.{arith}
use Rattle.exec_queued.proofs.RanLaws.{tombstones_ran}
use Rattle.exec_queued.proofs.tombstones.run_tombstones.Goals as goal

pub returns : goal.returns
returns c = tombstones_ran _ _ _ _ _ _ (omega (arith, c.requires)) c.then_live-put.ensures c.put_tombstones-rows.ensures
