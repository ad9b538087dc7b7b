-- `exec_queued::pairs::run_pairs` meets its contract. Assumes nothing.
use Rattle.exec_queued.proofs.RanLaws.{pairs_ran}
use Rattle.exec_queued.proofs.pairs.run_pairs.Goals as goal

pub returns : goal.returns
returns c = search pairs_ran
