-- `exec_finish::conclude` meets its contract. Assumes nothing.
use Rattle.exec_finish.proofs.ConcludeLaws.{concludes_writes}
use Rattle.exec_finish.proofs.conclude.Goals as goal

pub returns-clause-concludes : goal.returns-clause-concludes
returns-clause-concludes g c = concludes_writes _ _ _ _ c.args.prepared _ (rw c.in_ok-prepared.is at c.branch-prepared.ensures) c.commit_own.ensures.words_after c.commit_own.ensures.bytes_after c.clear.ensures
