-- `exec_run::transaction::exec_in` meets its contract. Assumes nothing.
use mathlib.Core.Path.{◌∙◌}
use Rattle.exec_run.proofs.ExecLaws.{decided_concluded}
use Rattle.exec_run.proofs.transaction.exec_in.Goals as goal
use Rattle.exec_run.proofs.transaction.exec_in.Goals.{in-Ok, in-Err}

pub returns-clause-leaves : goal.returns-clause-leaves
returns-clause-leaves c =
    let decides = rw (c.read.ensures.words, c.read.ensures.bytes) at c.decide_queue-prepared.ensures in
    elim c.match-prepared.branch [
      | in-Ok w ↦ decided_concluded _ _ _ _ _ _ _ _ c.requires.exec_ready.held _ _ _ _ c.requires.exec_ready.valid (rw w.in-Ok.is at decides) w.prepared-is w.rows-is c.conclude.ensures.concludes
      | in-Err w ↦ decided_concluded _ _ _ _ _ _ _ _ c.requires.exec_ready.held _ _ _ _ c.requires.exec_ready.valid (rw w.in-Err.is at decides) (w.prepared-is ∙ w.in-Err.is) w.rows-is c.conclude.ensures.concludes
    ]
