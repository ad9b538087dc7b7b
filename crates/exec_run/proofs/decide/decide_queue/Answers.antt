-- `exec_run::decide::decide_queue` meets its contract. Assumes nothing.
use native.Mathlib.Omega.{arith}
use Rattle.exec_run.proofs.ExecLaws.{exec_judged}
use Rattle.exec_run.proofs.decide.decide_queue.Goals as goal

pub returns : goal.returns
returns c = exec_judged _ _ _ _ _ c.requires.exec_ready c.lay_out.ensures c.run_queue-at.ensures (omega arith) c.judge.ensures
