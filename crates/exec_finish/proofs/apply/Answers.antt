-- `exec_finish::apply` meets its contract. Assumes nothing.
use Rattle.exec_finish.proofs.ConcludeLaws.{concludes_applies}
use Rattle.exec_finish.proofs.apply.Goals as goal

pub returns-clause-applies : goal.returns-clause-applies
returns-clause-applies c = concludes_applies _ _ _ _ c.args.prepared c.conclude.result c.in-Ok.is c.conclude.ensures.concludes
