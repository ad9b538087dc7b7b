-- `exec_run::layout::lay_out` meets its contract. Assumes nothing.
use Rattle.exec_run.proofs.LayoutLaws.{laid_out}
use Rattle.exec_run.proofs.layout.lay_out.Goals as goal

pub returns : goal.returns
returns c = search laid_out
