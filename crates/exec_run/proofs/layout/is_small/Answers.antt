-- `exec_run::layout::is_small` meets its contract. Assumes nothing.
use Rattle.std.proofs.Common.{arith}
use Rattle.std.proofs.lemmas.Grind.{common_steps}
use Rattle.base_key.specs.Bytes.{◌and◌}
use Rattle.exec_run.specs.Execution.{small}
use Rattle.exec_run.proofs.layout.is_small.Goals as goal

pub returns-then-sizes-le-SMALL_ARGUMENTS : goal.returns-then-sizes-le-SMALL_ARGUMENTS
unfolding small ◌and◌
returns-then-sizes-le-SMALL_ARGUMENTS c = grind (arith, common_steps)

pub returns-else-sizes-le-SMALL_ARGUMENTS : goal.returns-else-sizes-le-SMALL_ARGUMENTS
unfolding small ◌and◌
returns-else-sizes-le-SMALL_ARGUMENTS c = grind (arith, common_steps)
