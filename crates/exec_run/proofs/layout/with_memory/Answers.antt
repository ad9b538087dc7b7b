-- `exec_run::layout::with_memory` meets its contract. Assumes nothing.
use Rattle.std.proofs.Common.{arith}
use Rattle.std.proofs.lemmas.Grind.{common_steps}
use Rattle.base_key.specs.Bytes.{◌and◌}
use Rattle.exec_run.specs.Execution.{small}
use Rattle.exec_run.proofs.layout.with_memory.Goals as goal

pub with_lengths-requires-clause-callable : goal.with_lengths-requires-clause-callable
unfolding small ◌and◌
with_lengths-requires-clause-callable g c = grind (arith, common_steps)
