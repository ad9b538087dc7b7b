-- `command_writes::write::shift_up` meets its contract. Assumes nothing.
use Rattle.command_writes.proofs.RowLaws.{copied_up}
use mathlib.Core.Path.{◌∙◌}
use native.Mathlib.Omega.{arith}
use Rattle.command_writes.proofs.write.shift_up.Goals as goal

pub returns : goal.returns
returns c = c.copy_within.ensures.after ∙ copied_up _ _ 4 _ (omega arith)
