-- `command_names::table` meets its contract. The rule is computed over the whole constant. Assumes nothing.
use mathlib.Core.Path.{refl}
use Rattle.command_spec.specs.Names.{rows}
use Rattle.command_names.proofs.table.Goals as goal

pub returns : goal.returns
unfolding rows
returns c = record { meant = refl }
