-- `command_direct::run::admit_tombstones` meets its contract. Assumes nothing.
use Rattle.command_direct.proofs.Commands.{admits_tombstones}
use Rattle.command_direct.proofs.run.admit_tombstones.Goals as goal

pub returns : goal.returns
returns c = search admits_tombstones
