-- `command_direct::run::admit_pairs` meets its contract. Assumes nothing.
use Rattle.command_direct.proofs.Commands.{admits_pairs}
use Rattle.command_direct.proofs.run.admit_pairs.Goals as goal

pub returns : goal.returns
returns c = search admits_pairs
