-- `command_direct::run::admit_text` meets its contract. Assumes nothing.
use Rattle.command_direct.proofs.Commands.{admits_text}
use Rattle.command_direct.proofs.run.admit_text.Goals as goal

pub returns : goal.returns
returns c = search admits_text
