-- `command_direct::run::put_integer_text` meets its contract. Assumes nothing.
use Rattle.command_direct.proofs.Commands.{integer_text_lem}
use Rattle.command_direct.proofs.run.put_integer_text.Goals as goal

pub returns : goal.returns
returns c = search integer_text_lem
