-- `command_meaning::kinds::incrby` meets its contract. Assumes nothing.
use Rattle.command_meaning.proofs.KindLaws.{no_amount, amount_here}
use Rattle.command_meaning.proofs.kinds.incrby.Goals as goal

pub returns-in_default : goal.returns-in_default
returns-in_default c = search no_amount

pub returns : goal.returns
returns c = search amount_here
