-- `command_meaning::options::scan` meets its contract. Assumes nothing.
use Rattle.command_meaning.proofs.OptionLaws.{no_cursor, cursor_here}
use Rattle.command_meaning.proofs.options.scan.Goals as goal

pub returns-in_default : goal.returns-in_default
returns-in_default c = search no_cursor

pub returns : goal.returns
returns c = search cursor_here
