-- `command_glob::token_at` meets its contract. One law for each way out. Assumes nothing.
use Rattle.command_glob.proofs.Globbing.{at_end, star_at, one_at, literal_at, escaped_at, lone_at}
use Rattle.command_glob.proofs.token_at.Goals as goal

pub returns-then-pattern-at : goal.returns-then-pattern-at
returns-then-pattern-at c = search at_end

pub returns-in-42 : goal.returns-in-42
returns-in-42 c = search star_at

pub returns-in-63 : goal.returns-in-63
returns-in-63 c = search one_at

pub returns-in-92 : goal.returns-in-92
returns-in-92 c = search escaped_at

pub returns-in_default : goal.returns-in_default
returns-in_default c = search (lone_at, literal_at)

pub returns-in_default-2 : goal.returns-in_default-2
returns-in_default-2 c = search (lone_at, literal_at)
