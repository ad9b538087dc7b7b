-- `command_glob::Pattern::end_matches` meets its contract. One law for each answer. Assumes nothing.
use lib.ListN.{length}
use borrow.Author.Tests.{lt-leb}
use Rattle.command_glob.proofs.Ends.{name_short, end_by}
use Rattle.command_glob.proofs.Pattern.end_matches.Goals as goal

pub returns-then-self-name : goal.returns-then-self-name
returns-then-self-name c = search end_by

pub returns-else-self-name : goal.returns-else-self-name
returns-else-self-name c = rw (lt-leb c.args.self.now.count (length c.args.name.now) c.if-self-name.false) (search name_short)
