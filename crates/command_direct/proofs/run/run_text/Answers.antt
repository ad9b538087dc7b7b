-- `command_direct::run::run_text` meets its contract. Assumes nothing.
use Rattle.command_direct.proofs.Commands.{text_room, text_written}
use borrow.Author.Rules.{rules}
use Rattle.command_direct.proofs.run.run_text.Goals as goal

pub commit_one-requires : goal.commit_one-requires
commit_one-requires c = search (rules, text_room)

pub returns : goal.returns
returns c = search (rules, text_written)
