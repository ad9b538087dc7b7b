-- `command_direct::run::run_tombstones` meets its contract. Assumes nothing.
use Rattle.command_direct.proofs.Commands.{deletion_room, deletion_written}
use borrow.Author.Rules.{rules}
use Rattle.command_direct.proofs.run.run_tombstones.Goals as goal

pub commit_tombstones-requires-clause-room_for_all : goal.commit_tombstones-requires-clause-room_for_all
commit_tombstones-requires-clause-room_for_all c = search (rules, deletion_room)

pub returns : goal.returns
returns c = search (rules, deletion_written)
