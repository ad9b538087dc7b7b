-- `command_glob::Pattern::glob` meets its contract. Assumes nothing.
use Rattle.command_glob.proofs.Ends.{end_room, end_there, end_refuses}
use Rattle.command_glob.proofs.Pattern.glob.Goals as goal

pub overflow_sub-name : goal.overflow_sub-name
overflow_sub-name c = search end_room

pub front_matches-requires : goal.front_matches-requires
front_matches-requires c = search end_there

pub returns-else-end_matches : goal.returns-else-end_matches
returns-else-end_matches c = rw c.if-end_matches.false (search end_refuses)
