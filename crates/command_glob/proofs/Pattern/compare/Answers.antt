-- `command_glob::Pattern::compare` meets its contract. One law for each answer. Assumes nothing.
use Rattle.command_glob.proofs.Ends.{end_room, end_there, told_yes, told_no, told_end, told_none}
use Rattle.command_glob.proofs.Pattern.compare.Goals as goal

pub overflow_sub-name : goal.overflow_sub-name
overflow_sub-name c = search end_room

pub front_matches-requires : goal.front_matches-requires
front_matches-requires c = search end_there

pub returns-then-front_matches : goal.returns-then-front_matches
returns-then-front_matches c = search told_yes

pub returns-then-end_matches : goal.returns-then-end_matches
returns-then-end_matches c = search told_no

pub returns-then-self-gt0 : goal.returns-then-self-gt0
returns-then-self-gt0 c = search told_end

pub returns : goal.returns
returns c = search told_none
