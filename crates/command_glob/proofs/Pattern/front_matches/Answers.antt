-- `command_glob::Pattern::front_matches` meets its contract. One law for each answer. Assumes nothing.
use Rattle.command_glob.proofs.Ends.{front_none, front_last}
use Rattle.command_glob.proofs.Globbing.{walked_star, glob_whole, glob_fails, glob_star}
use Rattle.command_glob.proofs.Pattern.front_matches.Goals as goal

pub returns-then-self-eq0 : goal.returns-then-self-eq0
returns-then-self-eq0 c = search front_none

pub returns-then-next-self : goal.returns-then-next-self
returns-then-next-self c = search (front_last, walked_star)

pub returns-in-Whole : goal.returns-in-Whole
returns-in-Whole c = search glob_whole

pub returns-in-Fails : goal.returns-in-Fails
returns-in-Fails c = search glob_fails

pub returns-else-next-self : goal.returns-else-next-self
returns-else-next-self c = search (glob_star, walked_star)
