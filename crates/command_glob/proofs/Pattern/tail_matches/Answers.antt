use Rattle.command_glob.proofs.Ends.{retry_last}
use Rattle.command_glob.proofs.Globbing.{retry_whole, retry_end, retry_next, retry_star, retry_passed, tails_whole, tails_fail, tails_star}
use Rattle.command_glob.proofs.Pattern.tail_matches.Goals as goal

pub returns-in-Whole : goal.returns-in-Whole
returns-in-Whole c = search (retry_whole, tails_whole)

pub returns-then-at-self : goal.returns-then-at-self
returns-then-at-self c = search (retry_last, retry_star, tails_star)

pub loop-next-preserved-else-at-self : goal.loop-next-preserved-else-at-self
loop-next-preserved-else-at-self c = search (retry_star, tails_star)

pub returns-then-name-from : goal.returns-then-name-from
returns-then-name-from c = search (retry_end, tails_fail)

pub loop-next-preserved : goal.loop-next-preserved
loop-next-preserved c = search (retry_passed, retry_next, tails_fail)
