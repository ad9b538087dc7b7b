use Rattle.resp_spec.proofs.Lines.{feed_here, feed_not_yet, feed_too_far}
use Rattle.resp_spec.proofs.line.find_feed.Goals as goal

pub returns-in-Some : goal.returns-in-Some
returns-in-Some c = search feed_here

pub returns-in-None : goal.returns-in-None
returns-in-None c = search feed_not_yet

pub returns-in-None-2 : goal.returns-in-None-2
returns-in-None-2 c = search feed_too_far
