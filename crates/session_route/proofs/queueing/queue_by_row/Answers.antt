-- `session_route::queueing::queue_by_row` meets its contract. By the argument count, and whether SET has options. Assumes nothing.
use Rattle.session_route.proofs.Enqueueing.{queue_miscounted, queue_options, queue_counted}
use Rattle.session_route.proofs.queueing.queue_by_row.Goals as goal

pub returns-then-not-count_right : goal.returns-then-not-count_right
returns-then-not-count_right c = search queue_miscounted

pub returns-then-with_options : goal.returns-then-with_options
returns-then-with_options c = search queue_options

pub returns : goal.returns
returns c = search queue_counted
