-- `session_route::watching::watch_by_row` meets its contract. By the argument count. Assumes nothing.
use Rattle.session_route.proofs.WatchAnswers.{count_right_lem, count_wrong}
use Rattle.session_route.proofs.watching.watch_by_row.Goals as goal

pub returns-then-count_right : goal.returns-then-count_right
returns-then-count_right c = search count_right_lem

pub returns : goal.returns
returns c = search count_wrong
