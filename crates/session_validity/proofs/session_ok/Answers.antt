-- `session_validity::session_ok` meets its contract. The two tests together. Assumes nothing.
use Rattle.session_validity.proofs.SessionTests.{watch_wrong, queue_test}
use Rattle.session_validity.proofs.session_ok.Goals as goal

pub returns-then-watch_ok : goal.returns-then-watch_ok
returns-then-watch_ok c = search queue_test

pub returns-else-watch_ok : goal.returns-else-watch_ok
returns-else-watch_ok c = search watch_wrong
