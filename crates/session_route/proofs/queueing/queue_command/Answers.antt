-- `session_route::queueing::queue_command` meets its contract. By the test of the limits, and by what was put. Assumes nothing.
use Rattle.session_route.proofs.Answering.{put_wrote, put_full}
use Rattle.session_route.proofs.Enqueueing.{room_taken, queued_wrote, queued_full, queue_refused}
use Rattle.session_route.proofs.queueing.queue_command.Goals as goal

pub returns-then-not-takes : goal.returns-then-not-takes
returns-then-not-takes c = search queue_refused

pub returns-in_err-answer : goal.returns-in_err-answer
returns-in_err-answer c = let d = put_full _ _ _ c.in_err-answer.ensures c.from_residual.ensures.1 in search queued_full

pub append-requires-clause-has_room : goal.append-requires-clause-has_room
append-requires-clause-has_room c = search room_taken

pub returns : goal.returns
returns c = let d = put_wrote _ c.in_ok-answer.ensures in search queued_wrote
