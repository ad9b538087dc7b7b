-- `session_route::steer::mark_put` meets its contract. By what was put. Assumes nothing.
use Rattle.session_route.proofs.Answering.{put_wrote, put_full, marks_wrote, marks_full}
use Rattle.session_route.proofs.steer.mark_put.Goals as goal

pub returns-in_err-answer : goal.returns-in_err-answer
returns-in_err-answer c = marks_full (put_full _ _ _ c.in_err-answer.ensures c.from_residual.ensures.1)

pub returns : goal.returns
returns c = marks_wrote (put_wrote _ c.in_ok-answer.ensures) c.mark_failed.ensures
