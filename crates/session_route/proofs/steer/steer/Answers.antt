-- `session_route::steer::steer` meets its contract. By what was put. Assumes nothing.
use Rattle.session_route.proofs.Answering.{put_wrote, put_full, step_full, step_wrote}
use Rattle.session_route.proofs.steer.steer.Goals as goal

pub returns-in_err-answer : goal.returns-in_err-answer
returns-in_err-answer c = let d = put_full _ _ _ c.in_err-answer.ensures c.from_residual.ensures.1 in search step_full

pub returns : goal.returns
returns c = let d = put_wrote _ c.in_ok-answer.ensures in search step_wrote
