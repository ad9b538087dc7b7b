-- `session_route::steer::change` meets its contract. A reply leaves the head. Assumes nothing.
use Rattle.session_route.proofs.Answering.{reply_leaves}
use Rattle.session_route.proofs.steer.change.Goals as goal

pub returns-in-Reply : goal.returns-in-Reply
returns-in-Reply c = search reply_leaves
