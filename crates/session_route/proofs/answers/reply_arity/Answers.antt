-- `session_route::answers::reply_arity` meets its contract. The reply alone, `only-replied`. Assumes nothing.
use Rattle.session_route.proofs.Answering.{only_replied}
use Rattle.session_route.proofs.answers.reply_arity.Goals as goal

pub returns : goal.returns
returns c = search only_replied
