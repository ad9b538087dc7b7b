-- `call_serve::answer_whole` meets its contract. Assumes nothing.
use Rattle.call_serve.proofs.ServingLaws.{whole_empty, whole_named}
use Rattle.call_serve.proofs.answer_whole.Goals as goal

pub returns-then-request-eq0-clause-left : goal.returns-then-request-eq0-clause-left
returns-then-request-eq0-clause-left c = whole_empty _ _ _ _ _ _ _ _ c.if-request-eq0.true c.requires

pub returns-clause-left : goal.returns-clause-left
returns-clause-left c = whole_named c.args.request.now _ _ _ _ _ _ c.new.ensures c.if-request-eq0.false c.respond.ensures.left
