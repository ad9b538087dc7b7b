-- `call_serve::answer_fault` meets its contract. Assumes nothing.
use Rattle.call_serve.proofs.ServingLaws.{fault_answered}
use Rattle.call_serve.proofs.answer_fault.Goals as goal

pub returns : goal.returns
returns c = fault_answered _ _ _ _ c.put_fault-put.ensures c.close.ensures
