-- `call_serve::serve` meets its contract. Assumes nothing.
use mathlib.Core.Path.{refl}
use Rattle.call_serve.proofs.ServingLaws.{serve_wait, serve_many, serve_fault, serve_parts, serve_whole}
use Rattle.call_serve.proofs.serve.Goals as goal

pub invariant_of-request : goal.invariant_of-request
invariant_of-request c = record { parts_in = serve_parts _ _ _ _ _ _ c.requires _ c.read.ensures c.in-Whole.is }

pub returns-in-Wait-clause-left : goal.returns-in-Wait-clause-left
returns-in-Wait-clause-left c = serve_wait _ _ _ _ _ _ c.requires _ c.read.ensures c.in-Wait.is refl

pub returns-in-Faulty-clause-left : goal.returns-in-Faulty-clause-left
returns-in-Faulty-clause-left c = serve_fault _ _ _ _ _ _ c.requires _ c.read.ensures c.in-Faulty.is c.answer_fault.ensures

pub returns-in-TooMany-clause-left : goal.returns-in-TooMany-clause-left
returns-in-TooMany-clause-left c = serve_many _ _ _ _ _ _ c.requires _ c.read.ensures c.in-TooMany.is refl

pub returns-in-Whole-clause-left : goal.returns-in-Whole-clause-left
returns-in-Whole-clause-left c = serve_whole _ _ _ _ _ _ c.requires _ c.read.ensures c.in-Whole.is c.answer_whole.ensures.left
