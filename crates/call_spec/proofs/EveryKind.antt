-- EVERY KIND OF CALL pays what it owes. Only here do the laws go by the kind of call.
use Rattle.call_spec.specs.Calls.{Call, request, grouped, preview}
use Rattle.call_spec.specs.Demand3.{FedClaim, Quiet}
use Rattle.call_spec.proofs.QuietLaws.{asked_inside, asked_outside}
use Rattle.call_spec.proofs.KindLaws.{Kind}
use Rattle.call_spec.proofs.RequestLaws.{request_kind}
use Rattle.call_spec.proofs.GroupLaws.{group_kind}
use Rattle.call_spec.proofs.PreviewLaws.{preview_kind}

pub kind : (c : Call) → Kind c
kind (request i input places room) = request_kind i input places room
kind (grouped ms parts d verdicts) = group_kind ms parts d verdicts
kind (preview i room) = preview_kind i room

-- what posting reads of an outcome, and what posts nothing
pub fed : FedClaim
fed c = (kind c).fed

pub quiet : Quiet
quiet = record { inside = asked_inside; outside = asked_outside; numbers = λ c. (kind c).numbers }
