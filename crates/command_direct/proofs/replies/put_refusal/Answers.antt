-- `command_direct::replies::put_refusal` meets its contract. Assumes nothing.
use Rattle.command_direct.proofs.Answering.{refusal_says, refusal_arity, refusal_unknown}
use Rattle.command_direct.proofs.replies.put_refusal.Goals as goal

pub returns-in-Says : goal.returns-in-Says
returns-in-Says c = search refusal_says

pub returns-in-Arity : goal.returns-in-Arity
returns-in-Arity c = search refusal_arity

pub returns-in-Unknown : goal.returns-in-Unknown
returns-in-Unknown c = search refusal_unknown
