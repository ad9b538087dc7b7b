-- `command_direct::replies::answer_refusal` meets its contract. Assumes nothing.
use Rattle.command_room.proofs.Served.{runs_quiet}
use Rattle.command_direct.proofs.replies.answer_refusal.Goals as goal

pub returns : goal.returns
returns c = λ w b valid bound. runs_quiet _ w b _ valid bound c.requires.out_value c.put_refusal-put.ensures c.put_answer.ensures
