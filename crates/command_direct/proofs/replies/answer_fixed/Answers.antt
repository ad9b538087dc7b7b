-- `command_direct::replies::answer_fixed` meets its contract. Assumes nothing.
use Rattle.command_room.proofs.Served.{runs_quiet}
use Rattle.command_direct.proofs.replies.answer_fixed.Goals as goal

pub returns : goal.returns
returns c = λ w b valid bound. runs_quiet _ w b _ valid bound c.requires c.put_fixed-put.ensures c.put_answer.ensures
