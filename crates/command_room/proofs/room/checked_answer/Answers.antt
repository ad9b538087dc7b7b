-- `command_room::room::checked_answer` meets its contract. Assumes nothing.
use Rattle.command_room.proofs.Checked.{not_answered, long_error, answered_is, not_long}
use Rattle.command_room.proofs.room.checked_answer.Goals as goal

pub returns-in_err-put_answer-clause-answered : goal.returns-in_err-put_answer-clause-answered
returns-in_err-put_answer-clause-answered g c = not_answered _ _ _ _ c.in_err-put_answer.ensures _

pub returns-in_err-put_answer-clause-too_long : goal.returns-in_err-put_answer-clause-too_long
returns-in_err-put_answer-clause-too_long g c = long_error _ _ _ _ c.in_err-put_answer.ensures _ g.E.From.from_gives c.from_residual.ensures.1

pub returns-clause-answered : goal.returns-clause-answered
returns-clause-answered g c = answered_is _ _ _ _ c.in_ok-put_answer.ensures

pub returns-clause-too_long : goal.returns-clause-too_long
returns-clause-too_long g c = not_long _ _ _ _ c.in_ok-put_answer.ensures
