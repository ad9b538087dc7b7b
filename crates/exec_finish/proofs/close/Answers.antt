-- `exec_finish::close` meets its contract. Assumes nothing.
use Rattle.std.proofs.lemmas.Result.{err_from_is_err_and}
use Rattle.exec_finish.proofs.ConcludeLaws.{closes_answered, closes_stopped}
use Rattle.exec_finish.proofs.close.Goals as goal

pub returns-in_err-answer : goal.returns-in_err-answer
returns-in_err-answer c = let p = err_from_is_err_and c.from_residual.result c.from_residual.ensures.1 in rw (p.1, p.2) (closes_stopped _ _ _ c.in_err-answer.ensures)

pub returns : goal.returns
returns c = closes_answered _ _ c.in_ok-answer.ensures c.clear.ensures
