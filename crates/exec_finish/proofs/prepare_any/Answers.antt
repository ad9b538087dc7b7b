-- `exec_finish::prepare_any` meets its contract. Assumes nothing.
use borrow.Author.Rules.{rules}
use Rattle.exec_finish.specs.Deciding.{prepared_by}
use Rattle.exec_finish.proofs.prepare_any.Goals as goal

pub returns-in_err-reply-clause-numbers : goal.returns-in_err-reply-clause-numbers
unfolding prepared_by
returns-in_err-reply-clause-numbers g c = λ byte. search rules

pub returns-clause-numbers : goal.returns-clause-numbers
unfolding prepared_by
returns-clause-numbers g c = λ byte. search rules
