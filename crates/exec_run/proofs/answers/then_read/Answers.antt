-- `exec_run::answers::then_read` meets its contract. Assumes nothing.
use Rattle.command_meaning.proofs.KindLaws.{least_one, least_value, least_echo}
use Rattle.exec_run.proofs.AnswerLaws.{read_value, read_live, read_values, read_echo, read_says}
use Rattle.exec_run.proofs.answers.then_read.Goals as goal

pub argument-requires : goal.argument-requires
argument-requires c = search least_value

pub then_live-requires : goal.then_live-requires
then_live-requires c = search least_one

pub then_values-requires : goal.then_values-requires
then_values-requires c = search least_one

pub argument-requires-in-Echo : goal.argument-requires-in-Echo
argument-requires-in-Echo c = search least_echo

pub returns-in-Value : goal.returns-in-Value
returns-in-Value c = search read_value

pub returns-in-Live : goal.returns-in-Live
returns-in-Live c = search read_live

pub returns-in-Values : goal.returns-in-Values
returns-in-Values c = search read_values

pub returns-in-Echo : goal.returns-in-Echo
returns-in-Echo c = search read_echo

pub returns-in-Says : goal.returns-in-Says
returns-in-Says c = search read_says
