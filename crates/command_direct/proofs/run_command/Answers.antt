-- `command_direct::run_command` meets its contract. Assumes nothing.
use Rattle.command_direct.proofs.Executing.{run_counted, list_counted, run_answers, list_answers, refusal_answers}
use Rattle.command_direct.proofs.run_command.Goals as goal

pub run_kind-requires-clause-kind_counted : goal.run_kind-requires-clause-kind_counted
run_kind-requires-clause-kind_counted c = search run_counted

pub answer_listing-requires-clause-listing_counted : goal.answer_listing-requires-clause-listing_counted
answer_listing-requires-clause-listing_counted c = search list_counted

pub returns-in-Runs : goal.returns-in-Runs
returns-in-Runs c = search run_answers

pub returns-in-Lists : goal.returns-in-Lists
returns-in-Lists c = search list_answers

pub returns-in-Refused : goal.returns-in-Refused
returns-in-Refused c = search (refusal_answers, c.answer_refusal.ensures)
