-- `command_meaning::executed_of` meets its contract. One law for each way out. Assumes nothing.
use Rattle.command_spec.proofs.PlaceLaws.{arguments_count}
use Rattle.command_meaning.proofs.NameLaws.{right_named, right_count, with_options_lem, wrong_count}
use borrow.Author.Rules.{rules}
use Rattle.command_meaning.proofs.executed_of.Goals as goal

pub returns-then-not-count_right : goal.returns-then-not-count_right
returns-then-not-count_right c = search (wrong_count, arguments_count)

pub returns-then-with_options : goal.returns-then-with_options
returns-then-with_options c = search (with_options_lem, arguments_count)

pub meaning_of-requires-clause-count_value : goal.meaning_of-requires-clause-count_value
meaning_of-requires-clause-count_value c = search (right_named, rules)

pub returns : goal.returns
returns c = search (right_count, arguments_count)
