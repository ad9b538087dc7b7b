-- `command_meaning::options::scan_option` meets its contract. One law for each way out. Assumes nothing.
use Rattle.command_spec.proofs.PlaceLaws.{arguments_count}
use Rattle.command_meaning.proofs.OptionLaws.{match_here, neither_here, no_count, count_here}
use Rattle.command_meaning.proofs.options.scan_option.Goals as goal

pub returns-then-same : goal.returns-then-same
returns-then-same c = search (match_here, arguments_count)

pub returns-in_default : goal.returns-in_default
returns-in_default c = search (no_count, arguments_count)

pub returns-then-same-2 : goal.returns-then-same-2
returns-then-same-2 c = search (count_here, arguments_count)

pub returns : goal.returns
returns c = search (neither_here, arguments_count)
