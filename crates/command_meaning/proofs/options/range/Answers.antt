-- `command_meaning::options::range` meets its contract. One law for each way out. Assumes nothing.
use Rattle.command_spec.proofs.PlaceLaws.{arguments_count}
use Rattle.command_meaning.proofs.OptionLaws.{no_limit, odd_rest, other_option, bad_limit, limit_here}
use Rattle.command_meaning.proofs.options.range.Goals as goal
use Rattle.command_meaning.proofs.options.range.Goals.{then-request-ne5-via-then-request-ne5, then-request-ne5-via-else-request-ne5+then-not-same}

pub returns-then-request-eq3 : goal.returns-then-request-eq3
returns-then-request-eq3 c = search (no_limit, arguments_count)

pub returns-then-request-ne5 : goal.returns-then-request-ne5
returns-then-request-ne5 c =
    elim c.then-request-ne5.branch [
      | then-request-ne5-via-then-request-ne5 w ↦ search (odd_rest, arguments_count)
      | then-request-ne5-via-else-request-ne5+then-not-same w ↦ search (other_option, arguments_count)
    ]

pub returns-in_default : goal.returns-in_default
returns-in_default c = search (bad_limit, arguments_count)

pub returns : goal.returns
returns c = search (limit_here, arguments_count)
