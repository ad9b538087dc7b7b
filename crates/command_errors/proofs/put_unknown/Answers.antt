-- `command_errors::put_unknown` meets its contract. Assumes nothing.
use Rattle.command_spec.proofs.ErrorTexts.{write_unknown}
use Rattle.command_errors.proofs.put_unknown.Goals as goal

pub returns : goal.returns
returns c = search write_unknown
