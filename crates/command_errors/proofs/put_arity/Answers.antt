-- `command_errors::put_arity` meets its contract. Assumes nothing.
use Rattle.command_spec.proofs.ErrorTexts.{write_arity}
use Rattle.command_errors.proofs.put_arity.Goals as goal

pub returns : goal.returns
returns c = search write_arity
