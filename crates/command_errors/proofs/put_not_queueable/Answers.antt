-- `command_errors::put_not_queueable` meets its contract. Assumes nothing.
use Rattle.command_spec.proofs.ErrorTexts.{write_not_queueable}
use Rattle.command_errors.proofs.put_not_queueable.Goals as goal

pub returns : goal.returns
returns c = search write_not_queueable
