-- `command_lookup::values::then_values` meets its contract. Assumes nothing.
use Rattle.base_writing.proofs.Puts.{adds}
use Rattle.command_lookup.proofs.values.then_values.Goals as goal

pub returns : goal.returns
returns c = search adds
