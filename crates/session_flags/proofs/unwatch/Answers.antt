-- `session_flags::unwatch` meets its contract. One store. Assumes nothing.
use Rattle.session_memory.proofs.Kept.{unwatch_left}
use Rattle.session_flags.proofs.unwatch.Goals as goal

pub returns : goal.returns
returns c = search unwatch_left
