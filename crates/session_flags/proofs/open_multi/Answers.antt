-- `session_flags::open_multi` meets its contract. Two stores in a row. Assumes nothing.
use Rattle.session_memory.proofs.Kept.{open_left}
use Rattle.session_flags.proofs.open_multi.Goals as goal

pub returns : goal.returns
returns c = search open_left
