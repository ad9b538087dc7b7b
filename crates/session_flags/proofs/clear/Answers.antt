-- `session_flags::clear` meets its contract. Four stores in a row. Assumes nothing.
use Rattle.session_memory.proofs.Kept.{clear_left}
use Rattle.session_flags.proofs.clear.Goals as goal

pub returns : goal.returns
returns c = search clear_left
