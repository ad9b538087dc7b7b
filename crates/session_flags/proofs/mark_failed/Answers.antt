-- `session_flags::mark_failed` meets its contract. By the old mark. Assumes nothing.
use Rattle.session_memory.proofs.Kept.{mark_new, mark_old}
use Rattle.session_flags.proofs.mark_failed.Goals as goal

pub returns-then-words-eq0 : goal.returns-then-words-eq0
returns-then-words-eq0 c = search mark_new

pub returns-else-words-eq0 : goal.returns-else-words-eq0
returns-else-words-eq0 c = search mark_old
