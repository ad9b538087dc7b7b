-- `session_memory::sum_within` meets its contract. At distance 1 the words are a part. Assumes nothing.
use Rattle.session_memory.proofs.Sums.{every_part}
use Rattle.session_memory.proofs.sum_within.Goals as goal

pub returns : goal.returns
returns c = rw (every_part c.args.from c.args.count c.args.words.now c.requires.0) at c.sum_every.ensures
