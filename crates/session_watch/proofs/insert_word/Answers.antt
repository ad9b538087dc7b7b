-- `session_watch::insert_word` meets its contract. The move opens a gap, and the word fills it. Assumes nothing.
use Rattle.session_memory.proofs.Watching.{word_inserted}
use Rattle.session_watch.proofs.insert_word.Goals as goal

pub returns : goal.returns
returns c = word_inserted c.args.lens.now c.args.at c.args.count c.args.value c.copy_within.ensures.after c.requires.0 c.requires.1
