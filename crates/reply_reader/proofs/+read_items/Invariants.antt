-- The proof of the cycle of calls {`reply_reader::read_items`}. The measure is the depth. The invariant: so many items are read and stand in
-- the table, `Passed`. Assumes nothing.
use Rattle.reply_reader.proofs.Passing.{Passed}
use Rattle.reply_reader.proofs.+read_items.Given as goal

abbrev pub decreases-read_items : goal.decreases-read_items
decreases-read_items l = l.depth

abbrev pub invariant-loop : goal.invariant-loop
invariant-loop l = Passed l.input l.initial.items l.items l.depth l.count l.first l.from l.counter l.n l.at
