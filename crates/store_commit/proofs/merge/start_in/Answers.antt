-- `store_commit::merge::start_in` meets its contract. A version's start, or the bytes used behind the last. Assumes nothing.
use Rattle.std.proofs.Common.{rules}
use Rattle.store_memtable.specs.Merging.{start_in}
use Rattle.store_commit.proofs.merge.start_in.Goals as goal

pub returns-then-at-rows : goal.returns-then-at-rows
unfolding start_in
returns-then-at-rows c = search rules

pub returns-else-at-rows : goal.returns-else-at-rows
unfolding start_in
returns-else-at-rows c = search rules
