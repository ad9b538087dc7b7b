-- `command_direct::kinds::run_kind` meets its contract. Assumes nothing.
use Rattle.command_meaning.proofs.KindLaws.{counter_counted, read_counted}
use Rattle.command_direct.proofs.KindRuns.{pairs_in, pairs_some, tombstones_some, runs_counter, runs_pairs, runs_read, runs_tombstones}
use borrow.Author.Rules.{rules}
use Rattle.command_direct.proofs.kinds.run_kind.Goals as goal

pub overflow_sub-request : goal.overflow_sub-request
overflow_sub-request c = search pairs_some

pub run_pairs-requires-clause-pairs_inside : goal.run_pairs-requires-clause-pairs_inside
run_pairs-requires-clause-pairs_inside c = search pairs_in

pub run_tombstones-requires-clause-le_count : goal.run_tombstones-requires-clause-le_count
run_tombstones-requires-clause-le_count c = search tombstones_some

pub argument-requires : goal.argument-requires
argument-requires c = search counter_counted

pub answer_read-requires-clause-read_bound : goal.answer_read-requires-clause-read_bound
answer_read-requires-clause-read_bound c = search read_counted

pub returns-in-Pairs : goal.returns-in-Pairs
returns-in-Pairs c = search runs_pairs

pub returns-in-Tombstones : goal.returns-in-Tombstones
returns-in-Tombstones c = search runs_tombstones

pub returns-in-Counter : goal.returns-in-Counter
returns-in-Counter c = search (runs_counter, rules)

pub returns-in-Reads : goal.returns-in-Reads
returns-in-Reads c = search runs_read
