-- `exec_run::queued::run_queued` meets its contract. Assumes nothing.
use mir.Facts.{to_z-of_z}
use mir.Syntax.{w64}
use Rattle.command_meaning.proofs.KindLaws.{pairs_counted, counter_counted, read_counted}
use Rattle.exec_run.proofs.QueuedLaws.{queued_pairs, queued_tombstones, queued_counter, queued_read}
use borrow.Author.Rules.{rules}
use Rattle.exec_run.proofs.queued.run_queued.Goals as goal

pub run_pairs-requires-clause-in_pairs : goal.run_pairs-requires-clause-in_pairs
run_pairs-requires-clause-in_pairs c = search pairs_counted

pub run_counter-requires-clause-le_count : goal.run_counter-requires-clause-le_count
run_counter-requires-clause-le_count c = search counter_counted

pub then_read-put-requires : goal.then_read-put-requires
then_read-put-requires c = search read_counted

pub returns-in-Pairs : goal.returns-in-Pairs
returns-in-Pairs c = search queued_pairs

pub returns-in-Tombstones : goal.returns-in-Tombstones
returns-in-Tombstones c = search queued_tombstones

pub returns-in-Counter : goal.returns-in-Counter
returns-in-Counter c = queued_counter _ _ _ _ _ _ _ c.args.at c.kind_at.ensures c.in-Counter.is (to_z-of_z {w = w64} (record { sfits = (search rules) })) c.run_counter.ensures

pub returns-in-Reads : goal.returns-in-Reads
returns-in-Reads c = search queued_read
