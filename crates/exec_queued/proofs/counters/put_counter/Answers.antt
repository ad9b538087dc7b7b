-- `exec_queued::counters::put_counter` meets its contract. Assumes nothing.
use Rattle.exec_queued.proofs.CounterLaws.{counter_fits}
use Rattle.exec_queued.proofs.counters.put_counter.Goals as goal

pub put-requires-clause-row_fits : goal.put-requires-clause-row_fits
put-requires-clause-row_fits c = search counter_fits
