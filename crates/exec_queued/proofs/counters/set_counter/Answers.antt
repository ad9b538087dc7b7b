-- `exec_queued::counters::set_counter` meets its contract. Assumes nothing.
use mir.Facts.{to_z-of_z}
use Rattle.exec_queued.proofs.CounterLaws.{counter_own, counter_set}
use Rattle.exec_queued.proofs.counters.set_counter.Goals as goal

pub put_counter-rows-requires-clause-own : goal.put_counter-rows-requires-clause-own
put_counter-rows-requires-clause-own c = counter_own _ _ c.args.at c.requires.own c.requires.key_in c.requires.used_in_bounds (to_z-of_z c.ranges.n) c.put_text-used.ensures

pub returns : goal.returns
returns c = counter_set _ _ c.args.at c.requires.own c.requires.key_in c.requires.used_in_bounds (to_z-of_z c.ranges.n) c.put_text-used.ensures c.then_int-put.ensures c.put_counter-rows.ensures
