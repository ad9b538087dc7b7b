-- `exec_queued::counters::put_text` meets its contract. Assumes nothing.
use Rattle.exec_queued.proofs.CounterLaws.{text_put, no_room, text_sum}
use Rattle.exec_queued.proofs.counters.put_text.Goals as goal

pub overflow_add-result : goal.overflow_add-result
overflow_add-result c = search text_sum

pub returns-in-Some : goal.returns-in-Some
returns-in-Some c = search text_put

pub returns-in-None : goal.returns-in-None
returns-in-None c = search no_room
