-- `session_queue::takes` meets its contract. One law for each way out. Assumes nothing.
use native.Mathlib.Omega.{arith}
use Rattle.session_memory.proofs.Queueing.{queue_full, arguments_few, arguments_full, bytes_few, bytes_test}
use Rattle.session_queue.proofs.takes.Goals as goal

pub returns-then-queued-ge-MOST_QUEUED : goal.returns-then-queued-ge-MOST_QUEUED
returns-then-queued-ge-MOST_QUEUED c = search queue_full

pub overflow_sub-arguments : goal.overflow_sub-arguments
overflow_sub-arguments c = omega (arith, arguments_few c.requires.queue_sizes c.word-queued.ensures c.sum_within-arguments.ensures)

pub returns-then-arguments-count : goal.returns-then-arguments-count
returns-then-arguments-count c = search arguments_full

pub sum_within-used-requires : goal.sum_within-used-requires
sum_within-used-requires c = omega (arith, arguments_few c.requires.queue_sizes c.word-queued.ensures c.sum_within-arguments.ensures)

pub overflow_sub-left : goal.overflow_sub-left
overflow_sub-left c = omega (arith, bytes_few c.requires.queue_sizes c.word-queued.ensures c.sum_within-arguments.ensures c.sum_within-used.ensures)

pub returns : goal.returns
returns c = search bytes_test
