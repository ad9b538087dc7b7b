use Rattle.exec_run.proofs.WalkLaws.{walking_none, count_least, may_queue_lem, places_in, few_places, lent_within, may_run, walking_more, walked_all}
use native.Mathlib.Omega.{arith}
use Rattle.exec_run.proofs.queued.run_queue.Goals as goal

pub loop-i-init : goal.loop-i-init
loop-i-init c = search walking_none

pub overflow_mul-end : goal.overflow_mul-end
overflow_mul-end c = omega (arith, few_places c.loop-i.invariant c.requires.queued c.word-queued.ensures c.loop-i-test.true c.word-count.ensures)

pub overflow_add-end : goal.overflow_add-end
overflow_add-end c = omega (arith, few_places c.loop-i.invariant c.requires.queued c.word-queued.ensures c.loop-i-test.true c.word-count.ensures)

pub slice_bounds-run_queued-end : goal.slice_bounds-run_queued-end
slice_bounds-run_queued-end c = places_in c.loop-i.invariant c.requires.queued c.word-queued.ensures c.loop-i-test.true c.word-count.ensures

pub slice_bounds-run_queued-count-in-loop-i : goal.slice_bounds-run_queued-count-in-loop-i
slice_bounds-run_queued-count-in-loop-i c = search lent_within

pub slice_bounds-run_queued-start-in-loop-i : goal.slice_bounds-run_queued-start-in-loop-i
slice_bounds-run_queued-start-in-loop-i c = search lent_within

pub run_queued-at-requires-clause-may_run : goal.run_queued-at-requires-clause-may_run
run_queued-at-requires-clause-may_run c = may_run c.loop-i.invariant c.requires.queued c.word-queued.ensures c.loop-i-test.true c.word-count.ensures c.requires.session_words_in_bounds

pub run_queued-at-requires-clause-le_count : goal.run_queued-at-requires-clause-le_count
run_queued-at-requires-clause-le_count c = count_least c.loop-i.invariant c.requires.queued c.word-queued.ensures c.loop-i-test.true c.word-count.ensures

pub run_queued-at-requires-clause-data_value : goal.run_queued-at-requires-clause-data_value
run_queued-at-requires-clause-data_value c = may_queue_lem c.loop-i.invariant c.requires.queued c.word-queued.ensures c.loop-i-test.true c.word-count.ensures

pub overflow_add-first : goal.overflow_add-first
overflow_add-first c = omega (arith, few_places c.loop-i.invariant c.requires.queued c.word-queued.ensures c.loop-i-test.true c.word-count.ensures)

pub loop-i-preserved : goal.loop-i-preserved
loop-i-preserved c = walking_more c.loop-i.invariant c.requires.queued c.word-queued.ensures c.loop-i-test.true c.word-count.ensures c.put_head.ensures c.lent_from-lent.ensures c.run_queued-at.ensures

pub returns : goal.returns
returns c = search walked_all
