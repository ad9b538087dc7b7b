-- `session_queue::append` meets its contract. The steps' own words together, `append_left`. Assumes nothing.
use native.Mathlib.Omega.{arith}
use Rattle.session_memory.proofs.Queueing.{append_places, append_room, append_left}
use Rattle.session_queue.proofs.append.Goals as goal

pub sum_within-used-requires : goal.sum_within-used-requires
sum_within-used-requires c = omega (arith, append_places c.requires.held c.args.request.now.parts_in c.requires.has_room c.word-queued.ensures c.sum_within-arguments.ensures, c.requires.held.words)

pub overflow_add-arguments : goal.overflow_add-arguments
overflow_add-arguments c = omega (arith, append_places c.requires.held c.args.request.now.parts_in c.requires.has_room c.word-queued.ensures c.sum_within-arguments.ensures)

pub put_lengths-requires : goal.put_lengths-requires
put_lengths-requires c = omega (arith, append_places c.requires.held c.args.request.now.parts_in c.requires.has_room c.word-queued.ensures c.sum_within-arguments.ensures, c.requires.held.words, c.args.request.now.parts_in.table)

pub overflow_add-used : goal.overflow_add-used
overflow_add-used c = omega (arith, append_room c.requires.held c.args.request.now.parts_in c.requires.has_room c.word-queued.ensures c.sum_within-arguments.ensures c.sum_within-used.ensures)

pub put_arguments-requires : goal.put_arguments-requires
put_arguments-requires c = omega (arith, append_room c.requires.held c.args.request.now.parts_in c.requires.has_room c.word-queued.ensures c.sum_within-arguments.ensures c.sum_within-used.ensures, c.requires.held.bytes)

pub returns : goal.returns
returns c = append_left c.requires.held c.args.request.now.parts_in c.requires.has_room c.word-queued.ensures c.sum_within-arguments.ensures c.sum_within-used.ensures c.put_lengths.ensures c.put_arguments.ensures
