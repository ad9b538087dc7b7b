use native.Mathlib.Omega.{arith}
use Rattle.session_validity.proofs.Validity.{naming_more, name_room, lengths_room, places_fit, not_queueable_lem, all_queueable_lem}
use Rattle.session_validity.proofs.commands_queueable.Goals as goal

pub command_queueable-requires : goal.command_queueable-requires
command_queueable-requires c = name_room c.requires c.loop-i.invariant c.loop-i-test.true c.word-size.ensures

pub sum_within-start-requires : goal.sum_within-start-requires
sum_within-start-requires c = omega (arith, c.word-size.ensures, lengths_room c.requires c.loop-i.invariant c.loop-i-test.true)

pub overflow_add-start : goal.overflow_add-start
overflow_add-start c = omega (arith, places_fit c.requires c.loop-i.invariant c.loop-i-test.true c.word-size.ensures c.command_queueable.ensures c.sum_within-start.ensures)

pub overflow_add-first-in-loop-i : goal.overflow_add-first-in-loop-i
overflow_add-first-in-loop-i c = omega (arith, places_fit c.requires c.loop-i.invariant c.loop-i-test.true c.word-size.ensures c.command_queueable.ensures c.sum_within-start.ensures)

pub loop-i-preserved : goal.loop-i-preserved
loop-i-preserved c = search naming_more

pub returns-then-not-command_queueable : goal.returns-then-not-command_queueable
returns-then-not-command_queueable c = search not_queueable_lem

pub returns : goal.returns
returns c = search all_queueable_lem
