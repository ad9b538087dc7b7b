-- `exec_queued::counters::run_counter` meets its contract. Assumes nothing.
use mir.Facts.{to_z-of_z}
use mir.Syntax.{w64}
use Rattle.exec_queued.proofs.CounterLaws.{counter_place, counter_bad, counter_over, counter_raised}
use borrow.Author.Rules.{rules}
use Rattle.exec_queued.proofs.counters.run_counter.Goals as goal

pub returns-in_default : goal.returns-in_default
returns-in_default c = counter_bad _ _ _ _ _ _ _ c.args.at c.requires.may_run.kept c.requires.may_run.parts c.requires.le_count c.held_number.ensures c.argument.ensures c.in_default.is c.answer_error.ensures

pub returns-in_default-checked_sum : goal.returns-in_default-checked_sum
returns-in_default-checked_sum c = counter_over _ _ _ _ _ _ _ c.args.at c.requires.may_run.kept c.requires.may_run.parts c.requires.le_count c.held_number.ensures c.argument.ensures c.in-Some.is (to_z-of_z {w = w64} (record { sfits = (search rules) })) (to_z-of_z c.ranges.by) c.checked_sum.ensures c.in_default-checked_sum.is c.answer_error-in_default-checked_sum.ensures

pub set_counter-requires-clause-key_in : goal.set_counter-requires-clause-key_in
set_counter-requires-clause-key_in c = counter_place c.requires.may_run.parts c.requires.le_count

pub returns : goal.returns
returns c = counter_raised _ _ _ _ _ _ _ c.args.at c.requires.may_run.kept c.requires.may_run.parts c.requires.le_count c.held_number.ensures c.argument.ensures c.in-Some.is (to_z-of_z {w = w64} (record { sfits = (search rules) })) (to_z-of_z c.ranges.by) c.checked_sum.ensures c.in-Some-checked_sum.is (to_z-of_z {w = w64} (record { sfits = (search rules) })) c.set_counter.ensures
