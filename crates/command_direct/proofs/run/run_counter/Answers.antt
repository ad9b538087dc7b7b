-- `command_direct::run::run_counter` meets its contract. Assumes nothing.
use mir.Facts.{to_z-of_z}
use mir.Syntax.{w64}
use Rattle.command_direct.proofs.Commands.{raised_no_integer, raised_overflow, raised_runs}
use Rattle.command_direct.proofs.LastReader.{last_is}
use borrow.Author.Rules.{rules}
use Rattle.command_direct.proofs.run.run_counter.Goals as goal

pub returns-in_default-clause-runs : goal.returns-in_default-clause-runs
returns-in_default-clause-runs c = raised_no_integer _ _ _ _ _ (last_is _ _ c.read.ensures.words c.read.ensures.bytes c.last.ensures) c.held_number.ensures c.in_default.is (c.answer_fixed.ensures _ _ c.args.store.now.valid c.requires.words_bound)

pub returns-in_default-checked_sum-clause-runs : goal.returns-in_default-checked_sum-clause-runs
returns-in_default-checked_sum-clause-runs c = raised_overflow _ _ _ _ _ (last_is _ _ c.read.ensures.words c.read.ensures.bytes c.last.ensures) c.held_number.ensures c.in-Some.is (to_z-of_z {w = w64} (record { sfits = (search rules) })) (to_z-of_z c.ranges.by) c.checked_sum.ensures c.in_default-checked_sum.is (c.answer_fixed-in_default-checked_sum.ensures _ _ c.args.store.now.valid c.requires.words_bound)

pub returns-clause-runs : goal.returns-clause-runs
returns-clause-runs c = raised_runs _ _ _ _ _ (last_is _ _ c.read.ensures.words c.read.ensures.bytes c.last.ensures) c.held_number.ensures c.in-Some.is (to_z-of_z {w = w64} (record { sfits = (search rules) })) (to_z-of_z c.ranges.by) c.checked_sum.ensures c.in-Some-checked_sum.is (to_z-of_z {w = w64} (record { sfits = (search rules) })) c.run_number.ensures.runs
