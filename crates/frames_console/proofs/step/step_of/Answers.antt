-- `frames_console::step::step_of` meets its contract. Assumes nothing.
use Rattle.frames_console.proofs.StepLaws.{told_ok, steps_numbered}
use Rattle.frames_console.proofs.step.step_of.Goals as goal

pub step_of_any-requires-clause-told : goal.step_of_any-requires-clause-told
step_of_any-requires-clause-told c = told_ok _ _ c.requires.told

pub returns : goal.returns
returns c = steps_numbered _ _ c.step_of_any.ensures
