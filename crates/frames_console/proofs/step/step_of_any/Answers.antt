-- `frames_console::step::step_of_any` meets its contract. Assumes nothing.
use Rattle.frames_console.proofs.StepLaws.{steps_none, steps_some}
use Rattle.frames_console.proofs.step.step_of_any.Goals as goal

pub returns-in-Ok : goal.returns-in-Ok
returns-in-Ok g c = steps_none g.E.Into.converts _ _ c.in-Ok.is c.if-answer-eq0.true

pub returns-in-Ok-2 : goal.returns-in-Ok-2
returns-in-Ok-2 g c = steps_some g.E.Into.converts _ _ c.in-Ok-2.is (λ z. c.if-answer-eq0.false (cc (z, c.in-Ok.is, c.in-Ok-2.is))) c.done_with-done.ensures
