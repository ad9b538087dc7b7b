-- `frames_console::step::done_with` meets its contract. Assumes nothing.
use Rattle.frames_console.proofs.StepLaws.{done_all, done_empty, done_closed, done_used}
use Rattle.frames_console.proofs.step.done_with.Goals as goal

pub returns-then-input-used : goal.returns-then-input-used
returns-then-input-used c = search done_all

pub returns-then-reply-eq0 : goal.returns-then-reply-eq0
returns-then-reply-eq0 c = search done_empty

pub returns-then-first_quits : goal.returns-then-first_quits
returns-then-first_quits c = search done_closed

pub returns : goal.returns
returns c = search done_used
