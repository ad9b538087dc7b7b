-- `frames_console::serve::after_step` meets its contract. Assumes nothing.
use Rattle.frames_console.proofs.StepLaws.{after_refused, after_waits, after_used}
use Rattle.frames_console.proofs.serve.after_step.Goals as goal

pub returns-in-Refused : goal.returns-in-Refused
returns-in-Refused c = search after_refused

pub returns-in-Waits : goal.returns-in-Waits
returns-in-Waits c = search after_waits

pub returns-in-Used : goal.returns-in-Used
returns-in-Used c = after_used _ _ _ _ c.in-Used.is c.replied_after.ensures c.move_reply.ensures
