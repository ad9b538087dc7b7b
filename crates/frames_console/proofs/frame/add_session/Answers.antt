-- `frames_console::frame::add_session` meets its contract. Assumes nothing.
use native.Mathlib.Omega.{arith}
use Rattle.frames_console.proofs.PageLaws.{short_added, head_short}
use Rattle.frames_console.proofs.frame.add_session.Goals as goal

pub overflow_add-result : goal.overflow_add-result
overflow_add-result c = omega (arith, (short_added c.requires.free c.put_session-put.ensures (head_short _)).within)

pub returns : goal.returns
returns c = rw c.unwrap_or.ensures (short_added c.requires.free c.put_session-put.ensures (head_short _))
