-- `frames_console::frame::add_end` meets its contract. Assumes nothing.
use native.Mathlib.Omega.{arith}
use Rattle.frames_console.proofs.PageLaws.{short_added, end_short}
use Rattle.frames_console.proofs.frame.add_end.Goals as goal

pub overflow_add-result : goal.overflow_add-result
overflow_add-result c = omega (arith, (short_added c.requires.free c.put_end-put.ensures (end_short _ _ c.requires.mark_fits)).within)

pub returns : goal.returns
returns c = rw c.unwrap_or.ensures (short_added c.requires.free c.put_end-put.ensures (end_short _ _ c.requires.mark_fits))
