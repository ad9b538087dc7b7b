-- `frames_console::frame::add_malformed` meets its contract. Assumes nothing.
use native.Mathlib.Omega.{arith}
use Rattle.frames_console.proofs.PageLaws.{short_added, malformed_short}
use Rattle.frames_console.proofs.frame.add_malformed.Goals as goal

pub overflow_add-result : goal.overflow_add-result
overflow_add-result c = omega (arith, (short_added c.requires c.put_malformed-put.ensures malformed_short).within)

pub returns : goal.returns
returns c = rw c.unwrap_or.ensures (short_added c.requires c.put_malformed-put.ensures malformed_short)
