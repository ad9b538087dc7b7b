-- `frames_console::serve::put_reply` meets its contract. Assumes nothing.
use native.Mathlib.Omega.{arith}
use Rattle.frames_console.proofs.PageLaws.{reply_added}
use Rattle.frames_console.proofs.serve.put_reply.Goals as goal

pub overflow_add-result : goal.overflow_add-result
overflow_add-result c = omega (arith, (reply_added c.requires c.put_hex-put.ensures).within)

pub returns : goal.returns
returns c = rw c.unwrap_or.ensures (reply_added c.requires c.put_hex-put.ensures)
