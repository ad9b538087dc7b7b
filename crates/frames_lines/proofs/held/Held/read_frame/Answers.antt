-- `frames_lines::held::Held::read_frame` meets its contract. Assumes nothing.
use Rattle.frames_lines.proofs.HeldLaws.{frame_malformed, frame_read}
use Rattle.frames_lines.proofs.held.Held.read_frame.Goals as goal

pub returns-in_err-session : goal.returns-in_err-session
returns-in_err-session c = rw c.from_residual.ensures (search (frame_malformed, c.in_err-session.was))

pub returns : goal.returns
returns c = search (frame_read, c.in_ok-session.was)
