-- `frames_lines::line::read_line` meets its contract. Assumes nothing.
use Rattle.frames_lines.proofs.LineLaws.{behind_head, digits_fit, line_malformed, line_undecoded, line_frame}
use Rattle.frames_lines.proofs.line.read_line.Goals as goal

pub returns-in_err-session : goal.returns-in_err-session
returns-in_err-session c = rw c.from_residual.ensures (search (line_malformed, c.in_err-session.was))

pub slice_bounds-decode-count : goal.slice_bounds-decode-count
slice_bounds-decode-count c = search (behind_head, c.in_ok-session.was)

pub slice_bounds-decode-start : goal.slice_bounds-decode-start
slice_bounds-decode-start c = search (behind_head, c.in_ok-session.was)

pub decode-requires : goal.decode-requires
decode-requires c = search (digits_fit, c.in_ok-session.was)

pub returns-in_err-count : goal.returns-in_err-count
returns-in_err-count c = rw c.from_residual-in_err-count.ensures (search (line_undecoded, c.in_ok-session.was, c.in_err-count.was))

pub returns : goal.returns
returns c = search (line_frame, c.in_ok-session.was, c.in_ok-count.was)
