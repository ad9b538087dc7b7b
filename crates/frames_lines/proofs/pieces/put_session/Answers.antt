-- `frames_lines::pieces::put_session` meets its contract. Assumes nothing.
use Rattle.frames_lines.proofs.AnswerLaws.{session_text}
use Rattle.frames_lines.proofs.pieces.put_session.Goals as goal

pub returns : goal.returns
returns c = search session_text
