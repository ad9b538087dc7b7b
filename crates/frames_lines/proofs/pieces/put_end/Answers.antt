-- `frames_lines::pieces::put_end` meets its contract. Assumes nothing.
use Rattle.frames_lines.proofs.AnswerLaws.{end_text_lem}
use Rattle.frames_lines.proofs.pieces.put_end.Goals as goal

pub returns : goal.returns
returns c = search end_text_lem
