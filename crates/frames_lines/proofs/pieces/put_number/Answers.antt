-- `frames_lines::pieces::put_number` meets its contract. Assumes nothing.
use Rattle.frames_lines.proofs.AnswerLaws.{number_text_lem}
use Rattle.frames_lines.proofs.pieces.put_number.Goals as goal

pub returns : goal.returns
returns c = search number_text_lem
