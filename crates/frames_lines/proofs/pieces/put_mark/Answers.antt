-- `frames_lines::pieces::put_mark` meets its contract. Nothing is written where a reply stands and there is no mark. Assumes nothing.
use Rattle.frames_lines.proofs.AnswerLaws.{no_mark_text}
use Rattle.frames_lines.proofs.pieces.put_mark.Goals as goal

pub returns-in-NoMark : goal.returns-in-NoMark
returns-in-NoMark c = search no_mark_text
