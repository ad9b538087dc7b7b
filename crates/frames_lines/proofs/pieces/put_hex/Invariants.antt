-- `frames_lines::pieces::put_hex` meets its contract. The invariant: the first i bytes are written, `Hexing`. Assumes nothing.
use Rattle.frames_lines.proofs.AnswerLaws.{Hexing}
use Rattle.frames_lines.proofs.pieces.put_hex.Given as goal

abbrev pub invariant-loop-i : goal.invariant-loop-i
invariant-loop-i l = Hexing l.reply l.initial.out l.i l.out
