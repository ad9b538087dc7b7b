-- `frames_lines::line::decode` meets its contract. The invariant: the first n bytes are decoded, `Decoding`. Assumes nothing.
use Rattle.frames_lines.proofs.HexLaws.{Decoding}
use Rattle.frames_lines.proofs.line.decode.Given as goal

abbrev pub invariant-loop-n : goal.invariant-loop-n
invariant-loop-n l = Decoding l.text l.initial.out l.count l.n l.out
