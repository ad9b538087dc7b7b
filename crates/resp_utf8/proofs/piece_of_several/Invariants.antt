-- `resp_utf8::piece_of_several` meets its contract. The invariant: the first n bytes begin a character, `Begun`. Assumes nothing.
use Rattle.resp_utf8.specs.Pieces.{Begun}
use Rattle.resp_utf8.proofs.piece_of_several.Given as goal

abbrev pub invariant-loop-n : goal.invariant-loop-n
invariant-loop-n l = Begun l.text l.n l.left l.low l.high
