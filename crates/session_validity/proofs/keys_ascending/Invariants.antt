-- `session_validity::keys_ascending` meets its contract. The invariant: the keys up to place i are ascending, and the last lies from start to end, `Rising`. Assumes nothing.
use Rattle.session_validity.proofs.Validity.{Rising}
use Rattle.session_validity.proofs.keys_ascending.Given as goal

abbrev pub invariant-loop-i : goal.invariant-loop-i
invariant-loop-i l = Rising l.words l.bytes l.count l.start l.end l.i
