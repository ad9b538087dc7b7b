-- `base_key::same_front` meets its contract. The invariant: from i on the first n bytes are the same, `FrontSame`. Assumes nothing.
use Rattle.base_key.proofs.Keys.{FrontSame}
use Rattle.base_key.proofs.same_front.Given as goal

abbrev pub invariant-loop-i : goal.invariant-loop-i
invariant-loop-i l = FrontSame l.a l.b l.n l.i
