-- `base_key::compare` meets its contract. The invariant: the keys compare as what is left of them from i on does, `Alike`. Assumes nothing.
use Rattle.base_key.specs.Blocks.{Alike}
use Rattle.base_key.proofs.compare.Given as goal

abbrev pub invariant-loop-i : goal.invariant-loop-i
invariant-loop-i l = Alike l.a l.b l.i
