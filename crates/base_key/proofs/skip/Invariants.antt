-- `base_key::skip` meets its contract. The invariant: the keys compare as what is left of them behind the first i blocks does. Assumes nothing.
use Rattle.std.proofs.Common.{◌*◌}
use Rattle.base_key.specs.Blocks.{Alike}
use Rattle.base_key.proofs.skip.Given as goal

abbrev pub invariant-loop-i : goal.invariant-loop-i
invariant-loop-i l = Alike l.a l.b (8 * l.i)
