-- `group_spec::sizes::writes_left` meets its contract. The invariant: the writes before place j leave `rest`, `Leaving`. Assumes nothing.
use Rattle.std.proofs.Common.{◌+◌}
use Rattle.group_spec.proofs.SizeLaws.{Leaving}
use Rattle.group_spec.proofs.sizes.writes_left.Given as goal

abbrev pub invariant-loop-j : goal.invariant-loop-j
invariant-loop-j l = Leaving l.parts l.first l.count l.left (l.first + l.count) l.rest l.j
