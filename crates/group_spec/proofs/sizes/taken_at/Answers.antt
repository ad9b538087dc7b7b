-- `group_spec::sizes::taken_at` meets its contract. The first, then where there is room. Assumes nothing.
use Rattle.std.proofs.Common.{rules}
use Rattle.group_spec.specs.Settling.{as_room, taken_at}
use Rattle.group_spec.proofs.sizes.taken_at.Goals as goal

pub returns-then-i-eq0 : goal.returns-then-i-eq0
unfolding as_room taken_at
returns-then-i-eq0 c = search rules

pub returns-else-i-eq0 : goal.returns-else-i-eq0
unfolding as_room taken_at
returns-else-i-eq0 c = search rules
