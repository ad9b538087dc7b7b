-- `group_spec::bounds::value_inside` meets its contract. A tombstone has no value part. Assumes nothing.
use Rattle.std.proofs.Common.{rules}
use Rattle.group_spec.specs.Members.{value_inside}
use Rattle.group_spec.proofs.bounds.value_inside.Goals as goal

pub returns-then-word-eq0 : goal.returns-then-word-eq0
unfolding value_inside
returns-then-word-eq0 c = search rules

pub returns-else-word-eq0 : goal.returns-else-word-eq0
unfolding value_inside
returns-else-word-eq0 c = search rules
