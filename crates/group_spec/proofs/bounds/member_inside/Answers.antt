-- `group_spec::bounds::member_inside` meets its contract. The four tests together. Assumes nothing.
use Rattle.std.proofs.Common.{rules}
use Rattle.base_key.specs.Bytes.{◌and◌}
use Rattle.group_spec.specs.Members.{member_inside}
use Rattle.group_spec.proofs.bounds.member_inside.Goals as goal

pub returns-then-writes_inside : goal.returns-then-writes_inside
unfolding member_inside ◌and◌
returns-then-writes_inside c = search rules

pub returns-else-writes_inside : goal.returns-else-writes_inside
unfolding member_inside ◌and◌
returns-else-writes_inside c = search rules
