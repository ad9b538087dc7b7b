-- `group_spec::bounds::write_inside` meets its contract. The key, then the value. Assumes nothing.
use Rattle.std.proofs.Common.{rules}
use Rattle.base_key.specs.Bytes.{◌and◌}
use Rattle.group_spec.specs.Members.{write_inside}
use Rattle.group_spec.proofs.bounds.write_inside.Goals as goal

pub returns-then-key_inside : goal.returns-then-key_inside
unfolding write_inside ◌and◌
returns-then-key_inside c = search rules

pub returns-else-key_inside : goal.returns-else-key_inside
unfolding write_inside ◌and◌
returns-else-key_inside c = search rules
