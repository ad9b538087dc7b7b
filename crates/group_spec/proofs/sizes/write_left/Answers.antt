-- `group_spec::sizes::write_left` meets its contract. By the words of the write. Assumes nothing.
use Rattle.std.proofs.Common.{rules}
use Rattle.group_spec.specs.Settling.{size_at}
use Rattle.group_spec.proofs.sizes.write_left.Goals as goal

pub returns : goal.returns
unfolding size_at
returns c = search rules
