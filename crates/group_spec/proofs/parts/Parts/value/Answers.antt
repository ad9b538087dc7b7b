-- `group_spec::parts::Parts::value` meets its contract. The part between its start and its end, and none of a tombstone. Assumes nothing.
use Rattle.std.proofs.Common.{rules}
use Rattle.group_spec.specs.Members.{value_inside}
use Rattle.group_spec.proofs.parts.Parts.value.Goals as goal

pub overflow_add-result : goal.overflow_add-result
unfolding value_inside
overflow_add-result c = search rules

pub slice_bounds-result-end-else-word-eq0 : goal.slice_bounds-result-end-else-word-eq0
unfolding value_inside
slice_bounds-result-end-else-word-eq0 c = search rules
