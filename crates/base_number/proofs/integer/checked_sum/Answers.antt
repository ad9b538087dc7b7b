-- `base_number::integer::checked_sum` meets its contract. Assumes nothing.
use Rattle.std.proofs.Common.{ap, ◌∙◌}
use Rattle.base_number.specs.Number.{number_of}
use Rattle.base_number.proofs.Signed.{number_is, sum_bits}
use Rattle.base_number.proofs.integer.checked_sum.Goals as goal

pub returns : goal.returns
returns c = number_is _ _ c.checked_add.ensures ∙ ap number_of (sum_bits c.ranges.a c.ranges.b)
