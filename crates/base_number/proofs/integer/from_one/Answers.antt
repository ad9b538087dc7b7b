-- `base_number::integer::from_one` meets its contract. By the first byte. Assumes nothing.
use Rattle.base_number.proofs.Integers.{size_zero, size_digits}
use Rattle.base_number.proofs.integer.from_one.Goals as goal

pub returns-then-starts_with : goal.returns-then-starts_with
returns-then-starts_with c = size_zero _ c.if-starts_with.ensures.value

pub returns : goal.returns
returns c = size_digits _ c.if-starts_with.ensures.value c.digits_value.ensures
