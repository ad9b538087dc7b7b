use Rattle.std.proofs.Common.{arith}
use Rattle.base_number.proofs.Lengths.{digits_begin, digits_none, no_digit, tens_over, digit_over, digit_turn, digits_end}
use Rattle.base_number.proofs.header.digits_value.Goals as goal

pub returns-then-is_empty : goal.returns-then-is_empty
returns-then-is_empty c = search (arith, digits_none)

pub loop-byte-init : goal.loop-byte-init
loop-byte-init c = search (arith, digits_begin)

pub returns-then-not-is_ascii_digit : goal.returns-then-not-is_ascii_digit
returns-then-not-is_ascii_digit c = search (arith, no_digit)

pub returns-in_err-checked_mul : goal.returns-in_err-checked_mul
returns-in_err-checked_mul c = rw c.from_residual.ensures (search (arith, tens_over))

pub returns-in_err-value : goal.returns-in_err-value
returns-in_err-value c = rw c.from_residual-in_err-value.ensures (search (arith, digit_over))

pub loop-byte-preserved : goal.loop-byte-preserved
loop-byte-preserved c = digit_turn c.loop-byte.invariant (omega arith) (grind arith) (grind arith) c.in_ok-checked_mul.ensures.1 (omega (arith, c.in_ok-value.ensures.0)) (omega (arith, c.in_ok-value.ensures.1))

pub returns : goal.returns
returns c = search (arith, digits_end)
