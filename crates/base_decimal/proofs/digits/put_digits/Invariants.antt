-- `base_decimal::digits::put_digits` meets its contract. The invariant: the digits from i on are written, and those of `rest` are left, `Filled`. Assumes nothing.
use Rattle.base_number.proofs.Decimals.{Filled}
use Rattle.base_decimal.proofs.digits.put_digits.Given as goal

abbrev pub invariant-loop-i : goal.invariant-loop-i
invariant-loop-i l = Filled l.n l.count l.initial.out l.rest l.i l.out
