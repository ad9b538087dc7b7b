-- `base_number::header::digits_value` meets its contract. The invariant: the digits so far have the value, and the answer is that to the rest, `Digits`. Assumes nothing.
use Rattle.base_number.proofs.Lengths.{Digits}
use Rattle.base_number.proofs.header.digits_value.Given as goal

abbrev pub invariant-loop-byte : goal.invariant-loop-byte
invariant-loop-byte l = Digits l.text l.byte-index l.value
