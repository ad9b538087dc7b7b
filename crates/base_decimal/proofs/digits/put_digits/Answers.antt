use Rattle.base_number.proofs.Decimals.{digits_too_long, filled_none, filled_more, filled_all}
use Rattle.base_decimal.proofs.digits.put_digits.Goals as goal

pub returns-then-out-count : goal.returns-then-out-count
returns-then-out-count c = search digits_too_long

pub loop-i-init : goal.loop-i-init
loop-i-init c = search filled_none

pub loop-i-preserved : goal.loop-i-preserved
loop-i-preserved c = search filled_more

pub returns : goal.returns
returns c = search filled_all
