-- `base_decimal::put_decimal` meets its contract. Assumes nothing.
use Rattle.base_number.proofs.Signed.{write_below, write_above}
use Rattle.base_decimal.proofs.put_decimal.Goals as goal

pub returns-then-z-lt0 : goal.returns-then-z-lt0
returns-then-z-lt0 c = search write_below

pub returns : goal.returns
returns c = search write_above
