-- `resp_bulk::read_sized` meets its contract. One law for each way out. Assumes nothing.
use Rattle.resp_bulk.proofs.Arguments.{sized_empty, sized_no_dollar, sized_wrong, sized_part}
use Rattle.resp_bulk.proofs.read_sized.Goals as goal

pub returns-in-empty : goal.returns-in-empty
returns-in-empty c = search sized_empty

pub returns-in_default : goal.returns-in_default
returns-in_default c = search sized_no_dollar

pub returns-in-Ok : goal.returns-in-Ok
returns-in-Ok c = search sized_part

pub returns-in-Err : goal.returns-in-Err
returns-in-Err c = search sized_wrong
