-- `resp_faults::then_over_limit` meets its contract. The parts of the text, one behind the other. Assumes nothing.
use Rattle.resp_faults.proofs.Faults.{write_over_limit}
use Rattle.resp_faults.proofs.then_over_limit.Goals as goal

pub returns : goal.returns
returns c = search write_over_limit
