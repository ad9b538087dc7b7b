-- `resp_faults::then_no_dollar` meets its contract. The parts of the text, one behind the other. Assumes nothing.
use Rattle.resp_faults.proofs.Faults.{write_no_dollar}
use Rattle.resp_faults.proofs.then_no_dollar.Goals as goal

pub returns : goal.returns
returns c = search write_no_dollar
