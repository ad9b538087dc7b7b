-- `resp_faults::then_not_text` meets its contract. The parts of the text, one behind the other. Assumes nothing.
use Rattle.resp_faults.proofs.Faults.{write_not_text}
use Rattle.resp_faults.proofs.then_not_text.Goals as goal

pub returns : goal.returns
returns c = search write_not_text
