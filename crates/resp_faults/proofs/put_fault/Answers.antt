-- `resp_faults::put_fault` meets its contract. The mark, the text and CR LF, one behind the other. Assumes nothing.
use Rattle.resp_faults.proofs.Faults.{write_reply}
use Rattle.resp_faults.proofs.put_fault.Goals as goal

pub returns : goal.returns
returns c = search write_reply
