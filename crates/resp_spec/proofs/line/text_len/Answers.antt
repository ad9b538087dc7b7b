use Rattle.resp_spec.proofs.Lines.{text_cr, text_plain}
use Rattle.resp_spec.proofs.line.text_len.Goals as goal

pub returns-then-ends_with : goal.returns-then-ends_with
returns-then-ends_with c = search text_cr

pub returns-else-ends_with : goal.returns-else-ends_with
returns-else-ends_with c = search text_plain
