-- `resp_bulk::read_body` meets its contract. One law for each way out. Assumes nothing.
use Rattle.resp_bulk.proofs.Arguments.{body_short, body_cut, body_part, body_no_end}
use Rattle.resp_bulk.proofs.read_body.Goals as goal

pub returns-then-left-lt2 : goal.returns-then-left-lt2
returns-then-left-lt2 c = search body_short

pub returns-then-left-n : goal.returns-then-left-n
returns-then-left-n c = search body_cut

pub returns-then-begins_with : goal.returns-then-begins_with
returns-then-begins_with c = search body_part

pub returns : goal.returns
returns c = search body_no_end
