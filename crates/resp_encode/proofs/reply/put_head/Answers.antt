-- `resp_encode::reply::put_head` meets its contract. Assumes nothing.
use Rattle.resp_encode.proofs.Replies.{write_head}
use Rattle.resp_encode.proofs.reply.put_head.Goals as goal

pub returns : goal.returns
returns c = search write_head
