-- `resp_encode::reply::put_int` meets its contract. Assumes nothing.
use Rattle.resp_encode.proofs.Replies.{write_int}
use Rattle.resp_encode.proofs.reply.put_int.Goals as goal

pub returns : goal.returns
returns c = search write_int
