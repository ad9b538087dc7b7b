-- `resp_encode::reply::put_bulk` meets its contract. Assumes nothing.
use Rattle.resp_encode.proofs.Replies.{write_bulk}
use Rattle.resp_encode.proofs.reply.put_bulk.Goals as goal

pub returns : goal.returns
returns c = search write_bulk
