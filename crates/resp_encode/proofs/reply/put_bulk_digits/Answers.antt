-- `resp_encode::reply::put_bulk_digits` meets its contract. Assumes nothing.
use Rattle.resp_encode.proofs.Replies.{write_bulk_digits}
use Rattle.resp_encode.proofs.reply.put_bulk_digits.Goals as goal

pub returns : goal.returns
returns c = search write_bulk_digits
