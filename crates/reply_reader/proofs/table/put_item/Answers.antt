-- `reply_reader::table::put_item` meets its contract. Assumes nothing.
use Rattle.reply_reader.proofs.Tables.{standing_one}
use Rattle.reply_reader.proofs.table.put_item.Goals as goal

pub returns : goal.returns
returns c = search standing_one
