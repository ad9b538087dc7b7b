-- `reply_item::item_line::read_bulk` meets its contract. Assumes nothing.
use Rattle.reply_item.proofs.ItemLines.{bulk_of, bulk_absent, bulk_wrong}
use Rattle.reply_item.proofs.item_line.read_bulk.Goals as goal

pub returns-in-Of : goal.returns-in-Of
returns-in-Of c = search bulk_of

pub returns-in-Absent : goal.returns-in-Absent
returns-in-Absent c = search bulk_absent

pub returns-in-NoSize : goal.returns-in-NoSize
returns-in-NoSize c = search bulk_wrong
