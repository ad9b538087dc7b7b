-- `reply_item::item_line::read_array` meets its contract. Assumes nothing.
use Rattle.reply_item.proofs.ItemLines.{array_of, array_absent, array_wrong}
use Rattle.reply_item.proofs.item_line.read_array.Goals as goal

pub returns-in-Of : goal.returns-in-Of
returns-in-Of c = search array_of

pub returns-in-Absent : goal.returns-in-Absent
returns-in-Absent c = search array_absent

pub returns-in-NoSize : goal.returns-in-NoSize
returns-in-NoSize c = search array_wrong
