-- `reply_item::item_line::read_item_line` meets its contract. By the first byte. Assumes nothing.
use Rattle.reply_item.proofs.ItemLines.{first_none, first_simple, first_error, first_number_lem, first_bulk, first_array, first_other}
use Rattle.reply_item.proofs.item_line.read_item_line.Goals as goal

pub returns-in-43 : goal.returns-in-43
returns-in-43 c = search first_simple

pub returns-in-45 : goal.returns-in-45
returns-in-45 c = search first_error

pub returns-in-58 : goal.returns-in-58
returns-in-58 c = search first_number_lem

pub returns-in-36 : goal.returns-in-36
returns-in-36 c = search first_bulk

pub returns-in-42 : goal.returns-in-42
returns-in-42 c = search first_array

pub returns-in_default : goal.returns-in_default
returns-in_default c = search first_none

pub returns-in_default-2 : goal.returns-in_default-2
returns-in_default-2 c = search first_other
