-- `reply_item::next::read_bulk_text` meets its contract. One law for each answer. Assumes nothing.
use Rattle.reply_item.proofs.Standing.{body_wait, body_fault, body_next}
use Rattle.reply_item.proofs.next.read_bulk_text.Goals as goal

pub returns-in-Unread : goal.returns-in-Unread
returns-in-Unread c = search body_wait

pub returns-in-Faulty : goal.returns-in-Faulty
returns-in-Faulty c = search body_fault

pub returns-in-Part : goal.returns-in-Part
returns-in-Part c = search body_next
