-- `reply_item::sizes::read_size` meets its contract. Assumes nothing.
use Rattle.reply_item.proofs.ItemLines.{size_none, size_absent, size_plus, size_counts, size_wrong}
use Rattle.reply_item.proofs.sizes.read_size.Goals as goal

pub returns-then-eq : goal.returns-then-eq
returns-then-eq c = search size_absent

pub returns-in-empty : goal.returns-in-empty
returns-in-empty c = search size_none

pub returns-in-empty-2 : goal.returns-in-empty-2
returns-in-empty-2 c = search size_plus

pub returns-in-Ok : goal.returns-in-Ok
returns-in-Ok c = search size_counts

pub returns-in-Err : goal.returns-in-Err
returns-in-Err c = search size_wrong
