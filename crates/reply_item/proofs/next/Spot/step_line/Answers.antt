-- `reply_item::next::Spot::step_line` meets its contract. Assumes nothing.
use Rattle.reply_item.proofs.Standing.{step_of_line}
use Rattle.reply_item.proofs.next.Spot.step_line.Goals as goal

pub returns : goal.returns
returns c = search step_of_line
