-- `reply_item::next::Spot::step` meets its contract. Assumes nothing.
use Rattle.reply_item.proofs.Standing.{step_text, step_unfinished, step_too_long}
use Rattle.reply_item.proofs.next.Spot.step.Goals as goal

pub returns-in-Text : goal.returns-in-Text
returns-in-Text c = search step_text

pub returns-in-Unfinished : goal.returns-in-Unfinished
returns-in-Unfinished c = search step_unfinished

pub returns-in-TooLong : goal.returns-in-TooLong
returns-in-TooLong c = search step_too_long
