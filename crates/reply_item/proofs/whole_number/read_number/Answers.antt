-- `reply_item::whole_number::read_number` meets its contract. Assumes nothing.
use Rattle.reply_item.proofs.Numbers.{number_bad, number_word}
use Rattle.reply_item.proofs.whole_number.read_number.Goals as goal

pub returns-in_default : goal.returns-in_default
returns-in_default c = search number_bad

pub returns : goal.returns
returns c = search number_word
