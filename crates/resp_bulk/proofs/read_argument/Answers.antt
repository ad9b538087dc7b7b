-- `resp_bulk::read_argument` meets its contract. By the line. Assumes nothing.
use Rattle.resp_bulk.proofs.Arguments.{argument_unread, argument_long, argument_sized}
use Rattle.resp_bulk.proofs.read_argument.Goals as goal

pub returns-in-Text : goal.returns-in-Text
returns-in-Text c = search argument_sized

pub returns-in-Unfinished : goal.returns-in-Unfinished
returns-in-Unfinished c = search argument_unread

pub returns-in-TooLong : goal.returns-in-TooLong
returns-in-TooLong c = search argument_long
