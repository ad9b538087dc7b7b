-- `command_writes::write::put` meets its contract. The row at the place is replaced where it holds the key; else a row goes in there. Assumes nothing.
use Rattle.command_writes.proofs.PutLaws.{put_room, put_low, put_room_after, put_replaced, put_inserted}
use borrow.Author.Rules.{rules}
use Rattle.command_writes.proofs.write.put.Goals as goal

pub set_row-requires : goal.set_row-requires
set_row-requires c = search put_room

pub returns-then-holds : goal.returns-then-holds
returns-then-holds c = search put_replaced

pub shift_up-requires : goal.shift_up-requires
shift_up-requires c = search (put_low, rules)

pub set_row-requires-2 : goal.set_row-requires-2
set_row-requires-2 c = search put_room_after

pub returns : goal.returns
returns c = search put_inserted
