-- `group_judge::has_room` meets its contract. By the versions and then by the bytes that are left. Assumes nothing.
use Rattle.std.proofs.Common.{rules}
use Rattle.store_memtable.specs.Rows.{room_in, bytes_left}
use Rattle.group_judge.proofs.has_room.Goals as goal

pub returns-then-count-word : goal.returns-then-count-word
unfolding room_in bytes_left
returns-then-count-word c = search rules

pub returns-else-count-word : goal.returns-else-count-word
unfolding room_in bytes_left
returns-else-count-word c = search rules
