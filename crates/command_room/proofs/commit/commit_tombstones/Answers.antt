use Rattle.command_room.proofs.Writes.{deleting_none, deleting_room, deleting_more, deleted_words, deleted_bytes}
use Rattle.command_room.proofs.commit.commit_tombstones.Goals as goal

pub loop-i-init : goal.loop-i-init
loop-i-init c = search deleting_none

pub commit_one-requires : goal.commit_one-requires
commit_one-requires c = search deleting_room

pub loop-i-preserved : goal.loop-i-preserved
loop-i-preserved c = search deleting_more

pub returns : goal.returns
returns c = search (deleted_words, deleted_bytes)
