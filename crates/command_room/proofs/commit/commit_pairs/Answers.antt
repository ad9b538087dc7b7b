use Rattle.command_room.proofs.Writes.{setting_none, setting_room, setting_more, set_words, set_bytes}
use Rattle.command_room.proofs.commit.commit_pairs.Goals as goal

pub loop-j-init : goal.loop-j-init
loop-j-init c = search setting_none

pub commit_one-requires : goal.commit_one-requires
commit_one-requires c = search setting_room

pub loop-j-preserved : goal.loop-j-preserved
loop-j-preserved c = search setting_more

pub returns : goal.returns
returns c = search (set_words, set_bytes)
