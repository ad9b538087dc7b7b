use Rattle.group_spec.proofs.Committed.{committing_none, committing_more, ended_words, ended_bytes, next_in, next_room}
use Rattle.group_judge.proofs.commit_writes.Goals as goal

pub loop-j-init : goal.loop-j-init
loop-j-init c = search committing_none

pub commit_write-requires : goal.commit_write-requires
commit_write-requires c = search (next_in, next_room)

pub loop-j-preserved : goal.loop-j-preserved
loop-j-preserved c = search committing_more

pub returns : goal.returns
returns c = search (ended_words, ended_bytes)
