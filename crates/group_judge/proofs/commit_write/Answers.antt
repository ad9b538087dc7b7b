-- `group_judge::commit_write` meets its contract. The write that the words say. Assumes nothing.
use Rattle.group_spec.proofs.PartLaws.{given_room, given_words, given_bytes}
use Rattle.group_judge.proofs.commit_write.Goals as goal

pub commit_one-requires : goal.commit_one-requires
commit_one-requires c = search given_room

pub returns : goal.returns
returns c = search (given_words, given_bytes)
