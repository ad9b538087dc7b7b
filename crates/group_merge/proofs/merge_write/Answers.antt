-- `group_merge::merge_write` meets its contract. The write that the words say. Assumes nothing.
use Rattle.group_spec.proofs.PartLaws.{given_mergeable, given_front, given_rows, given_data}
use Rattle.group_merge.proofs.merge_write.Goals as goal

pub merge_one-requires : goal.merge_one-requires
merge_one-requires c = search given_mergeable

pub returns-clause-value : goal.returns-clause-value
returns-clause-value c = search given_front

pub returns-clause-words_after : goal.returns-clause-words_after
returns-clause-words_after c = search given_rows

pub returns-clause-bytes_after : goal.returns-clause-bytes_after
returns-clause-bytes_after c = search given_data
