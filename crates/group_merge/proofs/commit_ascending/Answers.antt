-- `group_merge::commit_ascending` meets its contract. The front is the whole store; the header is renewed last. Assumes nothing.
use Rattle.group_spec.proofs.AscendingLaws.{headed}
use Rattle.group_merge.proofs.commit_ascending.Goals as goal

pub returns-clause-words_after : goal.returns-clause-words_after
returns-clause-words_after c = search headed
