-- `store_commit::lent::StoreMut::commit_one` meets its contract. A commit leaves a valid store. Assumes nothing.
use Rattle.store_memtable.proofs.Sequence.{committed_valid}
use Rattle.store_commit.proofs.lent.StoreMut.commit_one.Goals as goal

pub invariant_of-self : goal.invariant_of-self
invariant_of-self c = search committed_valid
