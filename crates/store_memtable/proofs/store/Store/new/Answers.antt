-- `store_memtable::store::Store::new` meets its contract. What the test says. Assumes nothing.
use Rattle.store_memtable.proofs.Validity.{validated}
use Rattle.store_memtable.proofs.store.Store.new.Goals as goal

pub invariant_of-result : goal.invariant_of-result
invariant_of-result c = search validated
