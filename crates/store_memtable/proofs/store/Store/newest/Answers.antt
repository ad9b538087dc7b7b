-- `store_memtable::store::Store::newest` meets its contract. The sequence of what a read at the last sequence finds. Assumes nothing.
use Rattle.store_memtable.proofs.Rows.{found_words}
use Rattle.store_memtable.proofs.Validity.{newest_of, newest_none}
use Rattle.store_memtable.proofs.store.Store.newest.Goals as goal

pub seq_of-requires : goal.seq_of-requires
seq_of-requires c = search found_words

pub returns-in-Some : goal.returns-in-Some
returns-in-Some c = search newest_of

pub returns-in-None : goal.returns-in-None
returns-in-None c = search newest_none
