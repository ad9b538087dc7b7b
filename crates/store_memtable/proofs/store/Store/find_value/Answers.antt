-- `store_memtable::store::Store::find_value` meets its contract. What is found, unless it is a tombstone. Assumes nothing.
use Rattle.std.proofs.Common.{rules}
use Rattle.store_memtable.specs.Rows.{live_found}
use Rattle.store_memtable.proofs.Rows.{found_words, live_dead}
use Rattle.store_memtable.proofs.store.Store.find_value.Goals as goal

pub is_tombstone-requires : goal.is_tombstone-requires
is_tombstone-requires c = search found_words

pub returns-in-Some : goal.returns-in-Some
unfolding live_found
returns-in-Some c = search rules

pub returns-in_default : goal.returns-in_default
returns-in_default c = search live_dead

pub returns-in_default-2 : goal.returns-in_default-2
unfolding live_found
returns-in_default-2 c = search rules
