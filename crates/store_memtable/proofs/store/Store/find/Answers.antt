-- `store_memtable::store::Store::find` meets its contract. The version at the place of the key at the sequence, if it is one of the key. Assumes nothing.
use Rattle.store_memtable.proofs.Rows.{found_past, found_same, found_other}
use Rattle.store_memtable.proofs.store.Store.find.Goals as goal
use Rattle.store_memtable.proofs.store.Store.find.Goals.{else-i-word-via-then-i-word+else-is_of, else-i-word-via-else-i-word}

pub returns-then-is_of : goal.returns-then-is_of
returns-then-is_of c = search found_same

pub returns-else-i-word : goal.returns-else-i-word
returns-else-i-word c = elim c.else-i-word.branch [ else-i-word-via-then-i-word+else-is_of w ↦ search found_other | else-i-word-via-else-i-word w ↦ search found_past ]
