-- `store_memtable::valid::header_ok` meets its contract. Assumes nothing.
use Rattle.std.proofs.Common.{rules}
use Rattle.base_key.specs.Bytes.{◌and◌}
use Rattle.store_memtable.specs.Layout.{buffers_hold, header_ok}
use Rattle.store_memtable.proofs.valid.header_ok.Goals as goal

pub returns-then-words : goal.returns-then-words
unfolding header_ok buffers_hold ◌and◌
returns-then-words c = search rules

pub returns-else-words : goal.returns-else-words
unfolding header_ok buffers_hold ◌and◌
returns-else-words c = search rules
