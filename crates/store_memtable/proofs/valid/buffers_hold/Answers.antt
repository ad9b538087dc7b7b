-- `store_memtable::valid::buffers_hold` meets its contract. Assumes nothing.
use Rattle.std.proofs.Common.{rules}
use Rattle.base_key.specs.Bytes.{◌and◌}
use Rattle.store_memtable.specs.Layout.{buffers_hold}
use Rattle.store_memtable.proofs.valid.buffers_hold.Goals as goal

pub returns-then-versions-words : goal.returns-then-versions-words
unfolding buffers_hold ◌and◌
returns-then-versions-words c = search rules

pub returns-else-versions-words : goal.returns-else-versions-words
unfolding buffers_hold ◌and◌
returns-else-versions-words c = search rules
