-- `store_memtable::live::live_at` meets its contract. By the value word, and then by the key before. Assumes nothing.
use Rattle.std.proofs.Common.{rules}
use Rattle.base_key.specs.Bytes.{◌and◌}
use Rattle.store_memtable.specs.Layout.{version_at}
use Rattle.store_memtable.specs.Walk.{newest_at, live_at}
use Rattle.store_memtable.proofs.live.live_at.Goals as goal

pub returns-then-i-eq0 : goal.returns-then-i-eq0
unfolding live_at newest_at version_at ◌and◌
returns-then-i-eq0 c = search rules

pub returns-else-i-eq0 : goal.returns-else-i-eq0
unfolding live_at newest_at version_at ◌and◌
returns-else-i-eq0 c = search rules

pub returns-else-not-is_tombstone : goal.returns-else-not-is_tombstone
unfolding live_at newest_at version_at ◌and◌
returns-else-not-is_tombstone c = search rules
