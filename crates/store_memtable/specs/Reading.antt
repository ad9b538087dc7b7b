-- What a lent store holds.
use Rattle.std.specs.Prelude.{List}
use Rattle.store_memtable.specs.declared.store.Store.{Store}
use Rattle.store_memtable.specs.Versions.{Version}
use Rattle.store_memtable.specs.Rows.{versions_in}

-- the decoded versions
abbrev pub versions_of : Store → List Version
versions_of s = versions_in s.words.now s.bytes.now
