-- What a command outside MULTI reads: the store at its last sequence.
use Rattle.std.specs.Prelude.{ℕ, List}
use Rattle.base_key.specs.Bytes.{Bytes}
use Rattle.store_memtable.specs.Table.{Reader}
use Rattle.store_memtable.specs.Versions.{read_at}
use Rattle.store_memtable.specs.Layout.{last_word}
use Rattle.store_memtable.specs.Rows.{versions_in}

unfoldable pub last_reader : List ℕ → Bytes → Reader
last_reader w b = read_at (last_word w) (versions_in w b)
