-- A command outside MULTI reads the store at its last sequence. Assumes nothing.
use Prim.Native.Nat.{ℕ}
use mathlib.Core.Path.{◌≡◌, ◌∙◌}
use mathlib.Core.List.{List}
use Rattle.base_key.specs.Bytes.{Bytes}
use Rattle.store_memtable.specs.Table.{Reader}
use Rattle.store_memtable.specs.Versions.{read_at}
use Rattle.store_memtable.specs.Layout.{last_word}
use Rattle.store_memtable.specs.Rows.{versions_in}
use Rattle.command_room.specs.Reading.{last_reader}

pub last_is : (w : List ℕ) (b : Bytes) {r : Reader} {w' : List ℕ} {b' : Bytes} → w' ≡ w → b' ≡ b → r ≡ read_at (last_word w') (versions_in w' b') → r ≡ last_reader w b
unfolding last_reader
last_is w b w-is b-is e = e ∙ (λ z. read_at (last_word (w-is z)) (versions_in (w-is z) (b-is z)))
