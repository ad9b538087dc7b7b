-- Laws of reading through own writes over the store. Assumes nothing.
use Prim.Native.Nat.{ℕ}
use mathlib.Core.Path.{◌≡◌, sym, ◌∙◌}
use mathlib.Core.List.{List}
use Rattle.std.specs.Prelude.{Option, None}
use Rattle.base_key.specs.Bytes.{Bytes}
use Rattle.base_key.specs.Keys.{Key}
use Rattle.store_memtable.specs.Table.{Value, find}
use Rattle.store_memtable.specs.Versions.{read_at}
use Rattle.store_memtable.specs.Rows.{versions_in}
use Rattle.group_spec.specs.Members.{write_at}
use Rattle.command_writes.specs.Own.{Own, OwnAt, own_writes, reader_of}
use Rattle.command_writes.proofs.Readers.{reader_at, reader_past}

-- what is read, by what the lookup among the own writes answers
module _ (own : List ℕ) (d : Bytes) (n : ℕ) (w : List ℕ) (b : Bytes) (s : ℕ) (k : Key) (o : Own own d n) {v : Option Value} where
  pub read_own : {j : ℕ} → OwnAt own d n k j → v ≡ (write_at own d j).1 → v ≡ reader_of own d n w b s k
  read_own f e = e ∙ sym (reader_at o w b s k f)

  pub read_stored : find (own_writes own d n) k ≡ None → v ≡ read_at s (versions_in w b) k → v ≡ reader_of own d n w b s k
  read_stored f e = e ∙ sym (reader_past o w b s k f)
