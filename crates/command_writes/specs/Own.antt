-- The writes that an EXEC has made so far, one for each key, ascending: rows in a lent table, laid out as the writes of a group.
use Rattle.std.specs.Prelude.{ℕ, ◌<◌, ◌≡◌, List}
use Rattle.std.specs.Prelude.{None, Some}
use Rattle.base_key.specs.Bytes.{Bytes}
use Rattle.base_key.specs.Keys.{Key}
use Rattle.store_memtable.specs.Table.{Reader, Write, find, over, Ascending}
use Rattle.store_memtable.specs.Versions.{read_at}
use Rattle.store_memtable.specs.Rows.{versions_in}
use Rattle.group_spec.specs.Members.{list_from, write_at}
use Rattle.group_spec.specs.Settling.{WritesIn}
use Rattle.std.specs.Prelude.{Option}

-- the first n rows
unfoldable pub own_writes : List ℕ → Bytes → ℕ → List Write
own_writes own d n = list_from (write_at own d) 0 n

-- the rows are there, their keys and values lie in the data, and the keys are strictly ascending
pub record Own (own : List ℕ) (d : Bytes) (n : ℕ) : Type 0 where
  pub rows : WritesIn own d 0 n
  pub rising : Ascending (own_writes own d n)

-- a row that was found
pub record OwnAt (own : List ℕ) (d : Bytes) (n : ℕ) (k : Key) (j : ℕ) : Type 0 where
  pub inside : j < n
  pub is : find (own_writes own d n) k ≡ Some (write_at own d j).1

-- what a lookup of the key answers
abbrev pub OwnFound : List ℕ → Bytes → ℕ → Key → Option ℕ → Type 0
OwnFound own d n k (Some j) = OwnAt own d n k j
OwnFound own d n k None = find (own_writes own d n) k ≡ None

-- what EXEC reads: its own writes over the store at a sequence
unfoldable pub reader_of : List ℕ → Bytes → ℕ → List ℕ → Bytes → ℕ → Reader
reader_of own d n w b s = over (own_writes own d n) (read_at s (versions_in w b))
