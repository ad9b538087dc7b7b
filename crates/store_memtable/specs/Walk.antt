-- The walk over the live keys by places: a version is live where it has a value and the one before it has another key.
use Rattle.std.specs.Prelude.{ℕ, zero, suc, ◌-◌, Bool, true, false, cond, not, List, [], ◌∷◌, eqb}
use Rattle.std.specs.Prelude.{Option, None, Some}
use Rattle.base_key.specs.Bytes.{Bytes, ◌and◌}
use Rattle.base_key.specs.Keys.{same_key}
use Rattle.store_memtable.specs.Table.{Value, Entry, Table}
use Rattle.store_memtable.specs.Versions.{bytes_of}
use Rattle.store_memtable.specs.Layout.{version_at}

abbrev pub is_live : Option Value → Bool
is_live None = false
is_live (Some v) = true

-- the first of its key's versions, which is the newest
unfoldable pub newest_at : List ℕ → Bytes → ℕ → Bool
newest_at w b i = cond (eqb i 0) true (not (same_key (version_at w b (i - 1)).key (version_at w b i).key))

unfoldable pub live_at : List ℕ → Bytes → ℕ → Bool
live_at w b i = is_live (version_at w b i).value and newest_at w b i

-- the key and value of version i
abbrev pub entry_at : List ℕ → Bytes → ℕ → Entry Value
entry_at w b i = ((version_at w b i).key, bytes_of (version_at w b i).value)

-- the entries of the live ones among n versions from place i on
unfoldable pub live_from : List ℕ → Bytes → ℕ → ℕ → Table
live_from w b i zero = []
live_from w b i (suc n) = cond (live_at w b i) (entry_at w b i ∷ live_from w b (suc i) n) (live_from w b (suc i) n)

-- the place of the first of them
unfoldable pub next_live : List ℕ → Bytes → ℕ → ℕ → Option ℕ
next_live w b i zero = None
next_live w b i (suc n) = cond (live_at w b i) (Some i) (next_live w b (suc i) n)
