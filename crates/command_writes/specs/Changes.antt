-- What the functions over the own writes answer and leave: the place of a key, a write set, and the writes of a command's arguments set.
use Rattle.std.specs.Prelude.{ℕ, suc, ◌+◌, ◌≤◌, ◌≡◌, Bool, true, cond, List, [], ◌∷◌, ltb, length}
use Rattle.std.specs.Prelude.{Option, Some}
use Rattle.base_key.specs.Bytes.{Bytes, ◌and◌}
use Rattle.base_key.specs.Keys.{Key, key_below, same_key}
use Rattle.store_memtable.specs.Table.{Value, Write, update, last_writes}
use Rattle.group_spec.specs.Members.{value_inside, write_at}
use Rattle.command_writes.specs.Own.{own_writes, Own}

-- how many writes at the front have a key below `k`
unfoldable pub place_among : Key → List Write → ℕ
place_among k [] = 0
place_among k (w ∷ ws) = cond (key_below w.0 k) (suc (place_among k ws)) 0

-- row i is one of the first n, and has this key
unfoldable pub held_at : List ℕ → Bytes → ℕ → Key → ℕ → Bool
held_at own d n k i = ltb i n and same_key (write_at own d i).0 k

-- a key and a value that lie in the data
pub record RowFits (d : Bytes) (keyStart keyLen value_start word : ℕ) : Type 0 where
  pub key_in : keyStart + keyLen ≤ length d
  pub value_in : value_inside value_start word d ≡ true

-- what setting the write of a key leaves, with r rows
pub record OwnPut (own own' : List ℕ) (d : Bytes) (n : ℕ) (k : Key) (v : Option Value) (r : ℕ) : Type 0 where
  pub kept : Own own' d r
  pub is : own_writes own' d r ≡ update k (Some v) (own_writes own d n)
  pub more : n ≤ r
  pub most : r ≤ n + 1
  pub same : length own' ≡ length own

-- what setting these writes leaves, with r rows, at most `count` more
pub record OwnPuts (own own' : List ℕ) (d : Bytes) (n : ℕ) (ws : List Write) (count r : ℕ) : Type 0 where
  pub kept : Own own' d r
  pub is : own_writes own' d r ≡ last_writes (own_writes own d n) ws
  pub more : n ≤ r
  pub most : r ≤ n + count
  pub same : length own' ≡ length own
