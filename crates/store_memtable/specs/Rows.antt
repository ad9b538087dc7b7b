-- What single functions of the store read: facts that they ask for, the end of a row, the place of a version.
use Rattle.std.specs.Prelude.{ℕ, suc, ◌+◌, ◌-◌, ◌*◌, ◌^◌, ◌≤◌, ◌<◌, ◌≡◌, Bool, true, false, cond, ◌&&◌, List, [], ◌∷◌, length, leb, eqb}
use Rattle.std.specs.Prelude.{Option, None, Some}
use Rattle.base_key.specs.Bytes.{Bytes}
use Rattle.base_key.specs.Keys.{Key, order_of_versions, is_less}
use Rattle.store_memtable.specs.Table.{Value}
use Rattle.store_memtable.specs.Versions.{Version, sorted}
use Rattle.store_memtable.specs.Layout.{count_word, used_word, last_word, most_versions_word, most_bytes_word, end_word, value_word, value_part, versions_from, row_ok, valid_store}
use Rattle.std.specs.declared.cmp.Ordering.{Ordering}

-- the decoded versions
abbrev pub versions_in : List ℕ → Bytes → List Version
versions_in w b = versions_from w b 0 (count_word w)

-- the words of version i are there, and its bytes
pub record RowIn (w : List ℕ) (b : Bytes) (i : ℕ) : Type 0 where
  pub words_in : 5 + 4 * i + 4 ≤ length w
  pub bytes_in : end_word w i ≤ length b

-- the words of every version are there, and its bytes
pub record Readable (w : List ℕ) (b : Bytes) : Type 0 where
  pub rows_in : 5 + 4 * count_word w ≤ length w
  pub ends_in : (i : ℕ) → i < count_word w → end_word w i ≤ length b

-- a valid store, and what is often asked of one
pub record Valid (w : List ℕ) (b : Bytes) : Type 0 where
  pub valid : valid_store w b ≡ true
  pub readable : Readable w b
  pub ordered : sorted (versions_in w b) ≡ true
  pub words_hold : 5 + 4 * most_versions_word w ≤ length w
  pub bytes_hold : most_bytes_word w ≤ length b
  pub count_fits : count_word w ≤ most_versions_word w
  pub used_fits : used_word w ≤ most_bytes_word w

-- where version i ends, if it is one that starts at pos
unfoldable pub row_end : List ℕ → ℕ → ℕ → Option ℕ
row_end w i pos = cond (row_ok w i pos) (Some (end_word w i)) None

-- how v stands to the key k at s
unfoldable pub order_with : Key → ℕ → Version → Ordering
order_with k s v = order_of_versions v.key v.seq k s

abbrev pub count_on : Bool → ℕ → ℕ
count_on true n = suc n
count_on false n = 0

-- how many versions, from the first on, come before the key k at s
unfoldable pub place_of : Key → ℕ → List Version → ℕ
place_of k s [] = 0
place_of k s (v ∷ vs) = count_on (is_less (order_with k s v)) (place_of k s vs)

-- a place that was found, where no tombstone stands there
unfoldable pub live_found : List ℕ → Option ℕ → Option ℕ
live_found w (Some i) = cond (eqb (value_word w i) 0) None (Some i)
live_found w None = None

-- the value at such a place
abbrev pub value_found : List ℕ → Bytes → Option ℕ → Option Value
value_found w b (Some i) = Some (value_part w b i)
value_found w b None = None

-- a value, or a tombstone where the write is not live
unfoldable pub value_if : Bool → Value → Option Value
value_if true v = Some v
value_if false v = None

-- there is room for one more version of the key k, with the bytes x for its value, and a sequence for it
pub record RoomForOne (w : List ℕ) (k x : Bytes) : Type 0 where
  pub row_free : count_word w < most_versions_word w
  pub bytes_free : used_word w + (length k + length x) ≤ most_bytes_word w
  pub seq_free : last_word w + 1 < 2 ^ 64

-- so many more versions and bytes are within the capacities
unfoldable pub room_in : List ℕ → ℕ → ℕ → Bool
room_in w versions size = leb (count_word w + versions) (most_versions_word w) && leb (used_word w + size) (most_bytes_word w)

-- what `size` bytes leave of `left`
unfoldable pub bytes_left : ℕ → ℕ → Option ℕ
bytes_left left size = cond (leb size left) (Some (left - size)) None
