-- Value of a key (document 01, section 2): versions, the store, and what is read of it.
use Rattle.std.specs.Prelude.{ℕ, suc, ◌+◌, max, Bool, true, false, cond, List, [], ◌∷◌, leb, ltb, length}
use Rattle.std.specs.Prelude.{Option, None, Some}
use Rattle.base_key.specs.Bytes.{Bytes, ◌and◌}
use Rattle.base_key.specs.Keys.{Key, compare_keys, order_of_versions, is_less, is_equal, same_key}
use Rattle.store_memtable.specs.Table.{Value, Reader, Write, Table, update}
use Rattle.std.specs.declared.cmp.Ordering.{Ordering}

-- a value of `none` is a tombstone
pub record Version : Type 0 where
  pub key : Key
  pub seq : ℕ
  pub value : Option Value

-- the versions in their order, the last sequence, and the capacities fixed at opening
pub record Store : Type 0 where
  pub versions : List Version
  pub last : ℕ
  pub most_versions : ℕ
  pub most_bytes : ℕ

-- how two versions stand in the order of versions
unfoldable pub order_of : Version → Version → Ordering
order_of v u = order_of_versions v.key v.seq u.key u.seq

-- v comes before u
abbrev pub before : Version → Version → Bool
before v u = is_less (order_of v u)

-- v and then vs is strictly ascending
unfoldable pub sorted_after : Version → List Version → Bool
sorted_after v [] = true
sorted_after v (u ∷ us) = before v u and sorted_after u us

-- strictly ascending: in order and without repeats
abbrev pub sorted : List Version → Bool
sorted [] = true
sorted (v ∷ vs) = sorted_after v vs

-- a version of the key `k` whose sequence is not above s
unfoldable pub sees : Key → ℕ → Version → Bool
sees k s v = leb v.seq s and is_equal (compare_keys v.key k)

-- the key's version with the highest sequence not above s: in the order of versions, the first such
unfoldable pub read_at : ℕ → List Version → Reader
read_at s [] k = None
read_at s (v ∷ vs) k = cond (sees k s v) v.value (read_at s vs k)

-- the place of that version; the list starts at place i
unfoldable pub find_from : ℕ → List Version → Key → ℕ → Option ℕ
find_from i [] k s = None
find_from i (v ∷ vs) k s = cond (sees k s v) (Some i) (find_from (suc i) vs k s)

-- the highest sequence among the key's versions, tombstones included; 0 where it has none
unfoldable pub newest : List Version → Key → ℕ
newest [] k = 0
newest (v ∷ vs) k = cond (same_key v.key k) (max v.seq (newest vs k)) (newest vs k)

-- a key with a newest version above s
unfoldable pub moved : ℕ → List Version → Key → Bool
moved s vs k = ltb s (newest vs k)

-- the live keys, ascending, each with its value at the last sequence: a version hides those of its key behind it
unfoldable pub table : List Version → Table
table [] = []
table (v ∷ vs) = update v.key v.value (table vs)

-- v put in its place
unfoldable pub insert : Version → List Version → List Version
insert v [] = v ∷ []
insert v (u ∷ us) = elim (before u v) [ true ↦ u ∷ insert v us | false ↦ v ∷ u ∷ us ]

-- a write gets the next sequence
unfoldable pub commit_one : Write → Store → Store
commit_one w st =
    record {
      versions = insert (record { key = w.0; seq = suc st.last; value = w.1 }) st.versions;
      last = suc st.last;
      most_versions = st.most_versions;
      most_bytes = st.most_bytes;
    }

-- accepted writes get successive sequences after the last
unfoldable pub commit : List Write → Store → Store
commit [] st = st
commit (w ∷ ws) st = commit ws (commit_one w st)

-- the bytes of a value: none of a tombstone
abbrev pub bytes_of : Option Value → Bytes
bytes_of None = []
bytes_of (Some v) = v

-- key plus value bytes
abbrev pub size_of : Key → Option Value → ℕ
size_of k v = length k + length (bytes_of v)

-- size of writes
unfoldable pub writes_size : List Write → ℕ
writes_size [] = 0
writes_size (w ∷ ws) = size_of w.0 w.1 + writes_size ws

-- size of all versions
unfoldable pub versions_size : List Version → ℕ
versions_size [] = 0
versions_size (v ∷ vs) = size_of v.key v.value + versions_size vs
