-- How a store lies in lent words and bytes: five header words, then four words for each version; the bytes of the versions
-- stand one behind the other, each key with its value behind it.
use Rattle.std.specs.Prelude.{ℕ, zero, suc, ◌+◌, ◌-◌, ◌*◌, Bool, true, false, List, [], ◌∷◌, ◌++◌, leb, eqb, length, get_or}
use Rattle.std.specs.Prelude.{Option, None, Some}
use Rattle.base_key.specs.Bytes.{Bytes, ◌and◌, part, over_front}
use Rattle.store_memtable.specs.Table.{Value}
use Rattle.store_memtable.specs.Versions.{Version, Store, sorted, bytes_of}

-- words of the header
abbrev pub header_size : ℕ
header_size = 5

-- words of a version
abbrev pub row_size : ℕ
row_size = 4

module _ (w : List ℕ) where
  -- the header
  abbrev pub count_word : ℕ
  count_word = get_or w 0 0

  -- bytes used
  abbrev pub used_word : ℕ
  used_word = get_or w 1 0

  -- last sequence
  abbrev pub last_word : ℕ
  last_word = get_or w 2 0

  -- capacity in versions
  abbrev pub most_versions_word : ℕ
  most_versions_word = get_or w 3 0

  -- capacity in bytes
  abbrev pub most_bytes_word : ℕ
  most_bytes_word = get_or w 4 0

  -- the words of version i
  abbrev pub start_word : ℕ → ℕ
  start_word i = get_or w (header_size + row_size * i) 0

  -- length of the key
  abbrev pub key_word : ℕ → ℕ
  key_word i = get_or w (header_size + row_size * i + 1) 0

  -- 0 for a tombstone, else one more than the value's length
  abbrev pub value_word : ℕ → ℕ
  value_word i = get_or w (header_size + row_size * i + 2) 0

  -- sequence
  abbrev pub seq_word : ℕ → ℕ
  seq_word i = get_or w (header_size + row_size * i + 3) 0

  -- where the value of version i starts, and where the version ends
  abbrev pub value_start : ℕ → ℕ
  value_start i = start_word i + key_word i

  -- where version i ends
  abbrev pub end_word : ℕ → ℕ
  end_word i = value_start i + (value_word i - 1)

-- a value from its word and its bytes
abbrev pub value_of_word : ℕ → Bytes → Option Value
value_of_word zero b = None
value_of_word (suc n) b = Some b

-- the part of the store's bytes that holds the value of version i
abbrev pub value_part : List ℕ → Bytes → ℕ → Bytes
value_part w b i = part (value_start w i) (value_word w i - 1) b

-- version i
unfoldable pub version_at : List ℕ → Bytes → ℕ → Version
version_at w b i = record {
  key = part (start_word w i) (key_word w i) b;
  seq = seq_word w i;
  value = value_of_word (value_word w i) (value_part w b i);
}

-- n versions from place i on
unfoldable pub versions_from : List ℕ → Bytes → ℕ → ℕ → List Version
versions_from w b i zero = []
versions_from w b i (suc n) = version_at w b i ∷ versions_from w b (suc i) n

-- the store that the words and bytes hold
unfoldable pub store_in : List ℕ → Bytes → Store
store_in w b = record {
  versions = versions_from w b 0 (count_word w);
  last = last_word w;
  most_versions = most_versions_word w;
  most_bytes = most_bytes_word w;
}

-- VALID, or 9. The buffers hold the capacities
unfoldable pub buffers_hold : List ℕ → Bytes → ℕ → ℕ → Bool
buffers_hold w b versions size = leb (header_size + row_size * versions) (length w) and leb size (length b)

-- and the capacities the counts
unfoldable pub header_ok : List ℕ → Bytes → Bool
header_ok w b = buffers_hold w b (most_versions_word w) (most_bytes_word w) and leb (count_word w) (most_versions_word w) and leb (used_word w) (most_bytes_word w)

-- version i starts at pos, ends within the bytes used, and has no sequence above the last
unfoldable pub row_ok : List ℕ → ℕ → ℕ → Bool
row_ok w i pos = eqb (start_word w i) pos and leb (end_word w i) (used_word w) and leb (seq_word w i) (last_word w)

-- n versions from place i on lie one behind the other from pos up to the bytes used: no overlap and no gap
unfoldable pub chain_ok : List ℕ → ℕ → ℕ → ℕ → Bool
chain_ok w i zero pos = eqb pos (used_word w)
chain_ok w i (suc n) pos = elim (row_ok w i pos) [ true ↦ chain_ok w (suc i) n (end_word w i) | false ↦ false ]

-- a store that gives no 9
unfoldable pub valid_store : List ℕ → Bytes → Bool
valid_store w b = header_ok w b and chain_ok w 0 (count_word w) 0 and sorted (store_in w b).versions

-- WRITTEN BACK. What stands in front of the words and bytes; what lies behind stays as it was.
abbrev pub word_of_value : Option Value → ℕ
word_of_value None = 0
word_of_value (Some v) = suc (length v)

-- the rows of versions whose bytes start at pos
unfoldable pub row_words : ℕ → List Version → List ℕ
row_words pos [] = []
row_words pos (v ∷ vs) =
    pos ∷ length v.key ∷ word_of_value v.value ∷ v.seq ∷ row_words (pos + length v.key + length (bytes_of v.value)) vs

-- the bytes of the versions one behind the other
unfoldable pub version_bytes : List Version → Bytes
version_bytes [] = []
version_bytes (v ∷ vs) = v.key ++ (bytes_of v.value ++ version_bytes vs)

-- the words of a store
unfoldable pub store_words : Store → List ℕ
store_words st =
    length st.versions ∷ length (version_bytes st.versions) ∷ st.last ∷ st.most_versions ∷ st.most_bytes ∷ row_words 0 st.versions

-- the words after a write of this store
unfoldable pub leave_words : Store → List ℕ → List ℕ
leave_words st w = over_front (store_words st) w

-- the bytes after a write of this store
unfoldable pub leave_bytes : Store → Bytes → Bytes
leave_bytes st b = over_front (version_bytes st.versions) b

-- OPENING. An empty store with any last sequence and capacities that the buffers hold.
unfoldable pub empty_store : ℕ → ℕ → ℕ → Store
empty_store last versions size = record { versions = []; last = last; most_versions = versions; most_bytes = size }
