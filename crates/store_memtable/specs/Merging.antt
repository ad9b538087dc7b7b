-- Writes of ascending keys merged into a store from the last to the first: what a turn asks for, and what it leaves.
use Rattle.std.specs.Prelude.{ℕ, ◌+◌, ◌-◌, ◌*◌, ◌≤◌, ◌<◌, ◌≡◌, true, cond, List, ◌∷◌, ◌++◌, ltb, take, drop, length}
use Rattle.std.proofs.Math.Seq.{slice}
use Rattle.base_key.specs.Bytes.{Bytes}
use Rattle.store_memtable.specs.declared.Front.{Front}
use Rattle.store_memtable.specs.Table.{Write}
use Rattle.store_memtable.specs.Versions.{Store, sorted, bytes_of, size_of}
use Rattle.store_memtable.specs.Layout.{start_word, end_word, versions_from, word_of_value, row_words}
use Rattle.store_memtable.specs.Rows.{place_of}
use Rattle.store_memtable.specs.Moves.{shift_rows}

-- the words of the first n versions are there, and their bytes, and they are in order
pub record FrontIn (w : List ℕ) (b : Bytes) (n : ℕ) : Type 0 where
  pub rows_in : 5 + 4 * n ≤ length w
  pub ends_in : (i : ℕ) → i < n → end_word w i ≤ length b
  pub ordered : sorted (versions_from w b 0 n) ≡ true

-- there is a front, and behind it a gap for the rows of `by` writes and for a write of this size
pub record Mergeable (w : List ℕ) (b : Bytes) (by size : ℕ) (f : Front) : Type 0 where
  pub front_in : FrontIn w b f.rows
  pub starts_in : (i : ℕ) → i < f.rows → start_word w i ≤ f.used
  pub some_left : 1 ≤ by
  pub rows_free : 5 + 4 * f.rows + 4 * by ≤ length w
  pub bytes_free : f.used + f.gap ≤ length b
  pub size_fits : size ≤ f.gap

-- where the version at place `at` of the front starts, or would: behind the last at the bytes used
unfoldable pub start_in : ℕ → ℕ → List ℕ → ℕ → ℕ
start_in rows used w at = cond (ltb at rows) (start_word w at) used

-- the rows from place `at` on moved up by `by` places, and a row written in front of them
unfoldable pub row_merged : ℕ → ℕ → ℕ → ℕ → ℕ → ℕ → ℕ → ℕ → List ℕ → List ℕ
row_merged at rows by start keyLen word seq gap w =
    take (5 + 4 * (at + (by - 1))) w ++ (start ∷ keyLen ∷ word ∷ seq
    ∷ (shift_rows gap (slice (5 + 4 * at) (5 + 4 * rows) w) ++ drop (5 + 4 * rows + 4 * by) w))

-- the bytes from `start` on moved up by `gap`, and a key and a value written in front of them; `rest` of the gap is left
unfoldable pub bytes_merged : ℕ → ℕ → ℕ → ℕ → Bytes → Bytes → Bytes → Bytes
bytes_merged start used gap rest key value b = take (start + rest) b ++ (key ++ (value ++ (slice start used b ++ drop (used + gap) b)))

-- A TURN: the last of `by` writes goes to its place in the front, and what lies behind that place is done
unfoldable pub front_after : Write → ℕ → Front → List ℕ → Bytes → Front
front_after wr s f w b =
    let at = place_of wr.0 s (versions_from w b 0 f.rows) in
    record { rows = at; used = start_in f.rows f.used w at; gap = f.gap - size_of wr.0 wr.1 }

-- the words after it; r is the front that is left
unfoldable pub words_after : Write → ℕ → ℕ → Front → Front → List ℕ → List ℕ
words_after wr s by f r w = row_merged r.rows f.rows by (r.used + r.gap) (length wr.0) (word_of_value wr.1) s f.gap w

-- and the bytes
unfoldable pub bytes_after : Write → Front → Front → Bytes → Bytes
bytes_after wr f r b = bytes_merged r.used f.used f.gap r.gap wr.0 (bytes_of wr.1) b

-- the rows of a store written back, and the header as it was
unfoldable pub leave_rows : Store → List ℕ → List ℕ
leave_rows st w = take 5 w ++ (row_words 0 st.versions ++ drop (5 + 4 * length st.versions) w)
