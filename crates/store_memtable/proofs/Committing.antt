-- A write committed to a valid store with room: what the steps leave is the committed store, written back. Assumes nothing.
use mathlib.Core.Path.{◌≡◌, refl, sym, ◌∙◌}
use mathlib.Core.Bool.{not}
use mathlib.Core.List.{List, [], ◌∷◌, ◌++◌}
use Rattle.std.specs.Prelude.{Option}
use Prim.Native.Nat.{ℕ, zero, suc, ◌+◌}
use native.Mathlib.Omega.{arith}
use lib.Dec.{eqb}
use lib.ListN.{length, set}
use borrow.Author.Tests.{ne_eqb}
use Rattle.base_key.specs.Keys.{Key}
use Rattle.store_memtable.specs.declared.Front.{Front}
use Rattle.store_memtable.specs.Table.{Value, Write}
use Rattle.store_memtable.specs.Versions.{bytes_of, commit_one, commit, writes_size}
use Rattle.store_memtable.specs.Layout.{count_word, used_word, last_word, value_of_word, store_in, leave_words, leave_bytes}
use Rattle.store_memtable.specs.Rows.{value_if, Valid, RoomForOne}
use Rattle.store_memtable.specs.Merging.{Mergeable, front_after, words_after, bytes_after}
use Rattle.store_memtable.proofs.MergePass.{Pass, pass_none, pass_mergeable, pass_more, pass_rows, pass_bytes, rows_headed}

-- a write whose value word is x, and 0 of a tombstone
pub value_if_word : (x : ℕ) (l : List ℕ) → value_if (not (eqb x 0)) l ≡ value_of_word x l
unfolding value_if
value_if_word zero l = refl
value_if_word (suc x) l = rw (ne_eqb (suc x) 0 (λ (z : suc x ≡ 0). omega arith))

-- A MERGE OF ONE: the whole store is the front
module _ (w b : List ℕ) (v : Valid w b) (k : Key) (val : Option Value) (room : RoomForOne w k (bytes_of val)) (f : Front)
    (rows_are : f.rows ≡ count_word w) (used_is : f.used ≡ used_word w) (gap_is : f.gap ≡ length k + length (bytes_of val)) where
  abbrev wr : Write
  wr = (k, val)

  one_size : writes_size (wr ∷ []) ≡ length k + length (bytes_of val)
  unfolding writes_size
  one_size = omega arith

  begun : Pass w b (wr ∷ []) ([] ++ (wr ∷ [])) f w b
  begun = pass_none w b (wr ∷ []) f v (omega (arith, room.row_free, v.words_hold)) (omega (arith, room.bytes_free, v.bytes_hold, one_size)) rows_are used_is (gap_is ∙ sym one_size)

  pub one_mergeable : Mergeable w b 1 (length k + length (bytes_of val)) f
  one_mergeable = pass_mergeable [] wr begun refl refl

  module _ {s : ℕ} {r : Front} {w₁ b₁ : List ℕ} (s-is : s ≡ last_word w + 1) (r-is : r ≡ front_after wr s f w b) (w-is : w₁ ≡ words_after wr s 1 f r w)
      (b-is : b₁ ≡ bytes_after wr f r b) (same_words : length w₁ ≡ length w) (same_bytes_lem : length b₁ ≡ length b) where
    ended : Pass w b (wr ∷ []) [] r w₁ b₁
    ended = pass_more [] wr begun tt s-is refl r-is w-is b-is same_words same_bytes_lem

    pub one_words : {w₂ : List ℕ} → w₂ ≡ set (set (set w₁ 0 (f.rows + 1)) 1 (f.used + f.gap)) 2 s → w₂ ≡ leave_words (commit_one wr (store_in w b)) w
    unfolding commit
    one_words e = rows_headed w b (wr ∷ []) v (omega arith) (omega (arith, one_size)) s-is (pass_rows ended) e

    pub one_bytes : b₁ ≡ leave_bytes (commit_one wr (store_in w b)) b
    unfolding commit
    one_bytes = pass_bytes ended
