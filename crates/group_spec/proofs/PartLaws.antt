-- Laws of keys and values as parts of the data. Assumes nothing.
use Prim.Native.Nat.{ℕ, ◌+◌, ◌-◌, ◌*◌}
use native.Mathlib.Omega.{arith}
use mathlib.Core.Path.{◌≡◌, sym, ap, ◌∙◌, subst}
use mathlib.Core.Bool.{Bool, not}
use mathlib.Core.List.{List}
use lib.Dec.{eqb}
use lib.ListN.{length, get_or}
use Rattle.base_key.specs.Bytes.{Bytes, part}
use Rattle.store_memtable.specs.declared.Front.{Front}
use Rattle.store_memtable.specs.Table.{Write}
use Rattle.store_memtable.specs.Versions.{Store, bytes_of, commit_one}
use Rattle.store_memtable.specs.Layout.{value_of_word, leave_words, leave_bytes}
use Rattle.store_memtable.specs.Rows.{RoomForOne, value_if}
use Rattle.store_memtable.specs.Merging.{Mergeable, front_after, words_after, bytes_after}
use Rattle.store_memtable.proofs.Committing.{value_if_word}
use Rattle.group_spec.specs.Members.{write_at}
use Rattle.group_spec.specs.Settling.{key_part, WriteIn, size_at, RoomFor}
use Rattle.group_spec.proofs.SizeLaws.{write_in_size}

module _ (w : List ℕ) (d : Bytes) (j : ℕ) where
  -- write j by its words: its key k, its value word x, and bytes v that are its value's
  pub given_write : {a x : ℕ} {k : Bytes} (v : Bytes) → x ≡ get_or w (4 * j + 3) 0 → a ≡ get_or w (4 * j + 2) 0 → k ≡ key_part w d (4 * j) → v ≡ part a (x - 1) d
      → write_at w d j ≡ (k, value_if (not (eqb x 0)) v)
  unfolding write_at
  given_write {a} {x} v x-is a-is k-is v-is =
      let value-is = value_if_word x v ∙ ap (value_of_word x) v-is ∙ (λ z. value_of_word (x-is z) (part (a-is z) (x-is z - 1) d)) in
      sym (λ z. (k-is z, value-is z))

  -- the write that `commit_one` is given
  module _ {k : Bytes} (v : Bytes) (live : Bool) (e : write_at w d j ≡ (k, value_if live v)) where
    given_size : WriteIn w d j → length k + length (bytes_of (value_if live v)) ≡ size_at w j
    given_size i = sym (ap (λ (y : Write). length y.0 + length (bytes_of y.1)) e) ∙ write_in_size w d j i

    pub given_room : {ws : List ℕ} → WriteIn w d j → RoomFor ws 1 (size_at w j) → RoomForOne ws k (bytes_of (value_if live v))
    given_room i r =
        let n = given_size i in
        record { row_free = omega (arith, r.rows_free); bytes_free = omega (arith, r.bytes_free, n); seq_free = r.seqs_free }

    pub given_words : (st : Store) (ws : List ℕ) {ws' : List ℕ} → ws' ≡ leave_words (commit_one (k, value_if live v) st) ws → ws' ≡ leave_words (commit_one (write_at w d j) st) ws
    given_words st ws p = p ∙ ap (λ (y : Write). leave_words (commit_one y st) ws) (sym e)

    pub given_bytes : (st : Store) (bs : List ℕ) {bs' : List ℕ} → bs' ≡ leave_bytes (commit_one (k, value_if live v) st) bs → bs' ≡ leave_bytes (commit_one (write_at w d j) st) bs
    given_bytes st bs p = p ∙ ap (λ (y : Write). leave_bytes (commit_one y st) bs) (sym e)

    -- and `merge_one`
    pub given_mergeable : {ws bs : List ℕ} {by : ℕ} {f : Front} → WriteIn w d j → Mergeable ws bs by (size_at w j) f
        → Mergeable ws bs by (length k + length (bytes_of (value_if live v))) f
    given_mergeable {ws} {bs} {by} {f} i m = subst (λ (n : ℕ). Mergeable ws bs by n f) (sym (given_size i)) m

    module _ (ws bs : List ℕ) (s by : ℕ) (f r : Front) where
      pub given_front : r ≡ front_after (k, value_if live v) s f ws bs → r ≡ front_after (write_at w d j) s f ws bs
      given_front p = p ∙ ap (λ (y : Write). front_after y s f ws bs) (sym e)

      pub given_rows : {ws' : List ℕ} → ws' ≡ words_after (k, value_if live v) s by f r ws → ws' ≡ words_after (write_at w d j) s by f r ws
      given_rows p = p ∙ ap (λ (y : Write). words_after y s by f r ws) (sym e)

      pub given_data : {bs' : List ℕ} → bs' ≡ bytes_after (k, value_if live v) f r bs → bs' ≡ bytes_after (write_at w d j) f r bs
      given_data p = p ∙ ap (λ (y : Write). bytes_after y f r bs) (sym e)
