-- The writes of a member committed one after the other. Assumes nothing.
use Prim.Native.Nat.{ℕ, ◌+◌, ◌-◌, ◌*◌, ◌^◌, ◌≤◌, ◌<◌}
use native.Mathlib.Omega.{arith}
use mathlib.Core.Path.{◌≡◌, sym, ap, ◌∙◌}
use mathlib.Core.Bool.{true}
use mathlib.Core.List.{List}
use lib.ListN.{length}
use Rattle.base_key.specs.Bytes.{Bytes}
use Rattle.store_memtable.specs.Table.{Write}
use Rattle.store_memtable.specs.Versions.{Store, commit_one, commit}
use Rattle.store_memtable.specs.Layout.{count_word, used_word, last_word, most_versions_word, most_bytes_word, store_in, leave_words, leave_bytes}
use Rattle.store_memtable.specs.Rows.{Valid}
use Rattle.store_memtable.proofs.Sequence.{Holds, holds_first, one_more}
use Rattle.group_spec.specs.Members.{list_from, all_from, write_at, write_inside}
use Rattle.group_spec.specs.Settling.{WriteIn, WritesIn, size_at, sizes_from, RoomFor}
use Rattle.group_spec.proofs.Walks.{list_next, list_end, all_here, all_later}
use Rattle.group_spec.proofs.SizeLaws.{write_in, write_in_size, sizes_next}

-- the writes before place i are committed: the words and bytes are a store over those of the start, with room for the writes behind
pub record Committing (w : List ℕ) (d : Bytes) (first count e : ℕ) (ws₀ bs₀ ws bs : List ℕ) (i : ℕ) : Type 0 where
  pub within : i ≤ e
  pub all_in : all_from (write_inside w d) i (e - i) ≡ true
  pub holds : Holds (store_in ws bs) ws₀ bs₀ ws bs
  pub whole : commit (list_from (write_at w d) first count) (store_in ws₀ bs₀) ≡ commit (list_from (write_at w d) i (e - i)) (store_in ws bs)
  pub rows_free : count_word ws + (e - i) ≤ most_versions_word ws
  pub bytes_free : used_word ws + sizes_from w i (e - i) ≤ most_bytes_word ws
  pub seqs_free : last_word ws + (e - i) < 2 ^ 64

pub committing_none : (w : List ℕ) (d : Bytes) (first count : ℕ) (ws bs : List ℕ) → WritesIn w d first count → Valid ws bs → RoomFor ws count (sizes_from w first count)
    → Committing w d first count (first + count) ws bs ws bs first
committing_none w d first count ws bs ok v r =
    let n : count ≡ first + count - first = omega arith in
    record {
      within = omega arith;
      all_in = sym (ap (all_from (write_inside w d) first) n) ∙ ok.parts_in;
      holds = holds_first ws bs v;
      whole = ap (λ (k : ℕ). commit (list_from (write_at w d) first k) (store_in ws bs)) n;
      rows_free = omega (arith, r.rows_free);
      bytes_free = omega (arith, r.bytes_free, ap (sizes_from w first) n);
      seqs_free = omega (arith, r.seqs_free);
    }

module _ {w : List ℕ} {d : Bytes} {first count e : ℕ} {ws₀ bs₀ ws bs : List ℕ} {i : ℕ} (p : Committing w d first count e ws₀ bs₀ ws bs i) where
  module _ (h : e ≤ i) where
    ended : commit (list_from (write_at w d) first count) (store_in ws₀ bs₀) ≡ store_in ws bs
    unfolding commit
    ended = p.whole ∙ ap (λ (l : List Write). commit l (store_in ws bs)) (list_end (write_at w d) h)

    pub ended_words : ws ≡ leave_words (commit (list_from (write_at w d) first count) (store_in ws₀ bs₀)) ws₀
    ended_words = p.holds.words_are ∙ ap (λ (st : Store). leave_words st ws₀) (sym ended)

    pub ended_bytes : bs ≡ leave_bytes (commit (list_from (write_at w d) first count) (store_in ws₀ bs₀)) bs₀
    ended_bytes = p.holds.bytes_are ∙ ap (λ (st : Store). leave_bytes st bs₀) (sym ended)

  module _ (h : i < e) where
    pub next_in : 4 * e ≤ length w → WriteIn w d i
    next_in l = write_in w d i (omega arith) (all_here (write_inside w d) h p.all_in)

    pub next_room : RoomFor ws 1 (size_at w i)
    next_room =
        let s = sizes_next w h in
        record { rows_free = omega (arith, p.rows_free); bytes_free = omega (arith, p.bytes_free, s); seqs_free = omega (arith, p.seqs_free) }

    pub committing_more : {ws' bs' : List ℕ} → 4 * e ≤ length w → ws' ≡ leave_words (commit_one (write_at w d i) (store_in ws bs)) ws
        → bs' ≡ leave_bytes (commit_one (write_at w d i) (store_in ws bs)) bs → Committing w d first count e ws₀ bs₀ ws' bs' (i + 1)
    unfolding commit commit_one
    committing_more {ws'} {bs'} l p-words p-bytes =
        let s = sizes_next w h in
        let z = write_in_size w d i (next_in l) in
        let m = one_more p.holds (write_at w d i) (omega (arith, p.rows_free)) (omega (arith, p.bytes_free, s, z)) p-words p-bytes in
        record {
          within = omega arith;
          all_in = all_later (write_inside w d) h p.all_in;
          holds = m.holds;
          whole = p.whole ∙ ap (λ (x : List Write). commit x (store_in ws bs)) (list_next (write_at w d) h)
              ∙ ap (commit (list_from (write_at w d) (i + 1) (e - (i + 1)))) m.store;
          rows_free = omega (arith, p.rows_free, m.rows, m.most_rows);
          bytes_free = omega (arith, p.bytes_free, s, z, m.used, m.most_bytes);
          seqs_free = omega (arith, p.seqs_free, m.last);
        }
