-- Writes of ascending keys committed in one pass: the turns. Assumes nothing.
use Prim.Native.Nat.{ℕ, suc, ◌+◌, ◌-◌, ◌≤◌, ◌<◌}
use native.Mathlib.Omega.{arith}
use mathlib.Core.Path.{◌≡◌, sym, ap, ◌∙◌, subst}
use mathlib.Core.List.{List, [], ◌∷◌, ◌++◌}
use lib.ListN.{length, set}
use Rattle.base_key.specs.Bytes.{Bytes}
use Rattle.store_memtable.specs.declared.Front.{Front}
use Rattle.store_memtable.specs.Table.{Write, Ascending}
use Rattle.store_memtable.specs.Versions.{commit}
use Rattle.store_memtable.specs.Layout.{count_word, used_word, last_word, store_in, leave_words, leave_bytes}
use Rattle.store_memtable.specs.Rows.{Valid}
use Rattle.store_memtable.specs.Merging.{Mergeable, front_after, words_after, bytes_after, leave_rows}
use Rattle.store_memtable.proofs.MergeLaws.{ascending_last, ascending_front}
use Rattle.store_memtable.proofs.MergePass.{Pass, pass_none, pass_mergeable, pass_more, pass_rows, pass_bytes, rows_headed}
use Rattle.group_spec.specs.Members.{list_from, write_at, write_inside}
use Rattle.group_spec.specs.Settling.{WriteIn, WritesIn, size_at, sizes_from, RoomFor}
use Rattle.group_spec.proofs.Walks.{list_long, join_list, all_at}
use Rattle.group_spec.proofs.SizeLaws.{write_in, write_in_size, writes_size_lem}

-- THE TURNS: the first j writes are left
pub record Turning (w : List ℕ) (d : Bytes) (first count : ℕ) (ws₀ bs₀ ws bs : List ℕ) (f : Front) (j : ℕ) : Type 0 where
  pub within : j ≤ count
  pub pass : Pass ws₀ bs₀ (list_from (write_at w d) first count) (list_from (write_at w d) first j) f ws bs
  pub rising : Ascending (list_from (write_at w d) first j)

pub turning_none : (w : List ℕ) (d : Bytes) (first count : ℕ) (ws bs : List ℕ) (f : Front) → WritesIn w d first count → Valid ws bs → RoomFor ws count (sizes_from w first count)
    → Ascending (list_from (write_at w d) first count) → f.rows ≡ count_word ws → f.used ≡ used_word ws → f.gap ≡ sizes_from w first count
    → Turning w d first count ws bs ws bs f count
turning_none w d first count ws bs f i v r up r-is u-is g-is =
    let all : List Write = list_from (write_at w d) first count in
    let n = list_long (write_at w d) first count in
    let z = writes_size_lem w d first count i.parts_in in
    record {
      within = omega arith;
      pass = pass_none ws bs all f v (omega (arith, n, v.words_hold, r.rows_free)) (omega (arith, z, v.bytes_hold, r.bytes_free)) r-is u-is (g-is ∙ sym z);
      rising = up;
    }

module _ {w : List ℕ} {d : Bytes} {first count : ℕ} {ws₀ bs₀ ws bs : List ℕ} {f : Front} {j : ℕ} (t : Turning w d first count ws₀ bs₀ ws bs f j) where
  pub turned_rows : j ≤ 0 → ws ≡ leave_rows (commit (list_from (write_at w d) first count) (store_in ws₀ bs₀)) ws₀
  unfolding list_from
  turned_rows h =
      let e : j ≡ 0 = omega arith in
      pass_rows (subst (λ (x : ℕ). Pass ws₀ bs₀ (list_from (write_at w d) first count) (list_from (write_at w d) first x) f ws bs) e t.pass)

  pub turned_bytes : j ≤ 0 → bs ≡ leave_bytes (commit (list_from (write_at w d) first count) (store_in ws₀ bs₀)) bs₀
  unfolding list_from
  turned_bytes h =
      let e : j ≡ 0 = omega arith in
      pass_bytes (subst (λ (x : ℕ). Pass ws₀ bs₀ (list_from (write_at w d) first count) (list_from (write_at w d) first x) f ws bs) e t.pass)

  module _ (h : 0 < j) where
    abbrev left : List Write
    left = list_from (write_at w d) first (j - 1)

    abbrev wr : Write
    wr = write_at w d (first + (j - 1))

    left_is : list_from (write_at w d) first j ≡ left ++ (wr ∷ [])
    unfolding list_from
    left_is = let e : j ≡ j - 1 + 1 = omega arith in ap (list_from (write_at w d) first) e ∙ join_list (write_at w d) first (j - 1) 1

    next : Pass ws₀ bs₀ (list_from (write_at w d) first count) (left ++ (wr ∷ [])) f ws bs
    next = subst (λ (l : List Write). Pass ws₀ bs₀ (list_from (write_at w d) first count) l f ws bs) left_is t.pass

    next_rising : Ascending (left ++ (wr ∷ []))
    next_rising = subst (λ (l : List Write). Ascending l) left_is t.rising

    left_long : {by : ℕ} → by ≡ j → by ≡ suc (length left)
    left_long e = omega (arith, list_long (write_at w d) first (j - 1))

    pub turn_in : WritesIn w d first count → WriteIn w d (first + (j - 1))
    turn_in i = write_in w d (first + (j - 1)) (omega (arith, i.rows_in, t.within))
        (all_at (write_inside w d) first count (first + (j - 1)) i.parts_in (omega arith) (omega (arith, t.within)))

    pub turn_mergeable : {by : ℕ} → WritesIn w d first count → by ≡ j → Mergeable ws bs by (size_at w (first + (j - 1))) f
    turn_mergeable i e = pass_mergeable left wr next (left_long e) (sym (write_in_size w d (first + (j - 1)) (turn_in i)))

    pub turning_more : {by top x : ℕ} {r : Front} {ws' bs' : List ℕ} → by ≡ j → top ≡ last_word ws₀ + count → x ≡ count - by
        → r ≡ front_after (write_at w d (first + (j - 1))) (top - x) f ws bs → ws' ≡ words_after (write_at w d (first + (j - 1))) (top - x) by f r ws
        → bs' ≡ bytes_after (write_at w d (first + (j - 1))) f r bs → length ws' ≡ length ws → length bs' ≡ length bs
        → Turning w d first count ws₀ bs₀ ws' bs' r (j - 1)
    turning_more by-is top-is x-is r-is w-is b-is lw lb = record {
      within = omega (arith, t.within);
      pass = pass_more left wr next (ascending_last left wr next_rising) (omega (arith, by-is, top-is, x-is, t.within)) (left_long by-is) r-is w-is b-is lw lb;
      rising = ascending_front left wr next_rising;
    }

-- the header, from the words that were read
pub headed : (w : List ℕ) (d : Bytes) (first count : ℕ) (ws bs : List ℕ) {n u g x : ℕ} {w₁ w₂ : List ℕ} → WritesIn w d first count → Valid ws bs
    → n ≡ count_word ws → u ≡ used_word ws → g ≡ sizes_from w first count → x ≡ count
    → w₁ ≡ leave_rows (commit (list_from (write_at w d) first count) (store_in ws bs)) ws → w₂ ≡ set (set (set w₁ 0 (n + count)) 1 (u + g)) 2 (last_word ws + x)
    → w₂ ≡ leave_words (commit (list_from (write_at w d) first count) (store_in ws bs)) ws
headed w d first count ws bs i v n-is u-is g-is x-is p q =
    let l = list_long (write_at w d) first count in
    let z = writes_size_lem w d first count i.parts_in in
    rows_headed ws bs (list_from (write_at w d) first count) v (omega (arith, l)) (omega (arith, z)) (omega (arith, l)) p q
