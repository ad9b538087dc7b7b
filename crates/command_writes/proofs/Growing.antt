-- Laws of the own writes as a whole: there are none at first, data that grows behind leaves them, and the words say their sizes. Assumes nothing.
use Prim.Native.Nat.{ℕ, zero, suc, ◌+◌, ◌-◌, ◌*◌, ◌≤◌, ◌<◌}
use native.Mathlib.Omega.{arith}
use mathlib.Core.Path.{◌≡◌, refl, sym, ap, ◌∙◌, subst}
use mathlib.Core.Bool.{true}
use mathlib.Core.List.{List, [], ◌++◌}
use lib.ListN.{length, get_or, take, drop, length-append, length-drop}
use lib.Seq.{take-append-le, drop-append-le}
use borrow.Author.Tests.{leb-true, le-leb}
use Rattle.base_key.specs.Bytes.{Bytes, part}
use Rattle.base_key.proofs.Bytes.{and_both}
use Rattle.store_memtable.specs.Versions.{writes_size}
use Rattle.store_memtable.specs.Layout.{value_of_word}
use Rattle.store_memtable.specs.Table.{Ascending}
use Rattle.group_spec.specs.Members.{list_from, all_from, value_inside, write_at, write_inside}
use Rattle.group_spec.specs.Settling.{WriteIn, sizes_from}
use Rattle.group_spec.proofs.Walks.{list_long, same_list, all_of, all_at}
use Rattle.group_spec.proofs.SizeLaws.{write_in, writes_size_lem}
use Rattle.command_writes.specs.Own.{own_writes, Own}

-- NONE AT FIRST
pub none_writes : (w : List ℕ) (d : Bytes) → own_writes w d 0 ≡ []
unfolding own_writes list_from
none_writes w d = refl

pub own_none : (w : List ℕ) (d : Bytes) → Own w d 0
unfolding own_writes list_from all_from
own_none w d = record { rows = record { rows_in = omega arith; parts_in = refl }; rising = tt }

-- a row is there, with its key and its value
pub own_row : (w : List ℕ) (d : Bytes) {n j : ℕ} → Own w d n → j < n → WriteIn w d j
own_row w d {n} {j} o h =
    write_in w d j (omega (arith, o.rows.rows_in)) (all_at (write_inside w d) 0 n j o.rows.parts_in (omega arith) (omega arith))

-- SIZES
pub own_count : (w : List ℕ) (d : Bytes) (n : ℕ) → length (own_writes w d n) ≡ n
unfolding own_writes
own_count w d n = list_long (write_at w d) 0 n

pub own_sizes : {w : List ℕ} {d : Bytes} {n : ℕ} → Own w d n → sizes_from w 0 n ≡ writes_size (own_writes w d n)
unfolding own_writes
own_sizes {w} {d} {n} o = sym (writes_size_lem w d 0 n o.rows.parts_in)

-- DATA THAT GROWS BEHIND
pub part_append : (start size : ℕ) (d t : Bytes) → start + size ≤ length d → part start size (d ++ t) ≡ part start size d
part_append start size d t h =
    ap (take size) (drop-append-le start d t (omega arith)) ∙ take-append-le size (drop start d) t (rw length-drop (omega arith))

value_append : (start x : ℕ) (d t : Bytes) → value_inside start x d ≡ true → value_of_word x (part start (x - 1) (d ++ t)) ≡ value_of_word x (part start (x - 1) d)
unfolding value_inside
value_append start zero d t e = refl
value_append start (suc x) d t e =
    let m : suc x - 1 ≡ x = omega arith in
    ap (value_of_word (suc x)) (part_append start (suc x - 1) d t (omega (arith, leb-true (start + x) (length d) e)))

inside_append : (start x : ℕ) (d t : Bytes) → value_inside start x d ≡ true → value_inside start x (d ++ t) ≡ true
unfolding value_inside
inside_append start zero d t e = refl
inside_append start (suc x) d t e = le-leb (start + x) (length (d ++ t)) (rw length-append (omega (arith, leb-true (start + x) (length d) e)))

module _ (w : List ℕ) (d t : Bytes) (j : ℕ) (i : WriteIn w d j) where
  write_append : write_at w (d ++ t) j ≡ write_at w d j
  unfolding write_at
  write_append =
      let k = part_append (get_or w (4 * j) 0) (get_or w (4 * j + 1) 0) d t i.key_in in
      let v = value_append (get_or w (4 * j + 2) 0) (get_or w (4 * j + 3) 0) d t i.value_in in
      λ z. (k z, v z)

  row_append : write_inside w (d ++ t) j ≡ true
  unfolding write_inside
  row_append =
      and_both _ _
      (le-leb (get_or w (4 * j) 0 + get_or w (4 * j + 1) 0) (length (d ++ t)) (rw length-append (omega (arith, i.key_in))))
      (inside_append (get_or w (4 * j + 2) 0) (get_or w (4 * j + 3) 0) d t i.value_in)

module _ {w : List ℕ} {d : Bytes} {n : ℕ} (t : Bytes) (o : Own w d n) where
  pub writes_append : own_writes w (d ++ t) n ≡ own_writes w d n
  unfolding own_writes
  writes_append =
      same_list (write_at w (d ++ t)) (write_at w d) 0 0 n
      (λ m h. write_append w d t (0 + m) (own_row w d o (omega arith)))

  pub own_append : Own w (d ++ t) n
  own_append = record {
    rows = record {
      rows_in = o.rows.rows_in;
      parts_in = all_of (write_inside w (d ++ t)) 0 n (λ m h. row_append w d t (0 + m) (own_row w d o (omega arith)));
    };
    rising = subst Ascending (sym writes_append) o.rising;
  }
