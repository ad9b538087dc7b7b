-- Laws of a write set: the row of its key replaced, or put in at its place. Assumes nothing.
use Prim.Native.Nat.{ℕ, zero, suc, ◌+◌, ◌-◌, ◌*◌, ◌≤◌, ◌<◌}
use native.Mathlib.Nat.{zero-add, eq-or-lt_of_le}
use native.Mathlib.Numerals.{add-one}
use native.Mathlib.Omega.{arith}
use mathlib.Core.Path.{◌≡◌, sym, ap, ◌∙◌, subst}
use mathlib.Core.Logic.{⊎_elim}
use mathlib.Core.Bool.{Bool, true, false}
use mathlib.Core.List.{List, [], ◌∷◌, ◌++◌}
use Rattle.std.specs.Prelude.{Option, Some}
use lib.ListN.{length}
use Rattle.base_key.specs.Bytes.{Bytes, part, moved_up, put_at}
use Rattle.base_key.specs.Keys.{Key}
use Rattle.store_memtable.specs.Table.{Value, update, Ascending}
use Rattle.store_memtable.specs.Layout.{value_of_word}
use Rattle.base_key.proofs.Writes.{length_written, length_moved}
use Rattle.store_memtable.proofs.TableLaws.{ascending_update}
use Rattle.group_spec.specs.Members.{list_from, write_at, write_inside}
use Rattle.group_spec.proofs.Walks.{join_list, same_list, all_of, all_at}
use Rattle.command_writes.specs.Own.{own_writes, Own}
use Rattle.command_writes.specs.Changes.{place_among, held_at, RowFits, OwnPut}
use Rattle.command_writes.proofs.Lists.{by_order}
use Rattle.command_writes.proofs.Places.{place_within, held_inside, changed_here, changed_between}
use Rattle.command_writes.proofs.RowLaws.{same_write, same_inside, row_other_before, row_other_behind, row_write, row_inside, row_stays, row_moves}

-- a table with these writes in these rows is one of own writes
put_made : {w w' : List ℕ} {d : Bytes} {n r : ℕ} {k : Key} {v : Option Value} → Own w d n → n ≤ r → r ≤ n + 1 → 4 * r ≤ length w → length w' ≡ length w
    → ((j : ℕ) → j < r → write_inside w' d j ≡ true) → own_writes w' d r ≡ update k (Some v) (own_writes w d n) → OwnPut w w' d n k v r
unfolding own_writes
put_made {w} {w'} {d} {n} {r} {k} {v} o a b room same inside is = record {
  kept = record {
    rows = record { rows_in = omega arith; parts_in = all_of (write_inside w' d) 0 r (λ m h. ap (write_inside w' d) (zero-add m) ∙ inside m h) };
    rising = subst Ascending (sym is) (ascending_update k (Some v) (own_writes w d n) o.rising);
  };
  is = is;
  more = a;
  most = b;
  same = same;
}

own_inside : (w : List ℕ) (d : Bytes) (n j : ℕ) → Own w d n → j < n → write_inside w d j ≡ true
own_inside w d n j o h = all_at (write_inside w d) 0 n j o.rows.parts_in (omega arith) (omega arith)

-- the part that is looked up is the key
cut : (d : Bytes) (ks kl : ℕ) → part ks (ks + kl - ks) d ≡ part ks kl d
cut d ks kl = let e : ks + kl - ks ≡ kl = omega arith in ap (λ (m : ℕ). part ks m d) e

module _ (w : List ℕ) (d : Bytes) (n ks kl : ℕ) {i : ℕ} where
  module _ (i-is : i ≡ place_among (part ks (ks + kl - ks) d) (own_writes w d n)) (room : 4 * n + 4 ≤ length w) where
    place_is : i ≡ place_among (part ks kl d) (own_writes w d n)
    place_is = i-is ∙ ap (λ (k : Key). place_among k (own_writes w d n)) (cut d ks kl)

    pub put_low : i ≤ n
    put_low = place_within w d n (part ks kl d) place_is

    pub put_room : 4 * i + 4 ≤ length w
    put_room = let l = put_low in omega arith

    put_below : 4 * i ≤ 4 * n
    put_below = let l = put_low in omega arith

    pub put_room_after : (w₁ : List ℕ) → length w₁ ≡ length w → 4 * i + 4 ≤ length w₁
    put_room_after w₁ e = let l = put_room in omega arith

    module _ (vs x : ℕ) {r : Bool} (o : Own w d n) (fits : RowFits d ks kl vs x) (held : r ≡ held_at w d n (part ks (ks + kl - ks) d) i) where
      held_is : r ≡ held_at w d n (part ks kl d) i
      held_is = held ∙ ap (λ (k : Key). held_at w d n k i) (cut d ks kl)

      value : Option Value
      value = value_of_word x (part vs (x - 1) d)

      module _ (yes : r ≡ true) where
        inside : i < n
        inside = held_inside w d n (part ks kl d) place_is held_is yes

        new : List ℕ
        new = put_at (4 * i) (ks ∷ kl ∷ vs ∷ x ∷ []) w

        replaced_inside : (j : ℕ) → j < n → write_inside new d j ≡ true
        unfolding new
        replaced_inside j h =
            by_order j i
            (λ l. same_inside (row_other_before w i ks kl vs x put_room j l) d ∙ own_inside w d n j o h)
            (λ l. ⊎_elim (λ (e : i ≡ j). ap (write_inside new d) (sym e) ∙ row_inside w i ks kl vs x put_room d fits)
            (λ (e : i < j). same_inside (row_other_behind w i ks kl vs x put_room j e) d ∙ own_inside w d n j o h) (eq-or-lt_of_le l))

        replaced_list : own_writes new d n ≡ update (part ks kl d) (Some value) (own_writes w d n)
        unfolding own_writes new value list_from
        replaced_list =
            let g = inside in
            let m : ℕ = n - (i + 1) in
            let c : n ≡ i + suc m = omega arith in
            let front : list_from (write_at new d) 0 i ≡ list_from (write_at w d) 0 i =
            same_list (write_at new d) (write_at w d) 0 0 i (λ j h. same_write (row_other_before w i ks kl vs x put_room (0 + j) (omega arith)) d) in
            let back : list_from (write_at new d) (suc i) m ≡ list_from (write_at w d) (i + 1) m =
            same_list (write_at new d) (write_at w d) (suc i) (i + 1) m
            (λ j h. same_write (row_other_behind w i ks kl vs x put_room (suc i + j) (omega arith)) d ∙ ap (λ (y : ℕ). write_at w d (y + j)) (sym (add-one i))) in
            ap (list_from (write_at new d) 0) c ∙ join_list (write_at new d) 0 i (suc m) ∙ ap (λ (y : ℕ). list_from (write_at new d) 0 i ++ list_from (write_at new d) y (suc m)) (zero-add i)
            ∙ (λ z. front z ++ row_write w i ks kl vs x put_room d z ∷ back z) ∙ sym (changed_here w d n (part ks kl d) place_is held_is yes value)

        pub put_replaced : {w' : List ℕ} → w' ≡ put_at (4 * i) (ks ∷ kl ∷ vs ∷ x ∷ []) w → OwnPut w w' d n (part ks kl d) (value_of_word x (part vs (x - 1) d)) n
        unfolding new value
        put_replaced e =
            subst (λ (t : List ℕ). OwnPut w t d n (part ks kl d) (value_of_word x (part vs (x - 1) d)) n) (sym e)
            (put_made o (omega arith) (omega arith) (omega arith) (length_written (4 * i) (ks ∷ kl ∷ vs ∷ x ∷ []) w put_room) replaced_inside replaced_list)

      module _ (no : r ≡ false) where
        up : List ℕ
        up = moved_up (4 * i) (4 * n) 4 w

        up_room : 4 * i + 4 ≤ length up
        unfolding up
        up_room = put_room_after up (length_moved w (4 * i) (4 * n) 4 put_below room)

        grown : List ℕ
        grown = put_at (4 * i) (ks ∷ kl ∷ vs ∷ x ∷ []) up

        grown_before : (j : ℕ) → j < i → (write_at grown d j ≡ write_at w d j) × (write_inside grown d j ≡ write_inside w d j)
        unfolding grown up
        grown_before j h =
            let a = row_other_before up i ks kl vs x up_room j h in
            let b = row_stays w i n put_low room j h in
            (same_write a d ∙ same_write b d, same_inside a d ∙ same_inside b d)

        grown_behind : (j : ℕ) → i ≤ j → j < n → (write_at grown d (suc j) ≡ write_at w d j) × (write_inside grown d (suc j) ≡ write_inside w d j)
        unfolding grown up
        grown_behind j l h =
            let a = row_other_behind up i ks kl vs x up_room (suc j) (omega arith) in
            let b = row_moves w i n put_low room j l h in
            (same_write a d ∙ same_write b d, same_inside a d ∙ same_inside b d)

        grown_inside : (j : ℕ) → j < n + 1 → write_inside grown d j ≡ true
        unfolding grown
        grown_inside zero h =
            ⊎_elim (λ (e : 0 ≡ i). ap (write_inside grown d) e ∙ row_inside up i ks kl vs x up_room d fits)
            (λ (e : 0 < i). let g = put_low in (grown_before 0 e).1 ∙ own_inside w d n 0 o (omega arith)) (eq-or-lt_of_le (omega arith))
        grown_inside (suc j) h =
            by_order (suc j) i
            (λ l. let g = put_low in (grown_before (suc j) l).1 ∙ own_inside w d n (suc j) o (omega arith))
            (λ l. ⊎_elim (λ (e : i ≡ suc j). ap (write_inside grown d) (sym e) ∙ row_inside up i ks kl vs x up_room d fits)
            (λ (e : i < suc j). (grown_behind j (omega arith) (omega arith)).1 ∙ own_inside w d n j o (omega arith)) (eq-or-lt_of_le l))

        grown_list : own_writes grown d (n + 1) ≡ update (part ks kl d) (Some value) (own_writes w d n)
        unfolding own_writes grown value list_from
        grown_list =
            let g = put_low in
            let c : n + 1 ≡ i + suc (n - i) = omega arith in
            let front : list_from (write_at grown d) 0 i ≡ list_from (write_at w d) 0 i =
            same_list (write_at grown d) (write_at w d) 0 0 i (λ j h. (grown_before (0 + j) (omega arith)).0) in
            let back : list_from (write_at grown d) (suc i) (n - i) ≡ list_from (write_at w d) i (n - i) =
            same_list (write_at grown d) (write_at w d) (suc i) i (n - i)
            (λ j h. let e : suc i + j ≡ suc (i + j) = omega arith in ap (write_at grown d) e ∙ (grown_behind (i + j) (omega arith) (omega arith)).0) in
            ap (list_from (write_at grown d) 0) c ∙ join_list (write_at grown d) 0 i (suc (n - i)) ∙ ap (λ (y : ℕ). list_from (write_at grown d) 0 i ++ list_from (write_at grown d) y (suc (n - i))) (zero-add i)
            ∙ (λ z. front z ++ row_write up i ks kl vs x up_room d z ∷ back z) ∙ sym (changed_between w d n (part ks kl d) place_is held_is no value)

        pub put_inserted : {w₁ w' : List ℕ} → w₁ ≡ moved_up (4 * i) (4 * n) 4 w → w' ≡ put_at (4 * i) (ks ∷ kl ∷ vs ∷ x ∷ []) w₁
            → OwnPut w w' d n (part ks kl d) (value_of_word x (part vs (x - 1) d)) (n + 1)
        unfolding grown up value
        put_inserted e f =
            subst (λ (t : List ℕ). OwnPut w t d n (part ks kl d) (value_of_word x (part vs (x - 1) d)) (n + 1)) (sym (f ∙ ap (put_at (4 * i) (ks ∷ kl ∷ vs ∷ x ∷ [])) e))
            (put_made o (omega arith) (omega arith) (omega arith)
            (length_written (4 * i) (ks ∷ kl ∷ vs ∷ x ∷ []) up up_room ∙ length_moved w (4 * i) (4 * n) 4 put_below room) grown_inside grown_list)
