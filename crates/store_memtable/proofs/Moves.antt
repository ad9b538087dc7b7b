-- Laws of the moves of a merge: rows written and moved up. Assumes nothing.
use mathlib.Core.Path.{◌≡◌, refl, sym, ap, ◌∙◌}
use mathlib.Core.List.{List, [], ◌∷◌, ◌++◌, append_assoc}
use Prim.Native.Nat.{ℕ, suc, ◌+◌, ◌-◌, ◌*◌, ◌^◌, ◌≤◌, ◌<◌}
use native.Mathlib.Numerals.{add-one, add-two, add-three, add-four}
use native.Mathlib.Omega.{arith}
use lib.ListN.{length, get_or, take, drop, set, length-append, length-drop, take-append-drop, get_or-append}
use lib.Seq.{slice, slice-cons, slice_empty, get_or-take, length-take-le, sets-eq, take-add, take_at, drop_at}
use Rattle.base_key.specs.Bytes.{put_at}
use Rattle.store_memtable.specs.Moves.{shift_rows, rows_moved}

-- four stores in a row
pub row_put : (w : List ℕ) (at s k v q : ℕ) → at + 4 ≤ length w → set (set (set (set w at s) (at + 1) k) (at + 2) v) (at + 3) q ≡ put_at at (s ∷ k ∷ v ∷ q ∷ []) w
unfolding put_at
row_put w at s k v q h = simp (add-one, add-two, add-three) (sets-eq (s ∷ k ∷ v ∷ q ∷ []) w at h ∙ append_assoc (take at w) (s ∷ k ∷ v ∷ q ∷ []) (drop (at + 4) w))

-- a part replaced by one as long
pub put_part : (p x r xs : List ℕ) (at : ℕ) → length p ≡ at → length x ≡ length xs → put_at at xs (p ++ (x ++ r)) ≡ p ++ (xs ++ r)
unfolding put_at
put_part p x r xs at e q =
    let t : take at (p ++ (x ++ r)) ≡ p = take_at p (x ++ r) at e in
    let d : drop (at + length xs) (p ++ (x ++ r)) ≡ r =
    ap (drop (at + length xs)) (sym (append_assoc p x r)) ∙ drop_at (p ++ x) r (at + length xs) (length-append p x ∙ rw (e, q)) in
    rw (t, d)

-- a key and a value written into the end of a gap
module _ (b k v behind : List ℕ) (at : ℕ) (room : at + (length k + length v) ≤ length b) where
  gap : List ℕ
  gap = drop at b

  opened : take (at + (length k + length v)) b ++ behind ≡ take at b ++ (take (length k) gap ++ (take (length v) (drop (length k) gap) ++ behind))
  unfolding gap
  opened = rw (take-add at (length k + length v) b, take-add (length k) (length v) (drop at b), append_assoc, append_assoc)

  pub gap_filled : put_at (at + length k) v (put_at at k (take (at + (length k + length v)) b ++ behind)) ≡ take at b ++ (k ++ (v ++ behind))
  unfolding gap
  gap_filled =
      ap (λ (x : List ℕ). put_at (at + length k) v (put_at at k x)) opened
      ∙ ap (put_at (at + length k) v) (put_part (take at b) (take (length k) gap) _ k at (length-take-le at b (omega arith)) (length-take-le (length k) gap (rw length-drop (omega arith))))
      ∙ ap (put_at (at + length k) v) (sym (append_assoc (take at b) k _))
      ∙ put_part (take at b ++ k) (take (length v) (drop (length k) gap)) behind v (at + length k) (length-append (take at b) k ∙ rw (length-take-le at b (omega arith))) (length-take-le (length v) (drop (length k) gap) (simp length-drop (omega arith)))
      ∙ append_assoc (take at b) k _

-- four elements of a slice
slice_four : (f t : ℕ) (l : List ℕ) → f + 4 ≤ t → t ≤ length l
    → slice f t l ≡ get_or l f 0 ∷ get_or l (f + 1) 0 ∷ get_or l (f + 2) 0 ∷ get_or l (f + 3) 0 ∷ slice (f + 4) t l
slice_four f t l h k = rw (add-one, add-two, add-three, add-four)
    (slice-cons f t l 0 (omega arith) k
    ∙ ap (λ (x : List ℕ). get_or l f 0 ∷ x) (slice-cons (suc f) t l 0 (omega arith) k)
    ∙ ap (λ (x : List ℕ). get_or l f 0 ∷ get_or l (suc f) 0 ∷ x) (slice-cons (suc (suc f)) t l 0 (omega arith) k)
    ∙ ap (λ (x : List ℕ). get_or l f 0 ∷ get_or l (suc f) 0 ∷ get_or l (suc (suc f)) 0 ∷ x) (slice-cons (suc (suc (suc f))) t l 0 (omega arith) k))

-- the words of a row, its start more by k
abbrev pub row_up : ℕ → List ℕ → ℕ → List ℕ
row_up k w i = (get_or w (5 + 4 * i) 0 + k) ∷ get_or w (5 + 4 * i + 1) 0 ∷ get_or w (5 + 4 * i + 2) 0 ∷ get_or w (5 + 4 * i + 3) 0 ∷ []

module _ (w : List ℕ) (to by k i : ℕ) (h : i < to) (room : 5 + 4 * to + 4 * by ≤ length w) where
  -- what lies before the moved rows is as it was
  pub rows_read : (x : ℕ) → x < 5 + 4 * suc i + 4 * by → get_or (rows_moved (suc i) to by k w) x 0 ≡ get_or w x 0
  unfolding rows_moved
  rows_read x l =
      get_or-append (take (5 + 4 * suc i + 4 * by) w) _ 0 x (rw (length-take-le (5 + 4 * suc i + 4 * by) w (omega arith)) l)
      ∙ get_or-take (5 + 4 * suc i + 4 * by) w x 0 l

  later : List ℕ
  later = shift_rows k (slice (5 + 4 * suc i) (5 + 4 * to) w) ++ drop (5 + 4 * to + 4 * by) w

  rows_spread : rows_moved (suc i) to by k w ≡ take (5 + 4 * i + 4 * by) w ++ (take 4 (drop (5 + 4 * i + 4 * by) w) ++ later)
  unfolding rows_moved later
  rows_spread =
      let e : 5 + 4 * suc i + 4 * by ≡ 5 + 4 * i + 4 * by + 4 = omega arith in
      ap (λ (n : ℕ). take n w ++ later) e ∙ ap (λ (x : List ℕ). x ++ later) (take-add (5 + 4 * i + 4 * by) 4 w) ∙ append_assoc (take (5 + 4 * i + 4 * by) w) _ later

  row_shifted : row_up k w i ++ shift_rows k (slice (5 + 4 * suc i) (5 + 4 * to) w) ≡ shift_rows k (slice (5 + 4 * i) (5 + 4 * to) w)
  unfolding shift_rows
  row_shifted =
      let e : 5 + 4 * suc i ≡ 5 + 4 * i + 4 = omega arith in
      ap (λ (n : ℕ). row_up k w i ++ shift_rows k (slice n (5 + 4 * to) w)) e
      ∙ sym (ap (shift_rows k) (slice_four (5 + 4 * i) (5 + 4 * to) w (omega arith) (omega arith)))

  pub rows_step : put_at (5 + 4 * i + 4 * by) (row_up k (rows_moved (suc i) to by k w) i) (rows_moved (suc i) to by k w) ≡ rows_moved i to by k w
  unfolding rows_moved later
  rows_step =
      let m : List ℕ = rows_moved (suc i) to by k w in
      let e : row_up k m i ≡ row_up k w i = λ z. (rows_read (5 + 4 * i) (omega arith) z + k) ∷ rows_read (5 + 4 * i + 1) (omega arith) z ∷ rows_read (5 + 4 * i + 2) (omega arith) z ∷ rows_read (5 + 4 * i + 3) (omega arith) z ∷ [] in
      ap (λ (x : List ℕ). put_at (5 + 4 * i + 4 * by) x m) e
      ∙ ap (put_at (5 + 4 * i + 4 * by) (row_up k w i)) rows_spread
      ∙ put_part (take (5 + 4 * i + 4 * by) w) (take 4 (drop (5 + 4 * i + 4 * by) w)) later (row_up k w i) (5 + 4 * i + 4 * by) (length-take-le (5 + 4 * i + 4 * by) w (omega arith)) (length-take-le 4 (drop (5 + 4 * i + 4 * by) w) (rw length-drop (omega arith)))
      ∙ ap (λ (x : List ℕ). take (5 + 4 * i + 4 * by) w ++ x) (sym (append_assoc (row_up k w i) (shift_rows k (slice (5 + 4 * suc i) (5 + 4 * to) w)) (drop (5 + 4 * to + 4 * by) w)) ∙ ap (λ (x : List ℕ). x ++ drop (5 + 4 * to + 4 * by) w) row_shifted)

-- no rows to move
rows_none : (w : List ℕ) (to by k : ℕ) → rows_moved to to by k w ≡ w
unfolding rows_moved shift_rows
rows_none w to by k = simp slice_empty (take-append-drop (5 + 4 * to + 4 * by) w)

-- the walk that moves rows: all from place j up to `to` have been moved
pub record RowsMoving (w : List ℕ) (from to by k : ℕ) (a : List ℕ) (j : ℕ) : Type 0 where
  pub low : from ≤ j
  pub high : j ≤ to
  pub is : a ≡ rows_moved j to by k w
  pub same : length a ≡ length w

pub rows_moving_none : (w : List ℕ) (from to by k : ℕ) → from ≤ to → RowsMoving w from to by k w to
rows_moving_none w from to by k h = record { low = h; high = omega arith; is = sym (rows_none w to by k); same = refl }

module _ {w : List ℕ} {from to by k : ℕ} {a : List ℕ} {j : ℕ} (m : RowsMoving w from to by k a j) where
  module _ (room : 5 + 4 * to + 4 * by ≤ length w) (h : from < j) where
    last_is : a ≡ rows_moved (suc (j - 1)) to by k w
    last_is = let e : j ≡ suc (j - 1) = omega arith in m.is ∙ ap (λ (x : ℕ). rows_moved x to by k w) e

    -- the start of the row that moves next fits
    pub row_start_fits : ((i : ℕ) → i < to → get_or w (5 + 4 * i) 0 + k < 2 ^ 64) → get_or a (5 + 4 * (j - 1)) 0 + k < 2 ^ 64
    row_start_fits fits =
        let e : get_or a (5 + 4 * (j - 1)) 0 ≡ get_or w (5 + 4 * (j - 1)) 0 = ap (λ (x : List ℕ). get_or x (5 + 4 * (j - 1)) 0) last_is ∙ rows_read w to by k (j - 1) (omega arith) room (5 + 4 * (j - 1)) (omega arith) in
        omega (arith, fits (j - 1) (omega arith))

    pub rows_moving_more : {a' : List ℕ} → a' ≡ put_at (5 + 4 * (j - 1) + 4 * by) (row_up k a (j - 1)) a → length a' ≡ length a → RowsMoving w from to by k a' (j - 1)
    rows_moving_more {a'} e s = record {
      low = omega arith;
      high = omega arith;
      is = e ∙ ap (λ (x : List ℕ). put_at (5 + 4 * (j - 1) + 4 * by) (row_up k x (j - 1)) x) last_is ∙ rows_step w to by k (j - 1) (omega arith) room;
      same = s ∙ m.same;
    }

-- the first five words
pub five : (w : List ℕ) → 5 ≤ length w → take 5 w ≡ get_or w 0 0 ∷ get_or w 1 0 ∷ get_or w 2 0 ∷ get_or w 3 0 ∷ get_or w 4 0 ∷ []
five [] h = absurd (omega arith)
five (a ∷ []) h = absurd (omega arith)
five (a ∷ b ∷ []) h = absurd (omega arith)
five (a ∷ b ∷ c ∷ []) h = absurd (omega arith)
five (a ∷ b ∷ c ∷ d ∷ []) h = absurd (omega arith)
five (a ∷ b ∷ c ∷ d ∷ e ∷ l) h = refl
