-- Laws of rows of four words: rows moved up, a row written, and what they say of the writes. Assumes nothing.
use Prim.Native.Nat.{ℕ, suc, ◌+◌, ◌-◌, ◌*◌, ◌≤◌, ◌<◌}
use native.Mathlib.Nat.{add-zero}
use native.Mathlib.Omega.{arith}
use mathlib.Core.Path.{◌≡◌, refl, sym, ap, ◌∙◌}
use mathlib.Core.Bool.{true}
use mathlib.Core.List.{List, [], ◌∷◌, ◌++◌, append_assoc}
use lib.Dec.{leb}
use lib.ListN.{length, get_or, take, drop, set, get_or-append}
use lib.Seq.{slice, length-slice, length-take-le, get_or-take, get_or-drop, get_or-append-add}
use borrow.Author.Tests.{le-leb}
use Rattle.base_key.specs.Bytes.{Bytes, ◌and◌, part, moved_up, put_at}
use Rattle.base_key.proofs.Bytes.{and_both}
use Rattle.store_memtable.specs.Layout.{value_of_word}
use Rattle.store_memtable.proofs.Moves.{row_put}
use Rattle.std.proofs.lemmas.List.{drop-take}
use Rattle.std.specs.List.{copy_within}
use Rattle.group_spec.specs.Members.{value_inside, write_at, write_inside}
use Rattle.command_writes.specs.Changes.{RowFits}

-- four stores of words that are these numbers
pub row_set : (w : List ℕ) (i s k v q : ℕ) {a b c e : ℕ} → a ≡ s → b ≡ k → c ≡ v → e ≡ q → 4 * i + 4 ≤ length w
    → set (set (set (set w (4 * i) a) (4 * i + 1) b) (4 * i + 2) c) (4 * i + 3) e ≡ put_at (4 * i) (s ∷ k ∷ v ∷ q ∷ []) w
row_set w i s k v q a-is b-is c-is e-is h =
    (λ z. set (set (set (set w (4 * i) (a-is z)) (4 * i + 1) (b-is z)) (4 * i + 2) (c-is z)) (4 * i + 3) (e-is z)) ∙ row_put w (4 * i) s k v q h

-- a copy within the table that moves words up
pub copied_up : (from to by : ℕ) (l : List ℕ) → from ≤ to → copy_within l from to (from + by) ≡ moved_up from to by l
unfolding moved_up
copied_up from to by l h =
    let e : from + (to - from) ≡ to = omega arith in
    let f : from + by + (to - from) ≡ to + by = omega arith in
    append_assoc (take (from + by) l) (take (to - from) (drop from l)) (drop (from + by + (to - from)) l)
    ∙ rw (← drop-take, e, f) refl

module _ (at : ℕ) (xs l : List ℕ) (h : at ≤ length l) where
  pub put_before : (x : ℕ) → x < at → get_or (put_at at xs l) x 0 ≡ get_or l x 0
  unfolding put_at
  put_before x k = get_or-append (take at l) _ 0 x (rw (length-take-le at l h) k) ∙ get_or-take at l x 0 k

  pub put_in : (x : ℕ) → x < length xs → get_or (put_at at xs l) (at + x) 0 ≡ get_or xs x 0
  unfolding put_at
  put_in x k =
      ap (λ (n : ℕ). get_or (take at l ++ (xs ++ drop (at + length xs) l)) (n + x) 0) (sym (length-take-le at l h))
      ∙ get_or-append-add (take at l) (xs ++ drop (at + length xs) l) x 0 ∙ get_or-append xs (drop (at + length xs) l) 0 x k

  pub put_behind : (x : ℕ) → at + length xs ≤ x → get_or (put_at at xs l) x 0 ≡ get_or l x 0
  unfolding put_at
  put_behind x k =
      let y : ℕ = x - (at + length xs) in
      let e : x ≡ length (take at l) + (length xs + y) = rw (length-take-le at l h) (omega arith) in
      let f : at + length xs + y ≡ x = omega arith in
      ap (λ (n : ℕ). get_or (take at l ++ (xs ++ drop (at + length xs) l)) n 0) e
      ∙ get_or-append-add (take at l) (xs ++ drop (at + length xs) l) (length xs + y) 0
      ∙ get_or-append-add xs (drop (at + length xs) l) y 0
      ∙ get_or-drop (at + length xs) l y 0 ∙ ap (λ (n : ℕ). get_or l n 0) f

module _ (from to by : ℕ) (l : List ℕ) (h : from ≤ to) (room : to + by ≤ length l) where
  pub moved_before : (x : ℕ) → x < from + by → get_or (moved_up from to by l) x 0 ≡ get_or l x 0
  unfolding moved_up
  moved_before x k = get_or-append (take (from + by) l) _ 0 x (rw (length-take-le (from + by) l (omega arith)) k) ∙ get_or-take (from + by) l x 0 k

  pub moved_in : (x : ℕ) → from ≤ x → x < to → get_or (moved_up from to by l) (x + by) 0 ≡ get_or l x 0
  unfolding moved_up
  moved_in x a b =
      let e : x + by ≡ length (take (from + by) l) + (x - from) = rw (length-take-le (from + by) l (omega arith)) (omega arith) in
      let f : from + (x - from) ≡ x = omega arith in
      ap (λ (n : ℕ). get_or (take (from + by) l ++ (slice from to l ++ drop (to + by) l)) n 0) e
      ∙ get_or-append-add (take (from + by) l) (slice from to l ++ drop (to + by) l) (x - from) 0
      ∙ get_or-append (slice from to l) (drop (to + by) l) 0 (x - from) (rw (length-slice from to l (omega arith)) (omega arith))
      ∙ get_or-drop from (take to l) (x - from) 0 ∙ ap (λ (n : ℕ). get_or (take to l) n 0) f ∙ get_or-take to l x 0 b

-- row i of one table is row j of another
pub record SameRow (w' : List ℕ) (i : ℕ) (w : List ℕ) (j : ℕ) : Type 0 where
  pub key_start : get_or w' (4 * i) 0 ≡ get_or w (4 * j) 0
  pub key_size : get_or w' (4 * i + 1) 0 ≡ get_or w (4 * j + 1) 0
  pub value_start_lem : get_or w' (4 * i + 2) 0 ≡ get_or w (4 * j + 2) 0
  pub value_word_lem : get_or w' (4 * i + 3) 0 ≡ get_or w (4 * j + 3) 0

module _ {w' : List ℕ} {i : ℕ} {w : List ℕ} {j : ℕ} (s : SameRow w' i w j) (d : Bytes) where
  pub same_write : write_at w' d i ≡ write_at w d j
  unfolding write_at
  same_write = λ z. (
    part (s.key_start z) (s.key_size z) d,
    value_of_word (s.value_word_lem z) (part (s.value_start_lem z) (s.value_word_lem z - 1) d),
  )

  pub same_inside : write_inside w' d i ≡ write_inside w d j
  unfolding write_inside
  same_inside = λ z. leb (s.key_start z + s.key_size z) (length d) and value_inside (s.value_start_lem z) (s.value_word_lem z) d

by_words : (w' : List ℕ) (i : ℕ) (w : List ℕ) (j : ℕ) → ((c : ℕ) → c < 4 → get_or w' (4 * i + c) 0 ≡ get_or w (4 * j + c) 0) → SameRow w' i w j
by_words w' i w j h = record {
  key_start = ap (λ (x : ℕ). get_or w' x 0) (sym (add-zero (4 * i))) ∙ h 0 (omega arith) ∙ ap (λ (x : ℕ). get_or w x 0) (add-zero (4 * j));
  key_size = h 1 (omega arith);
  value_start_lem = h 2 (omega arith);
  value_word_lem = h 3 (omega arith);
}

-- a row written: the others stay, and it is what was written
module _ (w : List ℕ) (i s k v q : ℕ) (room : 4 * i + 4 ≤ length w) where
  abbrev written : List ℕ
  written = put_at (4 * i) (s ∷ k ∷ v ∷ q ∷ []) w

  pub row_other_before : (j : ℕ) → j < i → SameRow (put_at (4 * i) (s ∷ k ∷ v ∷ q ∷ []) w) j w j
  row_other_before j h = by_words written j w j (λ c l. put_before (4 * i) (s ∷ k ∷ v ∷ q ∷ []) w (omega arith) (4 * j + c) (omega arith))

  pub row_other_behind : (j : ℕ) → i < j → SameRow (put_at (4 * i) (s ∷ k ∷ v ∷ q ∷ []) w) j w j
  row_other_behind j h = by_words written j w j (λ c l. put_behind (4 * i) (s ∷ k ∷ v ∷ q ∷ []) w (omega arith) (4 * j + c) (omega arith))

  word_here : (c : ℕ) → c < 4 → get_or written (4 * i + c) 0 ≡ get_or (s ∷ k ∷ v ∷ q ∷ []) c 0
  word_here c l = put_in (4 * i) (s ∷ k ∷ v ∷ q ∷ []) w (omega arith) c l

  first_here : get_or written (4 * i) 0 ≡ s
  first_here = ap (λ (x : ℕ). get_or written x 0) (sym (add-zero (4 * i))) ∙ word_here 0 (omega arith)

  pub row_write : (d : Bytes) → write_at (put_at (4 * i) (s ∷ k ∷ v ∷ q ∷ []) w) d i ≡ (part s k d, value_of_word q (part v (q - 1) d))
  unfolding write_at
  row_write d =
      let b : get_or written (4 * i + 1) 0 ≡ k = word_here 1 (omega arith) in
      let c : get_or written (4 * i + 2) 0 ≡ v = word_here 2 (omega arith) in
      let e : get_or written (4 * i + 3) 0 ≡ q = word_here 3 (omega arith) in
      λ z. (part (first_here z) (b z) d, value_of_word (e z) (part (c z) (e z - 1) d))

  pub row_inside : (d : Bytes) → RowFits d s k v q → write_inside (put_at (4 * i) (s ∷ k ∷ v ∷ q ∷ []) w) d i ≡ true
  unfolding write_inside
  row_inside d f =
      let b : get_or written (4 * i + 1) 0 ≡ k = word_here 1 (omega arith) in
      let c : get_or written (4 * i + 2) 0 ≡ v = word_here 2 (omega arith) in
      let e : get_or written (4 * i + 3) 0 ≡ q = word_here 3 (omega arith) in
      (λ z. leb (first_here z + b z) (length d) and value_inside (c z) (e z) d) ∙ and_both _ _ (le-leb _ _ f.key_in) f.value_in

-- rows moved up by one
module _ (w : List ℕ) (from to : ℕ) (h : from ≤ to) (room : 4 * to + 4 ≤ length w) where
  pub row_stays : (j : ℕ) → j < from → SameRow (moved_up (4 * from) (4 * to) 4 w) j w j
  row_stays j k = by_words _ j w j (λ c l. moved_before (4 * from) (4 * to) 4 w (omega arith) room (4 * j + c) (omega arith))

  pub row_moves : (j : ℕ) → from ≤ j → j < to → SameRow (moved_up (4 * from) (4 * to) 4 w) (suc j) w j
  row_moves j a b =
      by_words _ (suc j) w j
      (λ c l.
      let e : 4 * suc j + c ≡ 4 * j + c + 4 = omega arith in
      ap (λ (x : ℕ). get_or (moved_up (4 * from) (4 * to) 4 w) x 0) e ∙ moved_in (4 * from) (4 * to) 4 w (omega arith) room (4 * j + c) (omega arith) (omega arith))
