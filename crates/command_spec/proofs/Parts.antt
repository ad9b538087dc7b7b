-- Laws of parts of lists, of sums, and of lists cut into pieces. Assumes nothing.
use mathlib.Core.Path.{◌≡◌, refl, sym, ap, ◌∙◌}
use mathlib.Core.List.{List, [], ◌∷◌, ◌++◌, map}
use Prim.Native.Nat.{ℕ, zero, suc, ◌+◌, ◌-◌, ◌<◌, ◌≤◌}
use native.Mathlib.Nat.{zero-add, add_assoc}
use native.Mathlib.Numerals.{add-one}
use native.Mathlib.Omega.{arith}
use lib.ListN.{length, get_or, take, drop, length-drop, take-append-drop}
use lib.Seq.{drop-cons, drop-drop, take-add, take-take, take-nil, length-take-le, take_at, drop_at}
use Rattle.base_key.proofs.Bytes.{length_part_lem}
use Rattle.base_key.specs.Bytes.{part, over_front, concat, total}
use Rattle.command_spec.specs.Sessions.{split_by}

module _ {A : Type 0} where
  -- the first element of a part
  pub part_cons : (l : List A) (at n : ℕ) (d : A) → at < length l → part at (suc n) l ≡ get_or l at d ∷ part (at + 1) n l
  part_cons l at n d h = ap (take (suc n)) (drop-cons l at d h) ∙ ap (λ (k : ℕ). get_or l at d ∷ part k n l) (sym (add-one at))

  pub part_next : (l : List A) (from count i : ℕ) (d : A) → i < count → from + count ≤ length l
      → part (from + i) (count - i) l ≡ get_or l (from + i) d ∷ part (from + (i + 1)) (count - (i + 1)) l
  part_next l from count i d h k =
      let e : count - i ≡ suc (count - (i + 1)) = omega arith in
      ap (λ (n : ℕ). part (from + i) n l) e ∙ part_cons l (from + i) (count - (i + 1)) d (omega arith)
      ∙ ap (λ (n : ℕ). get_or l (from + i) d ∷ part n (count - (i + 1)) l) (add_assoc from i 1)

  pub part_none : (l : List A) (from count i : ℕ) → count ≤ i → part (from + i) (count - i) l ≡ []
  part_none l from count i h = let e : count - i ≡ 0 = omega arith in ap (λ (n : ℕ). part (from + i) n l) e

  pub part_start : (l : List A) (from count : ℕ) → part from count l ≡ part (from + 0) (count - 0) l
  part_start l from count =
      let e : count ≡ count - 0 = omega arith in
      let f : from ≡ from + 0 = omega arith in
      λ z. part (f z) (e z) l

  -- a part of a part
  drop_take : (m n : ℕ) (l : List A) → drop m (take (m + n) l) ≡ take n (drop m l)
  drop_take m n l = drop_take_by m (m + n) n l refl
    where
      drop_take_by : (m k n : ℕ) (l : List A) → k ≡ m + n → drop m (take k l) ≡ take n (drop m l)
      drop_take_by zero k n l e = ap (λ (x : ℕ). take x l) (e ∙ zero-add n)
      drop_take_by (suc m) zero n l e = absurd (omega arith)
      drop_take_by (suc m) (suc k) n [] e = sym (take-nil n)
      drop_take_by (suc m) (suc k) n (x ∷ l) e = drop_take_by m k n l (omega arith)

  pub part_part : (from size at n : ℕ) (l : List A) → at + n ≤ size → part at n (part from size l) ≡ part (from + at) n l
  part_part from size at n l h =
      let e : size ≡ at + (size - at) = omega arith in
      ap (λ (k : ℕ). take n (drop at (take k (drop from l)))) e ∙ ap (take n) (drop_take at (size - at) (drop from l))
      ∙ take-take n (size - at) (drop at (drop from l)) (omega arith) ∙ ap (take n) (drop-drop at from l)

  pub part_add : (at m n : ℕ) (l : List A) → part at (m + n) l ≡ part at m l ++ part (at + m) n l
  part_add at m n l = take-add m n (drop at l) ∙ ap (λ (x : List A). part at m l ++ take n x) (drop-drop m at l)

  pub take_part : (at m n : ℕ) (l : List A) → at + m ≤ length l → take m (part at (m + n) l) ≡ part at m l
  take_part at m n l h = ap (take m) (part_add at m n l) ∙ take_at (part at m l) (part (at + m) n l) m (length_part_lem at m l h)

  pub drop_part : (at m n : ℕ) (l : List A) → at + m ≤ length l → drop m (part at (m + n) l) ≡ part (at + m) n l
  drop_part at m n l h = ap (drop m) (part_add at m n l) ∙ drop_at (part at m l) (part (at + m) n l) m (length_part_lem at m l h)

  -- A LIST CUT INTO PIECES.
  pub split_drop : (n : ℕ) (ls : List ℕ) (d : List A) → drop n (split_by ls d) ≡ split_by (drop n ls) (drop (total (take n ls)) d)
  unfolding split_by total
  split_drop zero ls d = refl
  split_drop (suc n) [] d = refl
  split_drop (suc n) (l ∷ ls) d = split_drop n ls (drop l d) ∙ ap (split_by (drop n ls)) (drop-drop (total (take n ls)) l d)

  pub split_length : (ls : List ℕ) (d : List A) → length (split_by ls d) ≡ length ls
  unfolding split_by
  split_length [] d = refl
  split_length (l ∷ ls) d = ap suc (split_length ls (drop l d))

  pub split_lengths : (ls : List ℕ) (d : List A) → total ls ≤ length d → map length (split_by ls d) ≡ ls
  unfolding split_by total
  split_lengths [] d h = refl
  split_lengths (l ∷ ls) d h =
      let e : length (take l d) ≡ l = length-take-le l d (omega arith) in
      let f : total ls ≤ length (drop l d) = rw length-drop (omega arith) in
      λ z. e z ∷ split_lengths ls (drop l d) f z

  pub split_concat : (ls : List ℕ) (d : List A) → total ls ≤ length d → concat (split_by ls d) ≡ take (total ls) d
  unfolding split_by total concat
  split_concat [] d h = refl
  split_concat (l ∷ ls) d h =
      let f : total ls ≤ length (drop l d) = rw length-drop (omega arith) in
      ap (λ (x : List A). take l d ++ x) (split_concat ls (drop l d) f) ∙ sym (take-add l (total ls) d)

  pub over_own : (n : ℕ) (l : List A) → n ≤ length l → over_front (take n l) l ≡ l
  unfolding over_front
  over_own n l h = ap (λ (k : ℕ). take n l ++ drop k l) (length-take-le n l h) ∙ take-append-drop n l

pub total_append : (s t : List ℕ) → total (s ++ t) ≡ total s + total t
unfolding total
total_append [] t = sym (zero-add (total t))
total_append (x ∷ s) t = ap (λ (n : ℕ). x + n) (total_append s t) ∙ sym (add_assoc x (total s) (total t))
