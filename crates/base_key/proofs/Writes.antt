-- Laws of lists into which something is written or in which something moves up. Assumes nothing.
use mathlib.Core.Path.{◌≡◌, refl, sym, ap, ◌∙◌, subst}
use mathlib.Core.List.{List, [], ◌∷◌, ◌++◌, append_assoc}
use Prim.Native.Nat.{ℕ, suc, ◌+◌, ◌-◌, ◌<◌, ◌≤◌}
use native.Mathlib.Nat.{suc-add, add-zero, add_assoc, le_antisymm}
use native.Mathlib.Numerals.{add-one}
use native.Mathlib.Omega.{arith}
use lib.ListN.{length, get_or, take, drop, set, length-set, length-take, length-drop, length-append, take-append-drop, get_or-append}
use lib.Seq.{slice, slice-cons, slice_empty, take-suc, set_at, get_or-take, paste, paste-zero, paste-suc, take-length, drop-drop, length-take-le, take_at, drop_at, take-append-le, drop-append-le, take-append-add, drop-append-add, set_split}
use Rattle.base_key.specs.Bytes.{over_front, put_at, moved_up}

-- WRITTEN
module _ {A : Type 0} where
  pub written_none : (at : ℕ) (l : List A) → put_at at [] l ≡ l
  unfolding put_at
  written_none at l = ap (λ (n : ℕ). take at l ++ drop n l) (add-zero at) ∙ take-append-drop at l

  pub length_written : (at : ℕ) (t l : List A) → at + length t ≤ length l → length (put_at at t l) ≡ length l
  unfolding put_at
  length_written at t l h = simp (length-append, length-take, length-drop) (omega arith)

  front_length : (at : ℕ) (t l : List A) → at + length t ≤ length l → length (take at l ++ t) ≡ at + length t
  front_length at t l h = length-append (take at l) t ∙ ap (λ (n : ℕ). n + length t) (length-take-le at l (omega arith))

  written_front : (at : ℕ) (t l : List A) → put_at at t l ≡ (take at l ++ t) ++ drop (at + length t) l
  unfolding put_at
  written_front at t l = sym (append_assoc (take at l) t (drop (at + length t) l))

  -- writing `u` behind `t` is writing `t ++ u`
  pub written_more : (at : ℕ) (t u l : List A) → at + length t + length u ≤ length l → put_at (at + length t) u (put_at at t l) ≡ put_at at (t ++ u) l
  unfolding put_at
  written_more at t u l h =
      let f : length (take at l ++ t) ≡ at + length t = front_length at t l (omega arith) in
      let p : take (at + length t) (put_at at t l) ≡ take at l ++ t =
      ap (take (at + length t)) (written_front at t l) ∙ take_at (take at l ++ t) (drop (at + length t) l) (at + length t) f in
      let d : drop (at + length t + length u) (put_at at t l) ≡ drop (at + length (t ++ u)) l =
      sym (drop-drop (length u) (at + length t) (put_at at t l)) ∙ ap (λ (x : List A). drop (length u) (drop (at + length t) x)) (written_front at t l)
      ∙ ap (drop (length u)) (drop_at (take at l ++ t) (drop (at + length t) l) (at + length t) f) ∙ drop-drop (length u) (at + length t) l
      ∙ ap (λ (n : ℕ). drop n l) (add_assoc at (length t) (length u) ∙ ap (λ (n : ℕ). at + n) (sym (length-append t u))) in
      (λ z. p z ++ (u ++ d z)) ∙ append_assoc (take at l) t (u ++ drop (at + length (t ++ u)) l)
      ∙ ap (λ (x : List A). take at l ++ x) (sym (append_assoc t u (drop (at + length (t ++ u)) l)))

  -- a store is a write of one
  pub written_one : (at : ℕ) (x : A) (l : List A) → at < length l → set l at x ≡ put_at at (x ∷ []) l
  unfolding put_at
  written_one at x l h = set_split l at x h ∙ ap (λ (n : ℕ). take at l ++ (x ∷ drop n l)) (sym (add-one at))

  pub written_set : (at : ℕ) (t l : List A) (x : A) → at + length t < length l → set (put_at at t l) (at + length t) x ≡ put_at at (t ++ x ∷ []) l
  written_set at t l x h =
      written_one (at + length t) x (put_at at t l) (rw (length_written at t l (omega arith)) h) ∙ written_more at t (x ∷ []) l (omega arith)

  -- a write in the second of two lists, and in the first
  pub written_second : (p q u : List A) (at k : ℕ) → length p ≡ at → put_at (at + k) u (p ++ q) ≡ p ++ put_at k u q
  unfolding put_at
  written_second p q u at k e =
      let t : take (at + k) (p ++ q) ≡ p ++ take k q = ap (λ (n : ℕ). take (n + k) (p ++ q)) (sym e) ∙ take-append-add p q k in
      let d : drop (at + k + length u) (p ++ q) ≡ drop (k + length u) q =
      ap (λ (n : ℕ). drop n (p ++ q)) (add_assoc at k (length u)) ∙ ap (λ (n : ℕ). drop (n + (k + length u)) (p ++ q)) (sym e) ∙ drop-append-add p q (k + length u) in
      (λ z. t z ++ (u ++ d z)) ∙ append_assoc p (take k q) (u ++ drop (k + length u) q)

  pub written_first : (p q u : List A) (k : ℕ) → k + length u ≤ length p → put_at k u (p ++ q) ≡ put_at k u p ++ q
  unfolding put_at
  written_first p q u k h =
      let d : drop (k + length u) (p ++ q) ≡ drop (k + length u) p ++ q = drop-append-le (k + length u) p q h in
      (λ z. take-append-le k p q (omega arith) z ++ (u ++ d z))
      ∙ sym (append_assoc (take k p) (u ++ drop (k + length u) p) q ∙ ap (λ (x : List A). take k p ++ x) (append_assoc u (drop (k + length u) p) q))

  -- a front that is the list's own, and something behind it
  pub over_behind : (n : ℕ) (u l : List A) → n ≤ length l → over_front (take n l ++ u) l ≡ put_at n u l
  unfolding over_front put_at
  over_behind n u l h =
      ap (λ (k : ℕ). (take n l ++ u) ++ drop k l) (length-append (take n l) u ∙ ap (λ (k : ℕ). k + length u) (length-take-le n l h))
      ∙ append_assoc (take n l) u (drop (n + length u) l)

-- the walk that writes: the first i have been written
module _ {A : Type 0} where
  pub record Putting (d : List A) (at : ℕ) (s a : List A) (i : ℕ) : Type 0 where
    pub within : i ≤ length s
    pub is : a ≡ paste d at s i
    pub same : length a ≡ length d

  pub putting_none : (d : List A) (at : ℕ) (s : List A) → Putting d at s d 0
  putting_none d at s = record { within = omega arith; is = paste-zero d at s; same = refl }

  module _ {d : List A} {at : ℕ} {s a : List A} {i : ℕ} (p : Putting d at s a i) where
    pub putting_read : at + length s ≤ length d → i < length s → (x : A) → Putting d at s (set a (at + i) (get_or s i x)) (i + 1)
    putting_read room h x = record {
      within = omega arith;
      is = rw (p.is, add-one) (paste-suc d at s i x (omega arith) h);
      same = length-set a _ _ ∙ p.same;
    }

    pub putting_next : at + length s ≤ length d → i < length s → (x : A) → x ≡ get_or s i x → Putting d at s (set a (at + i) x) (i + 1)
    putting_next room h x e = subst (λ (y : A). Putting d at s (set a (at + i) y) (i + 1)) (sym e) (putting_read room h x)

    pub putting_all : length s ≤ i → a ≡ put_at at s d
    unfolding put_at
    putting_all h = rw (p.is, le_antisymm p.within h, take-length, append_assoc)

-- of words
module _ {d : List ℕ} {at : ℕ} {s a : List ℕ} {i : ℕ} (p : Putting d at s a i) where
  pub putting_more : at + length s ≤ length d → i < length s → Putting d at s (set a (at + i) (get_or s i 0)) (i + 1)
  putting_more room h = putting_read p room h 0

-- MOVED UP
-- a step of the move: the element at i goes up, where all from suc i on have gone
module _ (l : List ℕ) (to by i : ℕ) (h : i < to) (room : to + by ≤ length l) where
  rest : List ℕ
  rest = slice (suc i) to l ++ drop (to + by) l

  read_is : get_or (moved_up (suc i) to by l) i 0 ≡ get_or l i 0
  unfolding moved_up
  read_is =
      get_or-append (take (suc i + by) l) _ 0 i (rw (length-take-le (suc i + by) l (omega arith)) (omega arith))
      ∙ get_or-take (suc i + by) l i 0 (omega arith)

  spread : moved_up (suc i) to by l ≡ take (i + by) l ++ (get_or l (i + by) 0 ∷ rest)
  unfolding moved_up rest
  spread =
      ap (λ (x : List ℕ). x ++ rest) (ap (λ (n : ℕ). take n l) (suc-add i by) ∙ take-suc l (i + by) 0 (omega arith))
      ∙ append_assoc (take (i + by) l) (get_or l (i + by) 0 ∷ []) rest

  pub moved_step : set (moved_up (suc i) to by l) (i + by) (get_or (moved_up (suc i) to by l) i 0) ≡ moved_up i to by l
  unfolding moved_up rest
  moved_step =
      rw (read_is, spread)
      (set_at (take (i + by) l) _ rest (get_or l i 0) (i + by) (length-take-le (i + by) l (omega arith))
      ∙ ap (λ (x : List ℕ). take (i + by) l ++ (x ++ drop (to + by) l)) (sym (slice-cons i to l 0 h (omega arith))))

pub length_moved : (l : List ℕ) (from to by : ℕ) → from ≤ to → to + by ≤ length l → length (moved_up from to by l) ≡ length l
unfolding moved_up
length_moved l from to by h k = simp (length-append, length-take, length-drop) (omega arith)

-- the walk that moves: all from j up to `to` have been moved
pub record Moving (l : List ℕ) (from to by : ℕ) (a : List ℕ) (j : ℕ) : Type 0 where
  pub low : from ≤ j
  pub high : j ≤ to
  pub is : a ≡ moved_up j to by l
  pub same : length a ≡ length l

pub moving_none : (l : List ℕ) (from to by : ℕ) → from ≤ to → Moving l from to by l to
unfolding moved_up
moving_none l from to by h = record {
  low = h;
  high = omega arith;
  is = sym (simp slice_empty (take-append-drop (to + by) l));
  same = refl;
}

module _ {l : List ℕ} {from to by : ℕ} {a : List ℕ} {j : ℕ} (m : Moving l from to by a j) where
  pub moving_more : to + by ≤ length l → from < j → Moving l from to by (set a (j - 1 + by) (get_or a (j - 1) 0)) (j - 1)
  moving_more room h =
      let e : j ≡ suc (j - 1) = omega arith in
      let q : a ≡ moved_up (suc (j - 1)) to by l = m.is ∙ ap (λ (x : ℕ). moved_up x to by l) e in
      record {
        low = omega arith;
        high = omega arith;
        is = rw q (moved_step l to by (j - 1) (omega arith) room);
        same = length-set a _ _ ∙ m.same;
      }

  pub moving_all : j ≤ from → a ≡ moved_up from to by l
  moving_all h = m.is ∙ ap (λ (x : ℕ). moved_up x to by l) (le_antisymm h m.low)
