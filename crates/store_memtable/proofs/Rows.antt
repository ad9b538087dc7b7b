-- Laws of reading a store by places: a version's parts, the versions from a place on, the search by halves. Assumes nothing.
use mathlib.Core.Path.{◌≡◌, refl, sym, ap, ◌∙◌, subst}
use mathlib.Core.Logic.{⊎_elim}
use mathlib.Core.Bool.{Bool, true, false, cond}
use mathlib.Core.List.{List, [], ◌∷◌}
use Rattle.std.specs.Prelude.{None, Some}
use Prim.Native.Nat.{ℕ, zero, suc, ◌+◌, ◌-◌, ◌*◌, ◌≤◌, ◌<◌}
use native.Mathlib.Nat.{add-sub_cancel_left, sub-zero, zero-add, add-zero, eq-or-lt_of_le}
use native.Mathlib.Omega.{arith}
use lib.ListN.{length, take, drop}
use lib.Dec.{ltb, eqb}
use borrow.Author.Tests.{ne_eqb, lt-ltb, le-ltb}
use Rattle.base_key.specs.Keys.{Key, is_less, same_key}
use Rattle.base_key.proofs.Keys.{precedes, precedes_back, precedes_trans, less_is}
use Rattle.store_memtable.specs.Versions.{Version, bytes_of, sorted, sees, find_from, newest, read_at}
use Rattle.store_memtable.specs.Layout.{count_word, start_word, key_word, value_word, seq_word, value_of_word, value_part, version_at, versions_from}
use Rattle.store_memtable.specs.Rows.{versions_in, RowIn, Readable, Valid, order_with, place_of, count_on, live_found, value_found}
use Rattle.store_memtable.proofs.VersionLaws.{Ahead, After, all_after, sorted_rest, SeqsIn, found_here, find_by_place, newest_first, newest_other}
use Rattle.std.specs.Prelude.{Option}

module _ (w b : List ℕ) where
  pub row_in : (i : ℕ) → Readable w b → i < count_word w → RowIn w b i
  row_in i rd h = record { words_in = omega arith; bytes_in = rd.ends_in i h }

  pub row_of : (i : ℕ) → Valid w b → i < count_word w → RowIn w b i
  row_of i v h = row_in i v.readable h

  -- a walk over n versions at place i
  pub versions_next : (n i : ℕ) → i < n → versions_from w b i (n - i) ≡ version_at w b i ∷ versions_from w b (suc i) (n - suc i)
  unfolding versions_from
  versions_next n i h = let e : n - i ≡ suc (n - suc i) = omega arith in rw e

  pub versions_end : (n i : ℕ) → n ≤ i → versions_from w b i (n - i) ≡ []
  unfolding versions_from
  versions_end n i h = let e : n - i ≡ 0 = omega arith in rw e

  pub length_versions : (i n : ℕ) → length (versions_from w b i n) ≡ n
  unfolding versions_from
  length_versions i zero = refl
  length_versions i (suc n) = ap suc (length_versions (suc i) n)

  pub drop_versions : (p i n : ℕ) → p ≤ n → drop p (versions_from w b i n) ≡ versions_from w b (i + p) (n - p)
  unfolding versions_from
  drop_versions zero i n h = rw (add-zero i, sub-zero n)
  drop_versions (suc p) i zero h = absurd (omega arith)
  drop_versions (suc p) i (suc n) h =
      let e : suc i + p ≡ i + suc p = omega arith in
      let m : n - p ≡ suc n - suc p = omega arith in
      drop_versions p (suc i) n (omega arith) ∙ (λ z. versions_from w b (e z) (m z))

-- a value's part, where v is the length that its word says
pub value_part_lem : (w b : List ℕ) (i : ℕ) {s k x v : ℕ} → s ≡ start_word w i → k ≡ key_word w i → x ≡ value_word w i → v ≡ x - 1
    → take (s + k + v - (s + k)) (drop (s + k) b) ≡ value_part w b i
value_part_lem w b i s-is k-is x-is v-is = simp (add-sub_cancel_left, v-is, x-is, s-is, k-is)

value_bytes : (x : ℕ) (l : List ℕ) → bytes_of (value_of_word x (take (x - 1) l)) ≡ take (x - 1) l
value_bytes zero l = refl
value_bytes (suc x) l = refl

pub part_bytes : (w b : List ℕ) (i : ℕ) → bytes_of (version_at w b i).value ≡ value_part w b i
unfolding version_at
part_bytes w b i = value_bytes (value_word w i) _

-- a place is within the list
pub place_in : (k : Key) (s : ℕ) (vs : List Version) → place_of k s vs ≤ length vs
unfolding place_of
place_in k s [] = omega arith
place_in k s (v ∷ vs) = go (is_less (order_with k s v)) (place_in k s vs)
  where
    go : (t : Bool) → place_of k s vs ≤ length vs → count_on t (place_of k s vs) ≤ suc (length vs)
    go true h = omega arith
    go false h = omega arith

-- THE SEARCH BY HALVES
module _ (w b k : List ℕ) (s : ℕ) where
  abbrev here : ℕ → Bool
  here j = is_less (order_with k s (version_at w b j))

  after_at : (v : Version) (i n j : ℕ) → After v (versions_from w b i n) → i ≤ j → j < i + n → Ahead v (version_at w b j)
  unfolding versions_from
  after_at v i zero j a l h = absurd (omega arith)
  after_at v i (suc n) j a l h =
      ⊎_elim (λ (q : i ≡ j). subst (λ (x : ℕ). Ahead v (version_at w b x)) q a.0)
      (λ (q : i < j). after_at v (suc i) n j a.1 q (omega arith)) (eq-or-lt_of_le l)

  -- what stands ahead of a version that comes before k at s comes before it too
  ahead_before : (v u : Version) → Ahead v u → is_less (order_with k s u) ≡ true → is_less (order_with k s v) ≡ true
  unfolding order_with
  ahead_before v u p e = ap is_less (precedes_back v.key v.seq k s (precedes_trans p (precedes u.key u.seq k s (less_is _ e))))

  place_above : (i n j : ℕ) → sorted (versions_from w b i n) ≡ true → i ≤ j → j < i + n → here j ≡ true → j < i + place_of k s (versions_from w b i n)
  unfolding versions_from place_of
  place_above i zero j o l h e = absurd (omega arith)
  place_above i (suc n) j o l h e =
      let a = all_after (version_at w b i) (versions_from w b (suc i) n) o in
      ⊎_elim (λ (q : i ≡ j). rw (subst (λ (x : ℕ). here x ≡ true) (sym q) e) (omega arith))
      (λ (q : i < j). rw (ahead_before (version_at w b i) (version_at w b j) (after_at (version_at w b i) (suc i) n j a q (omega arith)) e)
      (omega (arith, place_above (suc i) n j (sorted_rest (version_at w b i) (versions_from w b (suc i) n) o) q (omega arith) e)))
      (eq-or-lt_of_le l)

  place_below : (i n j : ℕ) → i ≤ j → j < i + n → here j ≡ false → i + place_of k s (versions_from w b i n) ≤ j
  unfolding versions_from place_of
  place_below i zero j l h e = absurd (omega arith)
  place_below i (suc n) j l h e =
      ⊎_elim (λ (q : i ≡ j). rw (subst (λ (x : ℕ). here x ≡ false) (sym q) e) (omega arith))
      (λ (q : i < j). go (here i) (place_below (suc i) n j q (omega arith) e)) (eq-or-lt_of_le l)
    where
      go : (t : Bool) → suc i + place_of k s (versions_from w b (suc i) n) ≤ j → i + count_on t (place_of k s (versions_from w b (suc i) n)) ≤ j
      go true ih = omega arith
      go false ih = omega arith

  pub place_fits : (i n : ℕ) → place_of k s (versions_from w b i n) ≤ n
  place_fits i n = omega (arith, place_in k s (versions_from w b i n), length_versions w b i n)

  -- of n versions in order, those before the place come before the key, and no others
  pub place_splits : (n j : ℕ) → sorted (versions_from w b 0 n) ≡ true → j < n → here j ≡ ltb j (place_of k s (versions_from w b 0 n))
  place_splits n j o h = go (here j) refl
    where
      go : (t : Bool) → here j ≡ t → t ≡ ltb j (place_of k s (versions_from w b 0 n))
      go true e = sym (lt-ltb j _ (omega (arith, place_above 0 n j o (omega arith) (omega arith) e)))
      go false e = sym (le-ltb j _ (omega (arith, place_below 0 n j (omega arith) (omega arith) e)))

-- THE VERSION A READ FINDS, from its place
module _ (w b k : List ℕ) (s : ℕ) (ok : sorted (versions_in w b) ≡ true) {i : ℕ} (i-is : i ≡ place_of k s (versions_in w b)) where
  found_is : find_from 0 (versions_in w b) k s ≡ found_here i k (versions_from w b i (count_word w - i))
  found_is =
      let p : ℕ = place_of k s (versions_in w b) in
      find_by_place 0 (versions_in w b) k s ok
      ∙ ap (λ (l : List Version). found_here (0 + p) k l) (drop_versions w b p 0 (count_word w) (place_fits w b k s 0 (count_word w)))
      ∙ (λ z. found_here (zero-add p z) k (versions_from w b (zero-add p z) (count_word w - p)))
      ∙ (λ z. found_here (sym i-is z) k (versions_from w b (sym i-is z) (count_word w - sym i-is z)))

  pub found_past : {n : ℕ} → n ≡ count_word w → n ≤ i → None ≡ find_from 0 (versions_in w b) k s
  found_past n-is h = rw (found_is, versions_end w b (count_word w) i (omega arith))

  module _ {n : ℕ} {r : Bool} (n-is : n ≡ count_word w) (h : i < n) (is : r ≡ same_key (version_at w b i).key k) where
    found_by_key : find_from 0 (versions_in w b) k s ≡ cond r (Some i) None
    found_by_key = found_is ∙ rw (versions_next w b (count_word w) i (omega arith), is)

    pub found_same : r ≡ true → Some i ≡ find_from 0 (versions_in w b) k s
    found_same e = rw (found_by_key, e)

    pub found_other : r ≡ false → None ≡ find_from 0 (versions_in w b) k s
    found_other e = rw (found_by_key, e)

-- what is found is a version, and its value is what is read
found_at : (w b k : List ℕ) (s i n j : ℕ) → find_from i (versions_from w b i n) k s ≡ Some j
    → (i ≤ j) × ((j < i + n) × (read_at s (versions_from w b i n) k ≡ (version_at w b j).value))
unfolding versions_from find_from read_at
found_at w b k s i zero j e = let z : ◌≡◌ {A = ℕ} 0 1 = cc in absurd (omega arith)
found_at w b k s i (suc n) j e = go (sees k s (version_at w b i)) e (found_at w b k s (suc i) n j)
  where
    go : (t : Bool) → cond t (Some i) (find_from (suc i) (versions_from w b (suc i) n) k s) ≡ Some j
        → (find_from (suc i) (versions_from w b (suc i) n) k s ≡ Some j → (suc i ≤ j) × ((j < suc i + n) × (read_at s (versions_from w b (suc i) n) k ≡ (version_at w b j).value)))
        → (i ≤ j) × ((j < i + suc n) × (cond t (version_at w b i).value (read_at s (versions_from w b (suc i) n) k) ≡ (version_at w b j).value))
    go true q ih = let h : i ≡ j = cc in (omega arith, (omega arith, ap (λ (x : ℕ). (version_at w b x).value) h))
    go false q ih = let r = ih q in (omega (arith, r.0), (omega (arith, r.1.0), r.1.1))

found_none : (w b k : List ℕ) (s i n : ℕ) → find_from i (versions_from w b i n) k s ≡ None → read_at s (versions_from w b i n) k ≡ None
unfolding versions_from find_from read_at
found_none w b k s i zero e = refl
found_none w b k s i (suc n) e = go (sees k s (version_at w b i)) e (found_none w b k s (suc i) n)
  where
    go : (t : Bool) → cond t (Some i) (find_from (suc i) (versions_from w b (suc i) n) k s) ≡ None
        → (find_from (suc i) (versions_from w b (suc i) n) k s ≡ None → read_at s (versions_from w b (suc i) n) k ≡ None)
        → cond t (version_at w b i).value (read_at s (versions_from w b (suc i) n) k) ≡ None
    go true q ih = let z : ◌≡◌ {A = ℕ} 0 1 = cc in absurd (omega arith)
    go false q ih = ih q

module _ (w b k : List ℕ) (s : ℕ) {o : Option ℕ} (is : o ≡ find_from 0 (versions_in w b) k s) where
  found_in : {i : ℕ} → o ≡ Some i → i < count_word w
  found_in {i} e = omega (arith, (found_at w b k s 0 (count_word w) i (sym is ∙ e)).1.0)

  pub found_words : {i : ℕ} → Valid w b → o ≡ Some i → 5 + 4 * i + 4 ≤ length w
  found_words {i} v e = let h = found_in e in omega arith

  pub live_dead : {i : ℕ} {r : Bool} → o ≡ Some i → r ≡ eqb (value_word w i) 0 → r ≡ true → None ≡ live_found w (find_from 0 (versions_in w b) k s)
  unfolding live_found
  live_dead e r-is f = rw (← is, e, ← r-is, f)

-- what `find_value` gives is what a reader reads, and a place that it gives is a version
module _ (w b k : List ℕ) (s : ℕ) {o : Option ℕ} (is : o ≡ live_found w (find_from 0 (versions_in w b) k s)) where
  pub read_found : read_at s (versions_in w b) k ≡ value_found w b o
  unfolding version_at live_found
  read_found = go (find_from 0 (versions_in w b) k s) refl
    where
      live : (i x : ℕ) → cond (eqb x 0) None (Some (value_part w b i)) ≡ value_of_word x (value_part w b i)
      live i zero = refl
      live i (suc x) = rw (ne_eqb (suc x) 0 (λ (z : suc x ≡ 0). omega arith))

      pick : (i : ℕ) (t : Bool) → cond t None (Some (value_part w b i)) ≡ value_found w b (cond t None (Some i))
      pick i true = refl
      pick i false = refl

      go : (x : Option ℕ) → find_from 0 (versions_in w b) k s ≡ x → read_at s (versions_in w b) k ≡ value_found w b o
      go (Some i) e =
          (found_at w b k s 0 (count_word w) i e).1.1
          ∙ sym (live i (value_word w i)) ∙ pick i (eqb (value_word w i) 0)
          ∙ ap (value_found w b) (sym (is ∙ ap (live_found w) e))
      go None e = found_none w b k s 0 (count_word w) e ∙ ap (value_found w b) (sym (is ∙ ap (live_found w) e))

  pub read_some : {i : ℕ} {v : List ℕ} → o ≡ Some i → v ≡ value_part w b i → Some v ≡ read_at s (versions_in w b) k
  read_some e h = ap Some h ∙ sym (read_found ∙ ap (value_found w b) e)

  pub read_none : o ≡ None → None ≡ read_at s (versions_in w b) k
  read_none e = sym (read_found ∙ ap (value_found w b) e)

  pub read_in : {i : ℕ} → o ≡ Some i → i < count_word w
  unfolding live_found
  read_in {i} e = go (find_from 0 (versions_in w b) k s) refl
    where
      pick : (j : ℕ) (t : Bool) → cond t None (Some j) ≡ Some i → Some j ≡ Some i
      pick j true q = let z : ◌≡◌ {A = ℕ} 0 1 = cc in absurd (omega arith)
      pick j false q = q

      go : (x : Option ℕ) → find_from 0 (versions_in w b) k s ≡ x → i < count_word w
      go (Some j) f = found_in w b k s (sym f) (pick j (eqb (value_word w j) 0) (sym (ap (live_found w) f) ∙ sym is ∙ e))
      go None f = let z : live_found w None ≡ Some i = sym (ap (live_found w) f) ∙ sym is ∙ e in let y : ◌≡◌ {A = ℕ} 0 1 = cc in absurd (omega arith)

-- THE NEWEST SEQUENCE, from what a read at the last sequence finds
pub newest_at_lem : (w b k : List ℕ) (l i n j : ℕ) → sorted (versions_from w b i n) ≡ true → SeqsIn l (versions_from w b i n)
    → find_from i (versions_from w b i n) k l ≡ Some j → newest (versions_from w b i n) k ≡ seq_word w j
unfolding versions_from find_from version_at
newest_at_lem w b k l i zero j o q e = let z : ◌≡◌ {A = ℕ} 0 1 = cc in absurd (omega arith)
newest_at_lem w b k l i (suc n) j o q e =
    go (sees k l (version_at w b i)) refl e (newest_at_lem w b k l (suc i) n j (sorted_rest (version_at w b i) (versions_from w b (suc i) n) o) q.1)
  where
    go : (t : Bool) → sees k l (version_at w b i) ≡ t → cond t (Some i) (find_from (suc i) (versions_from w b (suc i) n) k l) ≡ Some j
        → (find_from (suc i) (versions_from w b (suc i) n) k l ≡ Some j → newest (versions_from w b (suc i) n) k ≡ seq_word w j)
        → newest (version_at w b i ∷ versions_from w b (suc i) n) k ≡ seq_word w j
    go true f r ih = let h : i ≡ j = cc in newest_first k l (version_at w b i) (versions_from w b (suc i) n) q.0 f o ∙ ap (seq_word w) h
    go false f r ih = newest_other k l (version_at w b i) (versions_from w b (suc i) n) q.0 f ∙ ih r

pub newest_zero : (w b k : List ℕ) (l i n : ℕ) → SeqsIn l (versions_from w b i n) → find_from i (versions_from w b i n) k l ≡ None → newest (versions_from w b i n) k ≡ 0
unfolding versions_from find_from newest
newest_zero w b k l i zero q e = refl
newest_zero w b k l i (suc n) q e = go (sees k l (version_at w b i)) refl e (newest_zero w b k l (suc i) n q.1)
  where
    go : (t : Bool) → sees k l (version_at w b i) ≡ t → cond t (Some i) (find_from (suc i) (versions_from w b (suc i) n) k l) ≡ None
        → (find_from (suc i) (versions_from w b (suc i) n) k l ≡ None → newest (versions_from w b (suc i) n) k ≡ 0)
        → newest (version_at w b i ∷ versions_from w b (suc i) n) k ≡ 0
    go true f r ih = let z : ◌≡◌ {A = ℕ} 0 1 = cc in absurd (omega arith)
    go false f r ih = newest_other k l (version_at w b i) (versions_from w b (suc i) n) q.0 f ∙ ih r
