-- Laws of the place of a key among ascending writes: which rows are before it, what is found there, and what an update changes there. Assumes nothing.
use Prim.Native.Nat.{ℕ, zero, suc, ◌+◌, ◌-◌, ◌*◌, ◌≤◌, ◌<◌}
use native.Mathlib.Nat.{add-zero, zero-add, eq-or-lt_of_le}
use native.Mathlib.Omega.{arith}
use mathlib.Core.Path.{◌≡◌, refl, sym, ap, ◌∙◌, subst}
use mathlib.Core.Logic.{⊎_elim}
use mathlib.Core.Bool.{Bool, true, false, cond}
use mathlib.Core.List.{List, [], ◌∷◌, ◌++◌}
use Rattle.std.specs.Prelude.{Option, None, Some}
use lib.ListN.{take, drop}
use borrow.Author.Tests.{ltb-true, lt-ltb, le-ltb}
use lib.Dec.{ltb}
use Rattle.base_key.specs.Bytes.{Bytes, ◌and◌}
use Rattle.base_key.specs.Keys.{Key, compare_keys, is_less, key_below, same_key}
use Rattle.base_key.proofs.Keys.{less_is, turned, compare_turned, compare_trans, compare_refl, key_swap, same_is, same_less}
use Rattle.base_key.proofs.Bytes.{and_left, and_right, neither}
use Rattle.store_memtable.specs.Table.{Value, Write, update, find, Above, Ascending}
use Rattle.store_memtable.proofs.TableLaws.{step, update_step, above_trans, find_above}
use Rattle.group_spec.specs.Members.{list_from, write_at}
use Rattle.group_spec.specs.Settling.{KeyIn}
use Rattle.command_writes.specs.Own.{own_writes, Own, OwnAt}
use Rattle.command_writes.specs.Changes.{place_among, held_at}
use Rattle.group_spec.proofs.Walks.{list_next, list_end, take_list, drop_list}
use Rattle.command_writes.proofs.Growing.{own_row}
use Rattle.command_writes.proofs.Lists.{by_order}
use Rattle.std.specs.declared.cmp.Ordering.TheVariants.{Less, Equal, Greater}
use Rattle.std.specs.declared.cmp.Ordering.{Ordering}

-- the key of a row lies in the data
pub own_key_in : (w : List ℕ) (d : Bytes) {n i : ℕ} → Own w d n → i < n → KeyIn w d (4 * i)
own_key_in w d o h = let r = own_row w d o h in record { words_in = omega (arith, r.row_in); key_in = r.key_in }

below_trans : (a b k : Key) → compare_keys a b ≡ Less → key_below b k ≡ true → key_below a k ≡ true
unfolding key_below
below_trans a b k p e = ap is_less (compare_trans a b k p (less_is _ e))

-- THE PLACE
module _ (f : ℕ → Write) (k : Key) where
  abbrev here : ℕ → Bool
  here j = key_below (f j).0 k

  above_at : (q : Key) (i n j : ℕ) → Above q (list_from f i n) → i ≤ j → j < i + n → compare_keys q (f j).0 ≡ Less
  unfolding list_from
  above_at q i zero j a l h = absurd (omega arith)
  above_at q i (suc n) j a l h =
      ⊎_elim (λ (e : i ≡ j). subst (λ (x : ℕ). compare_keys q (f x).0 ≡ Less) e a.0)
      (λ (e : i < j). above_at q (suc i) n j a.1 e (omega arith)) (eq-or-lt_of_le l)

  place_over : (i n j : ℕ) → Ascending (list_from f i n) → i ≤ j → j < i + n → here j ≡ true → j < i + place_among k (list_from f i n)
  unfolding list_from place_among
  place_over i zero j s l h e = absurd (omega arith)
  place_over i (suc n) j s l h e =
      ⊎_elim (λ (q : i ≡ j). rw (subst (λ (x : ℕ). here x ≡ true) (sym q) e) (omega arith))
      (λ (q : i < j). rw (below_trans (f i).0 (f j).0 k (above_at (f i).0 (suc i) n j s.0 q (omega arith)) e)
      (omega (arith, place_over (suc i) n j s.1 q (omega arith) e)))
      (eq-or-lt_of_le l)

  place_under : (i n j : ℕ) → i ≤ j → j < i + n → here j ≡ false → i + place_among k (list_from f i n) ≤ j
  unfolding list_from place_among
  place_under i zero j l h e = absurd (omega arith)
  place_under i (suc n) j l h e =
      ⊎_elim (λ (q : i ≡ j). rw (subst (λ (x : ℕ). here x ≡ false) (sym q) e) (omega arith))
      (λ (q : i < j). go (here i) (place_under (suc i) n j q (omega arith) e)) (eq-or-lt_of_le l)
    where
      go : (t : Bool) → suc i + place_among k (list_from f (suc i) n) ≤ j → i + cond t (suc (place_among k (list_from f (suc i) n))) 0 ≤ j
      go true ih = omega arith
      go false ih = omega arith

  pub place_fits : (i n : ℕ) → place_among k (list_from f i n) ≤ n
  unfolding list_from place_among
  place_fits i zero = omega arith
  place_fits i (suc n) = go (here i) (place_fits (suc i) n)
    where
      go : (t : Bool) → place_among k (list_from f (suc i) n) ≤ n → cond t (suc (place_among k (list_from f (suc i) n))) 0 ≤ suc n
      go true ih = omega arith
      go false ih = omega arith

  -- the key at the place is not below
  place_stops : (i n : ℕ) → place_among k (list_from f i n) < n → here (i + place_among k (list_from f i n)) ≡ false
  unfolding list_from place_among
  place_stops i zero h = absurd (omega arith)
  place_stops i (suc n) h = go (here i) refl h (place_stops (suc i) n)
    where
      go : (t : Bool) → here i ≡ t → cond t (suc (place_among k (list_from f (suc i) n))) 0 < suc n
          → (place_among k (list_from f (suc i) n) < n → here (suc i + place_among k (list_from f (suc i) n)) ≡ false)
          → here (i + cond t (suc (place_among k (list_from f (suc i) n))) 0) ≡ false
      go true p h ih =
          let e : i + suc (place_among k (list_from f (suc i) n)) ≡ suc i + place_among k (list_from f (suc i) n) = omega arith in
          ap here e ∙ ih (omega arith)
      go false p h ih = ap here (add-zero i) ∙ p

-- the rows before the place come before the key, and no others
module _ (w : List ℕ) (d : Bytes) (n : ℕ) (k : Key) where
  pub place_splits : {i : ℕ} → Own w d n → i < n → key_below (write_at w d i).0 k ≡ ltb i (place_among k (own_writes w d n))
  unfolding own_writes
  place_splits {i} o h = go (key_below (write_at w d i).0 k) refl
    where
      go : (t : Bool) → key_below (write_at w d i).0 k ≡ t → t ≡ ltb i (place_among k (list_from (write_at w d) 0 n))
      go true e = sym (lt-ltb i _ (omega (arith, place_over (write_at w d) k 0 n i o.rising (omega arith) (omega arith) e)))
      go false e = sym (le-ltb i _ (omega (arith, place_under (write_at w d) k 0 n i (omega arith) (omega arith) e)))

-- WHAT STANDS AT THE PLACE. What is before it changes neither a lookup nor an update.
find_place : (k : Key) (ws : List Write) → find ws k ≡ find (drop (place_among k ws) ws) k
unfolding find place_among key_below
find_place k [] = refl
find_place k (w ∷ ws) = go (compare_keys w.0 k) refl (find_place k ws)
  where
    go : (o : Ordering) → compare_keys w.0 k ≡ o → find ws k ≡ find (drop (place_among k ws) ws) k
        → find (w ∷ ws) k ≡ find (drop (cond (is_less o) (suc (place_among k ws)) 0) (w ∷ ws)) k
    go Less p ih = rw (same_less w.0 k p) ih
    go Equal p ih = refl
    go Greater p ih = refl

update_place : (k : Key) (v : Option Value) (ws : List Write)
    → update k (Some v) ws ≡ take (place_among k ws) ws ++ update k (Some v) (drop (place_among k ws) ws)
unfolding place_among key_below step
update_place k v [] = refl
update_place k v (w ∷ ws) = go (compare_keys w.0 k) refl (update_place k v ws)
  where
    go : (o : Ordering) → compare_keys w.0 k ≡ o → update k (Some v) ws ≡ take (place_among k ws) ws ++ update k (Some v) (drop (place_among k ws) ws)
        → update k (Some v) (w ∷ ws) ≡ take (cond (is_less o) (suc (place_among k ws)) 0) (w ∷ ws) ++ update k (Some v) (drop (cond (is_less o) (suc (place_among k ws)) 0) (w ∷ ws))
    go Less p ih =
        let g : compare_keys k w.0 ≡ Greater = compare_turned w.0 k ∙ ap turned p in
        update_step k (Some v) w ws ∙ ap (λ (o : Ordering). step o k (Some v) w ws) g ∙ ap (λ (l : List Write). w ∷ l) ih
    go Equal p ih = refl
    go Greater p ih = refl

update_here : (k : Key) (v : Option Value) (w : Write) (ws : List Write) → same_key w.0 k ≡ true → update k (Some v) (w ∷ ws) ≡ (k, v) ∷ ws
unfolding step
update_here k v w ws e =
    let p : compare_keys k w.0 ≡ Equal = ap (compare_keys k) (same_is w.0 k e) ∙ compare_refl k in
    update_step k (Some v) w ws ∙ ap (λ (o : Ordering). step o k (Some v) w ws) p

-- neither below nor the same is above
behind : (j k : Key) → key_below j k ≡ false → same_key j k ≡ false → compare_keys k j ≡ Less
unfolding key_below same_key
behind j k b s = go (compare_keys j k) refl b s
  where
    go : (o : Ordering) → compare_keys j k ≡ o → is_less o ≡ false → same_key j k ≡ false → compare_keys k j ≡ Less
    go Less p b s = neither refl b
    go Equal p b s = neither (ap (λ (o : Ordering). elim o [ Less ↦ false | Equal ↦ true | Greater ↦ false ]) p) s
    go Greater p b s = key_swap j k p

update_before : (k : Key) (v : Option Value) (w : Write) (ws : List Write) → compare_keys k w.0 ≡ Less → update k (Some v) (w ∷ ws) ≡ (k, v) ∷ w ∷ ws
unfolding step
update_before k v w ws p = update_step k (Some v) w ws ∙ ap (λ (o : Ordering). step o k (Some v) w ws) p

pub ascending_drop : (p : ℕ) (ws : List Write) → Ascending ws → Ascending (drop p ws)
ascending_drop zero ws s = s
ascending_drop (suc p) [] s = tt
ascending_drop (suc p) (w ∷ ws) s = ascending_drop p ws s.1

module _ (w : List ℕ) (d : Bytes) (n : ℕ) (k : Key) {i : ℕ} (i-is : i ≡ place_among k (own_writes w d n)) where
  pub place_within : i ≤ n
  unfolding own_writes
  place_within = omega (arith, place_fits (write_at w d) k 0 n)

  front_is : take (place_among k (own_writes w d n)) (own_writes w d n) ≡ list_from (write_at w d) 0 i
  unfolding own_writes
  front_is = ap (λ (p : ℕ). take p (own_writes w d n)) (sym i-is) ∙ take_list (write_at w d) i 0 n place_within

  rest_is : drop (place_among k (own_writes w d n)) (own_writes w d n) ≡ list_from (write_at w d) i (n - i)
  unfolding own_writes
  rest_is =
      ap (λ (p : ℕ). drop p (own_writes w d n)) (sym i-is) ∙ drop_list (write_at w d) i 0 n place_within
      ∙ ap (λ (x : ℕ). list_from (write_at w d) x (n - i)) (zero-add i)

  stops : i < n → key_below (write_at w d i).0 k ≡ false
  unfolding own_writes
  stops h =
      ap (λ (x : ℕ). key_below (write_at w d x).0 k) (i-is ∙ sym (zero-add (place_among k (own_writes w d n))))
      ∙ place_stops (write_at w d) k 0 n (omega arith)

  found_is : find (own_writes w d n) k ≡ find (list_from (write_at w d) i (n - i)) k
  found_is = find_place k (own_writes w d n) ∙ ap (λ (l : List Write). find l k) rest_is

  changed_is : (v : Option Value) → update k (Some v) (own_writes w d n) ≡ list_from (write_at w d) 0 i ++ update k (Some v) (list_from (write_at w d) i (n - i))
  changed_is v = update_place k v (own_writes w d n) ∙ (λ z. front_is z ++ update k (Some v) (rest_is z))

  -- the row holds the key
  module _ {r : Bool} (held : r ≡ held_at w d n k i) (yes : r ≡ true) where
    pub held_inside : i < n
    unfolding held_at
    held_inside = ltb-true i n (and_left _ _ (sym held ∙ yes))

    held_same : same_key (write_at w d i).0 k ≡ true
    unfolding held_at
    held_same = and_right _ _ (sym held ∙ yes)

    pub found_at : OwnAt w d n k i
    unfolding find
    found_at = record {
      inside = held_inside;
      is =
          found_is ∙ ap (λ (l : List Write). find l k) (list_next (write_at w d) held_inside)
          ∙ ap (λ (b : Bool). cond b (Some (write_at w d i).1) (find (list_from (write_at w d) (i + 1) (n - (i + 1))) k)) held_same;
    }

    pub changed_here : (v : Option Value) → update k (Some v) (own_writes w d n) ≡ list_from (write_at w d) 0 i ++ (k, v) ∷ list_from (write_at w d) (i + 1) (n - (i + 1))
    changed_here v =
        changed_is v
        ∙ ap (λ (l : List Write). list_from (write_at w d) 0 i ++ l)
        (ap (update k (Some v)) (list_next (write_at w d) held_inside) ∙ update_here k v (write_at w d i) _ held_same)

  -- no row holds the key
  module _ {r : Bool} (held : r ≡ held_at w d n k i) (no : r ≡ false) where
    above_key : i < n → compare_keys k (write_at w d i).0 ≡ Less
    unfolding held_at ◌and◌
    above_key h = behind (write_at w d i).0 k (stops h) (ap (λ (b : Bool). b and same_key (write_at w d i).0 k) (sym (lt-ltb i n h)) ∙ sym held ∙ no)

    pub found_nothing : Own w d n → find (own_writes w d n) k ≡ None
    unfolding own_writes find
    found_nothing o =
        by_order i n
        (λ h.
        let c : list_from (write_at w d) i (n - i) ≡ write_at w d i ∷ list_from (write_at w d) (i + 1) (n - (i + 1)) = list_next (write_at w d) h in
        let a : Ascending (list_from (write_at w d) i (n - i)) = subst Ascending rest_is (ascending_drop (place_among k (own_writes w d n)) (own_writes w d n) o.rising) in
        let b : Ascending (write_at w d i ∷ list_from (write_at w d) (i + 1) (n - (i + 1))) = subst Ascending c a in
        found_is ∙ ap (λ (l : List Write). find l k) c ∙ find_above k (write_at w d i ∷ list_from (write_at w d) (i + 1) (n - (i + 1))) (above_key h, above_trans k (write_at w d i).0 (list_from (write_at w d) (i + 1) (n - (i + 1))) (above_key h) b.0))
        (λ h. found_is ∙ ap (λ (l : List Write). find l k) (list_end (write_at w d) h))

    pub changed_between : (v : Option Value) → update k (Some v) (own_writes w d n) ≡ list_from (write_at w d) 0 i ++ (k, v) ∷ list_from (write_at w d) i (n - i)
    unfolding update
    changed_between v =
        changed_is v
        ∙ ap (λ (l : List Write). list_from (write_at w d) 0 i ++ l)
        (by_order i n
        (λ h.
        let c : list_from (write_at w d) i (n - i) ≡ write_at w d i ∷ list_from (write_at w d) (i + 1) (n - (i + 1)) = list_next (write_at w d) h in
        ap (update k (Some v)) c ∙ update_before k v (write_at w d i) _ (above_key h) ∙ ap (λ (l : List Write). (k, v) ∷ l) (sym c))
        (λ h. ap (update k (Some v)) (list_end (write_at w d) h) ∙ ap (λ (l : List Write). (k, v) ∷ l) (sym (list_end (write_at w d) h))))
