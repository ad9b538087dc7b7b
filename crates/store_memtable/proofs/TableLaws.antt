-- The laws of a table: an update keeps it ascending and changes what is found at its own key alone, and two ascending
-- tables in which the same is found are equal; writes, and the last of them to each key, are read through. Assumes nothing.
use Prim.Native.Nat.{ℕ}
use native.Mathlib.Omega.{arith}
use mathlib.Core.List.{List, [], ◌∷◌, ◌++◌}
use mathlib.Core.Bool.{Bool, true, false, cond}
use Rattle.std.specs.Prelude.{Option, None, Some}
use mathlib.Core.Path.{◌≡◌, refl, sym, ap, ◌∙◌}
use Rattle.base_key.specs.Keys.{Key, compare_keys, same_key}
use Rattle.base_key.proofs.Keys.{compare_equal, compare_trans, key_swap, same_refl, same_is, same_less, same_sym}
use Rattle.store_memtable.specs.Table.{Value, Entry, Reader, Write, Table, entered, update, find, overlay, over, write_all, last_writes}
pub use Rattle.store_memtable.specs.Table.{Above, Ascending}
use Rattle.std.specs.declared.cmp.Ordering.TheVariants.{Less, Equal, Greater}
use Rattle.std.specs.declared.cmp.Ordering.{Ordering}

module _ {A : Type 0} where
  -- what `update` does at a first entry, by the order of the two keys
  unfoldable pub step : Ordering → Key → Option A → Entry A → List (Entry A) → List (Entry A)
  step Less k new e t = entered k new (e ∷ t)
  step Equal k new e t = entered k new t
  step Greater k new e t = e ∷ update k new t

  pub update_step : (k : Key) (new : Option A) (e : Entry A) (t : List (Entry A)) → update k new (e ∷ t) ≡ step (compare_keys k e.0) k new e t
  unfolding step update
  update_step k new e t = go (compare_keys k e.0) refl
    where
      go : (o : Ordering) → compare_keys k e.0 ≡ o → update k new (e ∷ t) ≡ step (compare_keys k e.0) k new e t
      go Less p = rw (p, update)
      go Equal p = rw (p, update)
      go Greater p = rw (p, update)

  pub above_trans : (j k : Key) (t : List (Entry A)) → compare_keys j k ≡ Less → Above k t → Above j t
  above_trans j k [] p a = tt
  above_trans j k (e ∷ t) p a = (compare_trans j k e.0 p a.0, above_trans j k t p a.1)

  above_entered : (j k : Key) (new : Option A) (t : List (Entry A)) → compare_keys j k ≡ Less → Above j t → Above j (entered k new t)
  above_entered j k None t p a = a
  above_entered j k (Some x) t p a = (p, a)

  above_update : (j k : Key) (new : Option A) (t : List (Entry A)) → compare_keys j k ≡ Less → Above j t → Above j (update k new t)
  unfolding step update
  above_update j k new [] p a = above_entered j k new [] p tt
  above_update j k new (e ∷ t) p a = rw (update_step k new e t) (go (compare_keys k e.0) (above_update j k new t p a.1))
    where
      go : (o : Ordering) → Above j (update k new t) → Above j (step o k new e t)
      go Less ih = above_entered j k new (e ∷ t) p a
      go Equal ih = above_entered j k new t p a.1
      go Greater ih = (a.0, ih)

  ascending_entered : (k : Key) (new : Option A) (t : List (Entry A)) → Above k t → Ascending t → Ascending (entered k new t)
  ascending_entered k None t a s = s
  ascending_entered k (Some x) t a s = (a, s)

  pub ascending_update : (k : Key) (new : Option A) (t : List (Entry A)) → Ascending t → Ascending (update k new t)
  unfolding step update
  ascending_update k new [] s = ascending_entered k new [] tt tt
  ascending_update k new (e ∷ t) s = rw (update_step k new e t) (go (compare_keys k e.0) refl (ascending_update k new t s.1))
    where
      go : (o : Ordering) → compare_keys k e.0 ≡ o → Ascending (update k new t) → Ascending (step o k new e t)
      go Less p ih = ascending_entered k new (e ∷ t) (p, above_trans k e.0 t p s.0) s
      go Equal p ih = ascending_entered k new t (rw (compare_equal k e.0 p) s.0) s.1
      go Greater p ih = (above_update e.0 k new t (key_swap k e.0 p) s.0, ih)

  pub find_above : (k : Key) (t : List (Entry A)) → Above k t → find t k ≡ None
  unfolding find
  find_above k [] a = refl
  find_above k (e ∷ t) a = rw (same_sym e.0 k, same_less k e.0 a.0) (find_above k t a.1)

  find_entered_self : (k : Key) (new : Option A) (t : List (Entry A)) → Above k t → find (entered k new t) k ≡ new
  unfolding find
  find_entered_self k None t a = find_above k t a
  find_entered_self k (Some x) t a = rw (same_refl k)

  find_entered_other : (j k : Key) (new : Option A) (t : List (Entry A)) → same_key k j ≡ false → find (entered k new t) j ≡ find t j
  unfolding find
  find_entered_other j k None t d = refl
  find_entered_other j k (Some x) t d = rw d

  pub find_update_self : (k : Key) (new : Option A) (t : List (Entry A)) → Ascending t → find (update k new t) k ≡ new
  unfolding step update find
  find_update_self k new [] s = find_entered_self k new [] tt
  find_update_self k new (e ∷ t) s = rw (update_step k new e t) (go (compare_keys k e.0) refl (find_update_self k new t s.1))
    where
      go : (o : Ordering) → compare_keys k e.0 ≡ o → find (update k new t) k ≡ new → find (step o k new e t) k ≡ new
      go Less p ih = find_entered_self k new (e ∷ t) (p, above_trans k e.0 t p s.0)
      go Equal p ih = find_entered_self k new t (rw (compare_equal k e.0 p) s.0)
      go Greater p ih = rw (same_less e.0 k (key_swap k e.0 p)) ih

  pub find_update_other : (j k : Key) (new : Option A) (t : List (Entry A)) → same_key k j ≡ false → find (update k new t) j ≡ find t j
  unfolding step update find
  find_update_other j k new [] d = find_entered_other j k new [] d
  find_update_other j k new (e ∷ t) d = rw (update_step k new e t) (go (compare_keys k e.0) refl (find_update_other j k new t d))
    where
      go : (o : Ordering) → compare_keys k e.0 ≡ o → find (update k new t) j ≡ find t j → find (step o k new e t) j ≡ find (e ∷ t) j
      go Less p ih = find_entered_other j k new (e ∷ t) d
      go Equal p ih = find_entered_other j k new t d ∙ sym (ap (λ (b : Bool). cond b (Some e.1) (find t j)) (ap (λ (x : Key). same_key x j) (sym (compare_equal k e.0 p)) ∙ d))
      go Greater p ih = ap (λ (x : Option A). cond (same_key e.0 j) (Some e.1) x) ih

  pub find_update : (k : Key) (new : Option A) (t : List (Entry A)) → Ascending t → (j : Key) → find (update k new t) j ≡ cond (same_key k j) new (find t j)
  find_update k new t s j = go (same_key k j) refl
    where
      go : (b : Bool) → same_key k j ≡ b → find (update k new t) j ≡ cond (same_key k j) new (find t j)
      go true p = rw p (rw (← (same_is k j p)) (find_update_self k new t s))
      go false p = rw p (find_update_other j k new t p)

  find_head : (e : Entry A) (t : List (Entry A)) → find (e ∷ t) e.0 ≡ Some e.1
  unfolding find
  find_head e t = rw (same_refl e.0)

  pub same_table : (t u : List (Entry A)) → Ascending t → Ascending u → ((k : Key) → find t k ≡ find u k) → t ≡ u
  unfolding find
  same_table [] [] s r h = refl
  same_table [] (f ∷ u) s r h = let p = h f.0 ∙ find_head f u in let z : ◌≡◌ {A = ℕ} 0 1 = cc in absurd (omega arith)
  same_table (e ∷ t) [] s r h = let p = sym (h e.0) ∙ find_head e t in let z : ◌≡◌ {A = ℕ} 0 1 = cc in absurd (omega arith)
  same_table (e ∷ t) (f ∷ u) s r h = go (compare_keys e.0 f.0) refl (λ g. same_table t u s.1 r.1 g)
    where
      tails : e.0 ≡ f.0 → (k : Key) (b : Bool) → same_key e.0 k ≡ b → find t k ≡ find u k
      tails p k true q =
          find_above k t (rw (← (same_is e.0 k q)) s.0) ∙ sym (find_above k u (rw (← (sym p ∙ same_is e.0 k q)) r.0))
      tails p k false q =
          let q' : same_key f.0 k ≡ false = rw (← p) q in
          let g = h k in
          simp (q, q') at g

      go : (o : Ordering) → compare_keys e.0 f.0 ≡ o → (((k : Key) → find t k ≡ find u k) → t ≡ u) → (e ∷ t) ≡ (f ∷ u)
      go Less p ih =
          let q = sym (find_head e t) ∙ h e.0 ∙ find_above e.0 (f ∷ u) (p, above_trans e.0 f.0 u p r.0) in
          let z : ◌≡◌ {A = ℕ} 0 1 = cc in
          absurd (omega arith)
      go Equal p ih =
          let k = compare_equal e.0 f.0 p in
          let l = ih (λ x. tails k x (same_key e.0 x) refl) in
          let g : find (f ∷ u) e.0 ≡ Some f.1 = rw k (find_head f u) in
          let v : ◌≡◌ {A = Option A} (Some e.1) (Some f.1) = sym (find_head e t) ∙ h e.0 ∙ g in
          let w : e.1 ≡ f.1 = cc in
          λ i. (k i, w i) ∷ l i
      go Greater p ih =
          let q = sym (find_head f u) ∙ sym (h f.0) ∙ find_above f.0 (e ∷ t) (key_swap _ _ p, above_trans f.0 e.0 t (key_swap _ _ p) s.0) in
          let z : ◌≡◌ {A = ℕ} 0 1 = cc in
          absurd (omega arith)

-- Reading through writes.
pub over_agree : (ws : List Write) (r q : Reader) (k : Key) → r k ≡ q k → over ws r k ≡ over ws q k
unfolding over overlay
over_agree [] r q k p = p
over_agree (w ∷ ws) r q k p = over_agree ws (overlay w r) (overlay w q) k (ap (λ (x : Option Value). cond (same_key w.0 k) w.1 x) p)

pub write_all_append : (ws vs : List Write) (t : Table) → write_all (ws ++ vs) t ≡ write_all vs (write_all ws t)
unfolding write_all
write_all_append [] vs t = refl
write_all_append (w ∷ ws) vs t = write_all_append ws vs (update w.0 w.1 t)

pub ascending_write_all : (ws : List Write) (t : Table) → Ascending t → Ascending (write_all ws t)
unfolding write_all
ascending_write_all [] t s = s
ascending_write_all (w ∷ ws) t s = ascending_write_all ws (update w.0 w.1 t) (ascending_update w.0 w.1 t s)

-- a table after writes is read as the table before them through them
pub find_write_all : (ws : List Write) (t : Table) → Ascending t → (k : Key) → find (write_all ws t) k ≡ over ws (find t) k
unfolding write_all over overlay
find_write_all [] t s k = refl
find_write_all (w ∷ ws) t s k =
    find_write_all ws (update w.0 w.1 t) (ascending_update w.0 w.1 t s) k
    ∙ over_agree ws (find (update w.0 w.1 t)) (overlay w (find t)) k (find_update w.0 w.1 t s k)

-- writes that read alike make the same table
pub write_all_same : (ws vs : List Write) (t : Table) → Ascending t → ((k : Key) → over ws (find t) k ≡ over vs (find t) k) → write_all ws t ≡ write_all vs t
write_all_same ws vs t s h =
    same_table (write_all ws t) (write_all vs t) (ascending_write_all ws t s) (ascending_write_all vs t s)
    (λ k. find_write_all ws t s k ∙ h k ∙ sym (find_write_all vs t s k))

-- writes to two keys may change places
pub update_swap : (j k : Key) (x y : Option Value) (t : Table) → Ascending t → same_key j k ≡ false → update j x (update k y t) ≡ update k y (update j x t)
unfolding write_all over overlay
update_swap j k x y t s d = write_all_same ((k, y) ∷ (j, x) ∷ []) ((j, x) ∷ (k, y) ∷ []) t s (λ m. go m (same_key j m) refl)
  where
    go : (m : Key) (b : Bool) → same_key j m ≡ b → cond (same_key j m) x (cond (same_key k m) y (find t m)) ≡ cond (same_key k m) y (cond (same_key j m) x (find t m))
    go m true p = rw (p, ← (same_is j m p), same_sym k j, d)
    go m false p = rw p

-- One write per key, the last: set one after another.
pub last_one : (done : List Write) (w : Write) → last_writes done (w ∷ []) ≡ update w.0 (Some w.1) done
unfolding last_writes
last_one done w = refl

pub last_more : (done a b : List Write) → last_writes done (a ++ b) ≡ last_writes (last_writes done a) b
unfolding last_writes
last_more done [] b = refl
last_more done (w ∷ a) b = last_more (update w.0 (Some w.1) done) a b

pub ascending_last : (done ws : List Write) → Ascending done → Ascending (last_writes done ws)
unfolding last_writes
ascending_last done [] s = s
ascending_last done (w ∷ ws) s = ascending_last (update w.0 (Some w.1) done) ws (ascending_update w.0 (Some w.1) done s)

-- Of ascending writes, a reader reads the found one's value, else what lies behind.
abbrev pub or_else : Option (Option Value) → Option Value → Option Value
or_else None y = y
or_else (Some x) y = x

pub over_found : (ws : List Write) (r : Reader) → Ascending ws → (k : Key) → over ws r k ≡ or_else (find ws k) (r k)
unfolding over overlay find
over_found [] r s k = refl
over_found (w ∷ ws) r s k = over_found ws (overlay w r) s.1 k ∙ go (same_key w.0 k) refl
  where
    go : (b : Bool) → same_key w.0 k ≡ b → or_else (find ws k) (overlay w r k) ≡ or_else (find (w ∷ ws) k) (r k)
    go true p = rw (p, find_above k ws (rw (← (same_is w.0 k p)) s.0))
    go false p = rw p

pub over_some : (ws : List Write) (r : Reader) (k : Key) {v : Option Value} → Ascending ws → find ws k ≡ Some v → over ws r k ≡ v
over_some ws r k s e = over_found ws r s k ∙ ap (λ (x : Option (Option Value)). or_else x (r k)) e

pub over_none : (ws : List Write) (r : Reader) (k : Key) → Ascending ws → find ws k ≡ None → over ws r k ≡ r k
over_none ws r k s e = over_found ws r s k ∙ ap (λ (x : Option (Option Value)). or_else x (r k)) e

pub over_update : (w : Write) (done : List Write) (r : Reader) → Ascending done → (k : Key) → over (update w.0 (Some w.1) done) r k ≡ overlay w (over done r) k
unfolding overlay
over_update w done r s k =
    over_found (update w.0 (Some w.1) done) r (ascending_update w.0 (Some w.1) done s) k ∙ go (same_key w.0 k) refl
  where
    go : (b : Bool) → same_key w.0 k ≡ b → or_else (find (update w.0 (Some w.1) done) k) (r k) ≡ cond (same_key w.0 k) w.1 (over done r k)
    go true p = rw (find_update w.0 (Some w.1) done s k, p)
    go false p = rw (find_update w.0 (Some w.1) done s k, p, over_found done r s k)

-- so reading through the last writes is reading through all of them
pub over_last : (done ws : List Write) (r : Reader) → Ascending done → (k : Key) → over (last_writes done ws) r k ≡ over ws (over done r) k
unfolding last_writes over
over_last done [] r s k = refl
over_last done (w ∷ ws) r s k =
    over_last (update w.0 (Some w.1) done) ws r (ascending_update w.0 (Some w.1) done s) k
    ∙ over_agree ws (over (update w.0 (Some w.1) done) r) (overlay w (over done r)) k (over_update w done r s k)

pub over_last_all : (ws : List Write) (r : Reader) (k : Key) → over (last_writes [] ws) r k ≡ over ws r k
unfolding over
over_last_all ws r k = over_last [] ws r tt k

-- and they alone make the table that all of them make
pub write_all_last_writes : (ws : List Write) (t : Table) → Ascending t → write_all (last_writes [] ws) t ≡ write_all ws t
write_all_last_writes ws t s = write_all_same (last_writes [] ws) ws t s (over_last_all ws (find t))
