-- Laws of the walk over the live keys: by places it enumerates the table of the versions. Assumes nothing.
use mathlib.Core.Path.{◌≡◌, refl, sym, ap, ◌∙◌, subst}
use mathlib.Core.Logic.{◌⊎◌, inl, inr, ⊎_elim}
use mathlib.Core.Bool.{Bool, true, false, cond, not}
use mathlib.Core.List.{List, [], ◌∷◌}
use Rattle.std.specs.Prelude.{Option, None, Some}
use Prim.Native.Nat.{ℕ, zero, suc, ◌+◌, ◌-◌, ◌≤◌, ◌<◌}
use native.Mathlib.Numerals.{add-one}
use native.Mathlib.Omega.{arith}
use lib.ListN.{length}
use borrow.Author.Tests.{ne_eqb}
use Rattle.base_key.specs.Bytes.{◌and◌}
use Rattle.base_key.specs.Keys.{Key, compare_keys, same_key}
use Rattle.base_key.proofs.Bytes.{and_left, and_right}
use Rattle.base_key.proofs.Keys.{Precedes, precedes, less_is, same_is, same_refl, compare_refl, compare_trans}
use Rattle.store_memtable.specs.Table.{Value, Table, entered, update}
use Rattle.store_memtable.specs.Versions.{Version, bytes_of, table, sorted, sorted_after, before, order_of}
use Rattle.store_memtable.specs.Layout.{count_word, version_at, versions_from}
use Rattle.store_memtable.specs.Rows.{versions_in, RowIn, Valid}
use Rattle.store_memtable.specs.Walk.{is_live, newest_at, live_at, entry_at, live_from, next_live}
use Rattle.store_memtable.proofs.Rows.{row_of}
use Rattle.std.specs.declared.cmp.Ordering.TheVariants.{Less, Equal, Greater}
use Rattle.std.specs.declared.cmp.Ordering.{Ordering}

-- THE TABLE OF SORTED VERSIONS. p stands before the list: a version counts where it has another key than the one before it
pub entries_after : Version → List Version → Table
entries_after p [] = []
entries_after p (v ∷ vs) = cond (same_key p.key v.key) (entries_after v vs) (entered v.key v.value (entries_after v vs))

-- the first entry, if there is one, is above the key k
abbrev Above : Key → Table → Type 0
Above k [] = Unit {0}
Above k (e ∷ t) = compare_keys k e.0 ≡ Less

above_less : (k l : Key) (t : Table) → compare_keys k l ≡ Less → Above l t → Above k t
above_less k l [] h a = tt
above_less k l (e ∷ t) h a = compare_trans k l e.0 h a

update_above : (k : Key) (x : Option Value) (t : Table) → Above k t → update k x t ≡ entered k x t
unfolding update
update_above k x [] a = refl
update_above k x (e ∷ t) a = ap (λ (o : Ordering). elim o [ Less ↦ entered k x (e ∷ t) | Equal ↦ entered k x t | Greater ↦ e ∷ update k x t ]) a

update_same : (k : Key) (x : Option Value) (a : Value) (t : Table) → update k x ((k, a) ∷ t) ≡ entered k x t
unfolding update
update_same k x a t = ap (λ (o : Ordering). elim o [ Less ↦ entered k x ((k, a) ∷ t) | Equal ↦ entered k x t | Greater ↦ (k, a) ∷ update k x t ]) (compare_refl k)

-- two neighbours have one key, or ascending ones
neighbours : (v u : Version) → before v u ≡ true → (same_key v.key u.key ≡ true) ⊎ ((same_key v.key u.key ≡ false) × (compare_keys v.key u.key ≡ Less))
unfolding order_of same_key
neighbours v u e = go (precedes v.key v.seq u.key u.seq (less_is _ e))
  where
    go : Precedes v.key v.seq u.key u.seq → (same_key v.key u.key ≡ true) ⊎ ((same_key v.key u.key ≡ false) × (compare_keys v.key u.key ≡ Less))
    go (inl p) = inr (rw p, p)
    go (inr q) = inl (subst (λ (x : Key). same_key v.key x ≡ true) q.0 (same_refl v.key))

entered_above : (k l : Key) (x : Option Value) (t : Table) → compare_keys k l ≡ Less → Above l t → Above k (entered l x t)
entered_above k l None t h a = above_less k l t h a
entered_above k l (Some v) t h a = h

entries_above : (v : Version) (us : List Version) → sorted_after v us ≡ true → Above v.key (entries_after v us)
unfolding entries_after sorted_after
entries_above v [] o = tt
entries_above v (u ∷ us) o =
    let later = entries_above u us (and_right (before v u) (sorted_after u us) o) in
    ⊎_elim
    (λ (s : same_key v.key u.key ≡ true). rw s (subst (λ (k : Key). Above k (entries_after u us)) (sym (same_is v.key u.key s)) later))
    (λ (d : (same_key v.key u.key ≡ false) × (compare_keys v.key u.key ≡ Less)). rw d.0 (entered_above v.key u.key u.value (entries_after u us) d.1 later))
    (neighbours v u (and_left (before v u) (sorted_after u us) o))

-- an entry put in front of those of its own key's older version
update_older : (k : Key) (x y : Option Value) (t : Table) → Above k t → update k x (entered k y t) ≡ entered k x t
update_older k x None t a = update_above k x t a
update_older k x (Some v) t a = update_same k x v t

pub table_entries : (v : Version) (us : List Version) → sorted_after v us ≡ true → table (v ∷ us) ≡ entered v.key v.value (entries_after v us)
unfolding table entries_after sorted_after update
table_entries v [] o = refl
table_entries v (u ∷ us) o =
    let so = and_right (before v u) (sorted_after u us) o in
    let rest : Table = entries_after u us in
    let later = entries_above u us so in
    ap (update v.key v.value) (table_entries u us so)
    ∙ ⊎_elim
    (λ (s : same_key v.key u.key ≡ true). rw s
    (subst (λ (k : Key). update k v.value (entered u.key u.value rest) ≡ entered k v.value rest) (sym (same_is v.key u.key s))
    (update_older u.key v.value u.value rest later)))
    (λ (d : (same_key v.key u.key ≡ false) × (compare_keys v.key u.key ≡ Less)). rw d.0
    (update_above v.key v.value (entered u.key u.value rest) (entered_above v.key u.key u.value rest d.1 later)))
    (neighbours v u (and_left (before v u) (sorted_after u us) o))

-- BY PLACES. A version adds its entry, where it is the first of its key
live_step : (t : Bool) (k : Key) (x : Option Value) (r : Table)
    → cond (is_live x and not t) ((k, bytes_of x) ∷ r) r ≡ cond t r (entered k x r)
unfolding ◌and◌
live_step true k None r = refl
live_step true k (Some a) r = refl
live_step false k None r = refl
live_step false k (Some a) r = refl

module _ (w b : List ℕ) where
  newest_next : (i : ℕ) → newest_at w b (suc i) ≡ not (same_key (version_at w b i).key (version_at w b (suc i)).key)
  unfolding newest_at
  newest_next i =
      let e : suc i - 1 ≡ i = omega arith in
      rw (ne_eqb (suc i) 0 (λ (z : suc i ≡ 0). omega arith), e)

  live_after : (i n : ℕ) → live_from w b (suc i) n ≡ entries_after (version_at w b i) (versions_from w b (suc i) n)
  unfolding live_from live_at entries_after versions_from
  live_after i zero = refl
  live_after i (suc n) =
      let v : Version = version_at w b (suc i) in
      let r : Table = live_from w b (suc (suc i)) n in
      ap (λ (t : Bool). cond (is_live v.value and t) (entry_at w b (suc i) ∷ r) r) (newest_next i)
      ∙ live_step (same_key (version_at w b i).key v.key) v.key v.value r
      ∙ ap (λ (x : Table). cond (same_key (version_at w b i).key v.key) x (entered v.key v.value x)) (live_after (suc i) n)

  live_all : (n : ℕ) → sorted (versions_from w b 0 n) ≡ true → live_from w b 0 n ≡ table (versions_from w b 0 n)
  unfolding live_from live_at newest_at versions_from table
  live_all zero o = refl
  live_all (suc n) o =
      let v : Version = version_at w b 0 in
      live_step false v.key v.value (live_from w b 1 n)
      ∙ ap (entered v.key v.value) (live_after 0 n)
      ∙ sym (table_entries v (versions_from w b 1 n) o)

  -- the walk over the whole store enumerates its table
  pub live_table : Valid w b → live_from w b 0 (count_word w) ≡ table (versions_in w b)
  live_table v = live_all (count_word w) v.ordered

  -- what the walk finds: the next entry, or that there is none; n versions are left from place i on
  pub walk_entry : (i n j : ℕ) → next_live w b i n ≡ Some j → (i ≤ j) × ((j < i + n) × (live_from w b i n ≡ entry_at w b j ∷ live_from w b (suc j) (i + n - suc j)))
  unfolding next_live live_from
  walk_entry i zero j e = let z : ◌≡◌ {A = ℕ} 0 1 = cc in absurd (omega arith)
  walk_entry i (suc n) j e = go (live_at w b i) e (walk_entry (suc i) n j)
    where
      go : (t : Bool) → cond t (Some i) (next_live w b (suc i) n) ≡ Some j
          → (next_live w b (suc i) n ≡ Some j → (suc i ≤ j) × ((j < suc i + n) × (live_from w b (suc i) n ≡ entry_at w b j ∷ live_from w b (suc j) (suc i + n - suc j))))
          → (i ≤ j) × ((j < i + suc n) × (cond t (entry_at w b i ∷ live_from w b (suc i) n) (live_from w b (suc i) n) ≡ entry_at w b j ∷ live_from w b (suc j) (i + suc n - suc j)))
      go true q ih =
          let h : i ≡ j = cc in
          let m : n ≡ i + suc n - suc j = omega arith in
          (omega arith, (omega arith, λ z. entry_at w b (h z) ∷ live_from w b (suc (h z)) (m z)))
      go false q ih =
          let r = ih q in
          let m : suc i + n ≡ i + suc n = omega arith in
          (omega (arith, r.0), (omega (arith, r.1.0), r.1.1 ∙ ap (λ (x : ℕ). entry_at w b j ∷ live_from w b (suc j) (x - suc j)) m))

  pub walk_over : (i n : ℕ) → next_live w b i n ≡ None → live_from w b i n ≡ []
  unfolding next_live live_from
  walk_over i zero e = refl
  walk_over i (suc n) e = go (live_at w b i) e (walk_over (suc i) n)
    where
      go : (t : Bool) → cond t (Some i) (next_live w b (suc i) n) ≡ None → (next_live w b (suc i) n ≡ None → live_from w b (suc i) n ≡ [])
          → cond t (entry_at w b i ∷ live_from w b (suc i) n) (live_from w b (suc i) n) ≡ []
      go true q ih = let z : ◌≡◌ {A = ℕ} 0 1 = cc in absurd (omega arith)
      go false q ih = ih q

-- the place that a walk to the last version finds
module _ (w b : List ℕ) (i : ℕ) {o : Option ℕ} (is : o ≡ next_live w b i (count_word w - i)) {j : ℕ} (e : o ≡ Some j) where
  pub found_from : i ≤ j
  found_from = (walk_entry w b i (count_word w - i) j (sym is ∙ e)).0

  pub found_below : j < count_word w
  found_below = let f = walk_entry w b i (count_word w - i) j (sym is ∙ e) in omega (arith, f.0, f.1.0)

-- a walk by places: at place i it stops, or goes on behind it
pub next_step : (w b : List ℕ) (n i : ℕ) → i < n → next_live w b i (n - i) ≡ cond (live_at w b i) (Some i) (next_live w b (i + 1) (n - (i + 1)))
unfolding next_live
next_step w b n i h = let e : n - i ≡ suc (n - suc i) = omega arith in rw (e, add-one)

pub next_end : (w b : List ℕ) (n i : ℕ) → n ≤ i → next_live w b i (n - i) ≡ None
unfolding next_live
next_end w b n i h = let e : n - i ≡ 0 = omega arith in rw e

-- a count of the live places: at place i it is one more where that is live
pub count_step : (w b : List ℕ) (n i : ℕ) → i < n → length (live_from w b i (n - i)) ≡ cond (live_at w b i) 1 0 + length (live_from w b (i + 1) (n - (i + 1)))
unfolding live_from
count_step w b n i h =
    let e : n - i ≡ suc (n - suc i) = omega arith in
    rw (e, add-one) (go (live_at w b i))
  where
    go : (t : Bool) → length (cond t (entry_at w b i ∷ live_from w b (suc i) (n - suc i)) (live_from w b (suc i) (n - suc i))) ≡ cond t 1 0 + length (live_from w b (suc i) (n - suc i))
    go true = omega arith
    go false = omega arith

pub count_end : (w b : List ℕ) (n i : ℕ) → n ≤ i → length (live_from w b i (n - i)) ≡ 0
unfolding live_from
count_end w b n i h = let e : n - i ≡ 0 = omega arith in rw e

pub count_all : (w b : List ℕ) → Valid w b → length (live_from w b 0 (count_word w)) ≡ length (table (versions_in w b))
count_all w b v = ap length (live_table w b v)
