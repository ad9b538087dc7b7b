-- The laws of versions and of the store: what other proofs use of `read_at`, `newest`, `insert`, `table` and `commit`. Assumes nothing.
use Prim.Native.Nat.{ℕ, suc, ◌+◌, ◌≤◌, ◌<◌, max}
use native.Mathlib.Omega.{arith}
use native.Mathlib.Nat.{le_of_lt, add-zero, max-eq_left}
use mathlib.Core.Logic.{inl, inr}
use mathlib.Core.List.{List, [], ◌∷◌}
use mathlib.Core.Bool.{Bool, true, false, cond, false≢true}
use Rattle.std.specs.Prelude.{Option}
use mathlib.Core.Path.{◌≡◌, refl, sym, ap, ◌∙◌, subst}
use lib.ListN.{length, drop}
use lib.Dec.{leb, ltb}
use borrow.Author.Tests.{le-leb, lt-leb, lt-ltb, le-ltb, ltb-true, ltb-false}
use Rattle.base_key.specs.Bytes.{◌and◌}
use Rattle.base_key.specs.Keys.{Key, compare_keys, order_of_versions, order_by, then_by, is_less, is_equal, same_key}
use Rattle.base_key.proofs.Bytes.{and_left, and_right, and-false}
use Rattle.base_key.proofs.Keys.{Precedes, precedes, precedes_trans, precedes_higher, compare_trans, compare_turned, turned, versions_turned, versions_differ, less_is, same_is, same_less}
use Rattle.store_memtable.specs.Table.{Value, Write, update, find, write_all, Ascending}
use Rattle.store_memtable.specs.Versions.{Version, Store, order_of, before, sorted, sorted_after, sees, read_at, find_from, newest, moved, insert, table, commit_one, commit, size_of, writes_size, versions_size}
use Rattle.store_memtable.specs.Rows.{order_with, place_of, count_on}
use Rattle.store_memtable.proofs.TableLaws.{ascending_update, find_update, update_swap}
use Rattle.std.specs.Prelude.{None, Some}
use Rattle.std.specs.declared.cmp.Ordering.TheVariants.{Less, Equal, Greater}
use Rattle.std.specs.declared.cmp.Ordering.{Ordering}

-- SORTED VERSIONS. v precedes u
abbrev pub Ahead : Version → Version → Type 0
Ahead v u = Precedes v.key v.seq u.key u.seq

-- v precedes each of vs
abbrev pub After : Version → List Version → Type 0
After v [] = Unit {0}
After v (u ∷ us) = Ahead v u × After v us

after_trans : (v u : Version) (us : List Version) → Ahead v u → After u us → After v us
after_trans v u [] p a = tt
after_trans v u (x ∷ us) p a = (precedes_trans p a.0, after_trans v u us p a.1)

pub all_after : (v : Version) (us : List Version) → sorted_after v us ≡ true → After v us
unfolding sorted_after order_of
all_after v [] e = tt
all_after v (u ∷ us) e =
    let p = precedes v.key v.seq u.key u.seq (less_is _ (and_left (before v u) (sorted_after u us) e)) in
    (p, after_trans v u us p (all_after u us (and_right (before v u) (sorted_after u us) e)))

-- a sorted list without its first
pub sorted_rest : (v : Version) (vs : List Version) → sorted (v ∷ vs) ≡ true → sorted vs ≡ true
unfolding sorted_after
sorted_rest v [] e = refl
sorted_rest v (u ∷ us) e = and_right (before v u) (sorted_after u us) e

-- THE VERSION A READ FINDS. Those that come before k at s are not seen
before_unseen : (k : Key) (s : ℕ) (v : Version) → is_less (order_with k s v) ≡ true → sees k s v ≡ false
unfolding sees order_with ◌and◌
before_unseen k s v e = go (precedes v.key v.seq k s (less_is _ e))
  where
    go : Precedes v.key v.seq k s → leb v.seq s and is_equal (compare_keys v.key k) ≡ false
    go (inl p) = rw p (and-false (leb v.seq s))
    go (inr q) = rw (lt-leb v.seq s q.1)

-- of those that do not, one of the key is seen
turned_same : (k : Key) (s : ℕ) (v : Version) → is_less (order_with k s v) ≡ false → sees k s v ≡ same_key v.key k
unfolding sees order_with order_of_versions same_key ◌and◌
turned_same k s v e = go (compare_keys v.key k) e
  where
    go : (o : Ordering) → is_less (then_by o (order_by (ltb s v.seq) (ltb v.seq s) Equal)) ≡ false → leb v.seq s and is_equal o ≡ is_equal o
    go Less h = absurd (false≢true (sym h))
    go Greater h = and-false (leb v.seq s)
    go Equal h = rw (le-leb v.seq s (tie (ltb s v.seq) refl h))
      where
        tie : (t : Bool) → ltb s v.seq ≡ t → is_less (order_by t (ltb v.seq s) Equal) ≡ false → v.seq ≤ s
        tie true q r = absurd (false≢true (sym r))
        tie false q r = omega (arith, ltb-false s v.seq q)

-- and behind one of a later key none is
later_key : (k : Key) (s : ℕ) (v : Version) → is_less (order_with k s v) ≡ false → same_key v.key k ≡ false → compare_keys k v.key ≡ Less
unfolding order_with order_of_versions same_key
later_key k s v e f = compare_turned v.key k ∙ go (compare_keys v.key k) e f
  where
    go : (o : Ordering) → is_less (then_by o (order_by (ltb s v.seq) (ltb v.seq s) Equal)) ≡ false → is_equal o ≡ false → turned o ≡ Less
    go Less h q = absurd (false≢true (sym h))
    go Equal h q = absurd (false≢true (sym q))
    go Greater h q = refl

above_key : (k : Key) (v u : Version) → compare_keys k v.key ≡ Less → Ahead v u → compare_keys k u.key ≡ Less
above_key k v u l (inl p) = compare_trans k v.key u.key l p
above_key k v u l (inr q) = subst (λ (x : Key). compare_keys k x ≡ Less) q.0 l

above_unseen : (k : Key) (s : ℕ) (u : Version) → compare_keys k u.key ≡ Less → sees k s u ≡ false
unfolding sees ◌and◌
above_unseen k s u l = rw (compare_turned k u.key, l) (and-false (leb u.seq s))

none_behind : (k : Key) (s j : ℕ) (v : Version) (us : List Version) → compare_keys k v.key ≡ Less → After v us → find_from j us k s ≡ None
unfolding find_from
none_behind k s j v [] l a = refl
none_behind k s j v (u ∷ us) l a = rw (above_unseen k s u (above_key k v u l a.0)) (none_behind k s (suc j) v us l a.1)

-- what stands at the front decides
abbrev pub found_here : ℕ → Key → List Version → Option ℕ
found_here i k [] = None
found_here i k (v ∷ vs) = cond (same_key v.key k) (Some i) None

pub find_by_place : (i : ℕ) (vs : List Version) (k : Key) (s : ℕ) → sorted vs ≡ true → find_from i vs k s ≡ found_here (i + place_of k s vs) k (drop (place_of k s vs) vs)
unfolding find_from place_of
find_by_place i [] k s o = refl
find_by_place i (v ∷ vs) k s o = go (is_less (order_with k s v)) refl (find_by_place (suc i) vs k s (sorted_rest v vs o))
  where
    here : (t : Bool) → same_key v.key k ≡ t → is_less (order_with k s v) ≡ false → cond t (Some i) (find_from (suc i) vs k s) ≡ cond t (Some i) None
    here true f e = refl
    here false f e = none_behind k s (suc i) v vs (later_key k s v e f) (all_after v vs o)

    go : (t : Bool) → is_less (order_with k s v) ≡ t → find_from (suc i) vs k s ≡ found_here (suc i + place_of k s vs) k (drop (place_of k s vs) vs)
        → cond (sees k s v) (Some i) (find_from (suc i) vs k s) ≡ found_here (i + count_on t (place_of k s vs)) k (drop (count_on t (place_of k s vs)) (v ∷ vs))
    go true e ih =
        let m : suc i + place_of k s vs ≡ i + suc (place_of k s vs) = omega arith in
        rw (before_unseen k s v e) (ih ∙ ap (λ (n : ℕ). found_here n k (drop (place_of k s vs) vs)) m)
    go false e ih = rw (turned_same k s v e, add-zero i) (here (same_key v.key k) refl e)

-- THE NEWEST. Of one key, what comes first has the highest sequence
newest_below : (k : Key) (v : Version) (us : List Version) → v.key ≡ k → After v us → newest us k ≤ v.seq
unfolding newest
newest_below k v [] e a = omega arith
newest_below k v (u ∷ us) e a = go (same_key u.key k) refl (newest_below k v us e a.1)
  where
    go : (t : Bool) → same_key u.key k ≡ t → newest us k ≤ v.seq → cond t (max u.seq (newest us k)) (newest us k) ≤ v.seq
    go true f ih =
        let h : u.seq < v.seq = precedes_higher v.key v.seq u.seq (subst (λ (x : Key). Precedes v.key v.seq x u.seq) (same_is u.key k f ∙ sym e) a.0) in
        omega arith
    go false f ih = ih

-- a read that no sequence passes sees each version of its key
sees_all : (k : Key) (l : ℕ) (v : Version) → v.seq ≤ l → sees k l v ≡ same_key v.key k
unfolding sees same_key ◌and◌
sees_all k l v h = rw (le-leb v.seq l h)

module _ (k : Key) (l : ℕ) where
  -- the newest sequence, where the first of the key is v
  pub newest_first : (v : Version) (vs : List Version) → v.seq ≤ l → sees k l v ≡ true → sorted (v ∷ vs) ≡ true → newest (v ∷ vs) k ≡ v.seq
  unfolding newest
  newest_first v vs h e o =
      let f : same_key v.key k ≡ true = sym (sees_all k l v h) ∙ e in
      rw f (max-eq_left (newest_below k v vs (same_is v.key k f) (all_after v vs o)))

  pub newest_other : (v : Version) (vs : List Version) → v.seq ≤ l → sees k l v ≡ false → newest (v ∷ vs) k ≡ newest vs k
  unfolding newest
  newest_other v vs h e = rw (sym (sees_all k l v h) ∙ e)

-- THE FIRST IS THE HIGHEST. Each version of us that the read sees has a sequence below n
abbrev pub SeenBelow : Key → ℕ → ℕ → List Version → Type 0
SeenBelow k s n [] = Unit {0}
SeenBelow k s n (u ∷ us) = (sees k s u ≡ true → u.seq < n) × SeenBelow k s n us

seen_key : (k : Key) (s : ℕ) (v : Version) → sees k s v ≡ true → v.key ≡ k
unfolding sees same_key
seen_key k s v e = same_is v.key k (and_right _ _ e)

pub first_is_highest : (k : Key) (s : ℕ) (v : Version) (us : List Version) → sees k s v ≡ true → After v us → SeenBelow k s v.seq us
first_is_highest k s v [] e a = tt
first_is_highest k s v (u ∷ us) e a = (
  (λ f. precedes_higher v.key v.seq u.seq (subst (λ (x : Key). Precedes v.key v.seq x u.seq) (seen_key k s u f ∙ sym (seen_key k s v e)) a.0)),
  first_is_highest k s v us e a.1,
)

-- THE TABLE. The table of a store is ascending, whatever its versions.
pub ascending_table : (vs : List Version) → Ascending (table vs)
unfolding table
ascending_table [] = tt
ascending_table (v ∷ vs) = ascending_update v.key v.value (table vs) (ascending_table vs)

-- no sequence is above s
abbrev pub SeqsIn : ℕ → List Version → Type 0
SeqsIn s [] = Unit {0}
SeqsIn s (v ∷ vs) = (v.seq ≤ s) × SeqsIn s vs

pub seqs_up : (s l : ℕ) (vs : List Version) → s ≤ l → SeqsIn s vs → SeqsIn l vs
seqs_up s l [] h b = tt
seqs_up s l (v ∷ vs) h b = (omega (arith, b.0), seqs_up s l vs h b.1)

pub newest_bound : (s : ℕ) (vs : List Version) → SeqsIn s vs → (k : Key) → newest vs k ≤ s
unfolding newest
newest_bound s [] b k = omega arith
newest_bound s (v ∷ vs) b k = go (same_key v.key k) (newest_bound s vs b.1 k)
  where
    go : (t : Bool) → newest vs k ≤ s → cond t (max v.seq (newest vs k)) (newest vs k) ≤ s
    go true h = omega (arith, b.0)
    go false h = h

-- A read at the last sequence is a look into the table.
pub read_last : (s : ℕ) (vs : List Version) → SeqsIn s vs → (k : Key) → read_at s vs k ≡ find (table vs) k
unfolding read_at table find sees same_key ◌and◌
read_last s [] b k = refl
read_last s (v ∷ vs) b k =
    rw (find_update v.key v.value (table vs) (ascending_table vs) k, le-leb v.seq s b.0) (ap (λ (x : Option Value). cond (same_key v.key k) v.value x) (read_last s vs b.1 k))

-- A version with a higher sequence goes in front of those of the same key: its key alone decides.
pub before_newer : (u v : Version) → u.seq < v.seq → before u v ≡ is_less (compare_keys u.key v.key)
unfolding order_of order_of_versions
before_newer u v h = rw (le-ltb v.seq u.seq (le_of_lt h), lt-ltb u.seq v.seq h) (go (compare_keys u.key v.key))
  where
    go : (o : Ordering) → is_less (then_by o Greater) ≡ is_less o
    go Less = refl
    go Equal = refl
    go Greater = refl

-- so it updates the table
pub table_insert : (s : ℕ) (v : Version) (vs : List Version) → SeqsIn s vs → s < v.seq → table (insert v vs) ≡ update v.key v.value (table vs)
unfolding insert table
table_insert s v [] b h = refl
table_insert s v (u ∷ vs) b h = go (compare_keys u.key v.key) refl (table_insert s v vs b.1 h)
  where
    earlier : (o : Ordering) → compare_keys u.key v.key ≡ o → before u v ≡ is_less o
    earlier o p = before_newer u v (omega (arith, b.0)) ∙ ap is_less p

    go : (o : Ordering) → compare_keys u.key v.key ≡ o → table (insert v vs) ≡ update v.key v.value (table vs)
        → table (insert v (u ∷ vs)) ≡ update v.key v.value (update u.key u.value (table vs))
    go Less p ih =
        rw (earlier Less p, insert) (rw ih (update_swap u.key v.key u.value v.value (table vs) (ascending_table vs) (same_less u.key v.key p)))
    go Equal p ih = rw (earlier Equal p, insert)
    go Greater p ih = rw (earlier Greater p, insert)

pub seqs_insert : (s : ℕ) (v : Version) (vs : List Version) → v.seq ≤ s → SeqsIn s vs → SeqsIn s (insert v vs)
unfolding insert
seqs_insert s v [] h b = (h, tt)
seqs_insert s v (u ∷ vs) h b = go (before u v) refl (seqs_insert s v vs h b.1)
  where
    go : (t : Bool) → before u v ≡ t → SeqsIn s (insert v vs) → SeqsIn s (insert v (u ∷ vs))
    go true p ih = rw (p, insert) (b.0, ih)
    go false p ih = rw (p, insert) (h, b)

pub length_insert : (v : Version) (vs : List Version) → length (insert v vs) ≡ suc (length vs)
unfolding insert
length_insert v [] = refl
length_insert v (u ∷ vs) = go (before u v) refl (length_insert v vs)
  where
    go : (t : Bool) → before u v ≡ t → length (insert v vs) ≡ suc (length vs) → length (insert v (u ∷ vs)) ≡ suc (suc (length vs))
    go true p ih = rw (p, insert) (ap suc ih)
    go false p ih = rw (p, insert)

pub size_insert : (v : Version) (vs : List Version) → versions_size (insert v vs) ≡ size_of v.key v.value + versions_size vs
unfolding insert versions_size
size_insert v [] = refl
size_insert v (u ∷ vs) = go (before u v) refl (size_insert v vs)
  where
    go : (t : Bool) → before u v ≡ t → versions_size (insert v vs) ≡ size_of v.key v.value + versions_size vs
        → versions_size (insert v (u ∷ vs)) ≡ size_of v.key v.value + (size_of u.key u.value + versions_size vs)
    go true p ih = rw (p, insert) (omega (arith, ih))
    go false p ih = rw (p, insert)

-- a new version, whose sequence is above all, keeps the order
turn_before : (x v : Version) → x.seq < v.seq → before x v ≡ false → before v x ≡ true
unfolding order_of
turn_before x v h e = ap is_less (versions_turned x.key x.seq v.key v.seq) ∙ go _ (versions_differ x.key x.seq v.key v.seq h) e
  where
    go : (o : Ordering) → (o ≡ Equal → ⊥) → is_less o ≡ false → is_less (turned o) ≡ true
    go Less n q = sym q
    go Equal n q = absurd (n refl)
    go Greater n q = refl

sorted_after_insert : (v u : Version) (l : ℕ) (us : List Version) → sorted_after u us ≡ true → before u v ≡ true → SeqsIn l us → l < v.seq → sorted_after u (insert v us) ≡ true
unfolding sorted_after insert ◌and◌
sorted_after_insert v u l [] o p s h = rw p
sorted_after_insert v u l (x ∷ us) o p s h = go (before x v) refl (λ q. sorted_after_insert v x l us (and_right (before u x) (sorted_after x us) o) q s.1 h)
  where
    go : (t : Bool) → before x v ≡ t → (before x v ≡ true → sorted_after x (insert v us) ≡ true) → sorted_after u (insert v (x ∷ us)) ≡ true
    go true q ih = rw (q, insert) (rw (and_left (before u x) (sorted_after x us) o) (ih q))
    go false q ih = rw (q, insert) (rw (p, turn_before x v (omega (arith, s.0)) q) (and_right (before u x) (sorted_after x us) o))

pub sorted_insert : (v : Version) (l : ℕ) (vs : List Version) → sorted vs ≡ true → SeqsIn l vs → l < v.seq → sorted (insert v vs) ≡ true
unfolding sorted_after insert ◌and◌
sorted_insert v l [] o s h = refl
sorted_insert v l (u ∷ us) o s h = go (before u v) refl
  where
    go : (t : Bool) → before u v ≡ t → sorted (insert v (u ∷ us)) ≡ true
    go true q = rw (q, insert) (sorted_after_insert v u l us o q s.1 h)
    go false q = rw (q, insert) (rw (turn_before u v (omega (arith, s.0)) q) o)

-- What holds of every valid store: no sequence above the last, versions in order, counts within the capacities.
pub record Sound (st : Store) : Type 0 where
  pub seqs : SeqsIn st.last st.versions
  pub order : sorted st.versions ≡ true
  pub counted : length st.versions ≤ st.most_versions
  pub sized : versions_size st.versions ≤ st.most_bytes

-- writes fit
pub record Room (ws : List Write) (st : Store) : Type 0 where
  pub counts : length st.versions + length ws ≤ st.most_versions
  pub sizes : versions_size st.versions + writes_size ws ≤ st.most_bytes

new_version : Write → Store → Version
new_version w st = record { key = w.0; seq = suc st.last; value = w.1 }

-- What a list of writes adds.
pub commit_count : (ws : List Write) (st : Store) → length (commit ws st).versions ≡ length st.versions + length ws
unfolding commit commit_one new_version
commit_count [] st = omega arith
commit_count (w ∷ ws) st = let n = length_insert (new_version w st) st.versions in omega (arith, commit_count ws (commit_one w st))

pub commit_size : (ws : List Write) (st : Store) → versions_size (commit ws st).versions ≡ versions_size st.versions + writes_size ws
unfolding commit commit_one writes_size new_version
commit_size [] st = omega arith
commit_size (w ∷ ws) st = let n = size_insert (new_version w st) st.versions in omega (arith, commit_size ws (commit_one w st))

pub commit_last : (ws : List Write) (st : Store) → (commit ws st).last ≡ st.last + length ws
unfolding commit commit_one
commit_last [] st = omega arith
commit_last (w ∷ ws) st = omega (arith, commit_last ws (commit_one w st))

room_one : (w : Write) (ws : List Write) (st : Store) → Room (w ∷ ws) st → Room ws (commit_one w st)
unfolding commit_one writes_size new_version
room_one w ws st r =
    let n = length_insert (new_version w st) st.versions in
    let z = size_insert (new_version w st) st.versions in
    record { counts = omega (arith, r.counts); sizes = omega (arith, r.sizes) }

pub sound_one : (w : Write) (ws : List Write) (st : Store) → Room (w ∷ ws) st → Sound st → Sound (commit_one w st)
unfolding commit_one writes_size new_version
sound_one w ws st r h =
    let next = suc st.last in
    let v = new_version w st in
    let n = length_insert v st.versions in
    let z = size_insert v st.versions in
    record {
      seqs = seqs_insert next v st.versions (omega arith) (seqs_up st.last next st.versions (omega arith) h.seqs);
      order = sorted_insert v st.last st.versions h.order h.seqs (omega arith);
      counted = omega (arith, r.counts);
      sized = omega (arith, r.sizes);
    }

pub sound_commit : (ws : List Write) (st : Store) → Room ws st → Sound st → Sound (commit ws st)
unfolding commit
sound_commit [] st r h = h
sound_commit (w ∷ ws) st r h = sound_commit ws (commit_one w st) (room_one w ws st r) (sound_one w ws st r h)

-- What is committed is written to the table, in order.
pub table_commit : (ws : List Write) (st : Store) → SeqsIn st.last st.versions → table (commit ws st).versions ≡ write_all ws (table st.versions)
unfolding commit commit_one write_all new_version
table_commit [] st s = refl
table_commit (w ∷ ws) st s =
    let next = suc st.last in
    let v = new_version w st in
    table_commit ws (commit_one w st) (seqs_insert next v st.versions (omega arith) (seqs_up st.last next st.versions (omega arith) s))
    ∙ ap (write_all ws) (table_insert st.last v st.versions s (omega arith))

-- A commit never lowers a newest sequence, nor the last, and keeps the capacities.
pub moved_above : (s : ℕ) (vs : List Version) (k : Key) → moved s vs k ≡ true → s < newest vs k
unfolding moved
moved_above s vs k e = ltb-true s (newest vs k) e

pub above_moved : (s : ℕ) (vs : List Version) (k : Key) → s < newest vs k → moved s vs k ≡ true
unfolding moved
above_moved s vs k h = lt-ltb s (newest vs k) h

newest_insert : (v : Version) (vs : List Version) (k : Key) → newest vs k ≤ newest (insert v vs) k
unfolding insert newest
newest_insert v [] k = omega arith
newest_insert v (u ∷ vs) k = go (before u v) refl (newest_insert v vs k)
  where
    more : (b : Bool) (n : ℕ) → n ≤ cond b (max v.seq n) n
    more true n = omega arith
    more false n = omega arith

    grow : (b : Bool) (m n : ℕ) → m ≤ n → cond b (max u.seq m) m ≤ cond b (max u.seq n) n
    grow true m n h = omega arith
    grow false m n h = h

    go : (t : Bool) → before u v ≡ t → newest vs k ≤ newest (insert v vs) k → newest (u ∷ vs) k ≤ newest (insert v (u ∷ vs)) k
    go true p ih = rw (p, insert) (grow (same_key u.key k) (newest vs k) (newest (insert v vs) k) ih)
    go false p ih = rw (p, insert) (more (same_key v.key k) (newest (u ∷ vs) k))

-- one store follows another: nothing has gone back
pub record Later (earlier later : Store) : Type 0 where
  pub lasts : earlier.last ≤ later.last
  pub newests : (k : Key) → newest earlier.versions k ≤ newest later.versions k
  pub most_versions : later.most_versions ≡ earlier.most_versions
  pub most_bytes : later.most_bytes ≡ earlier.most_bytes

pub later_refl : (st : Store) → Later st st
later_refl st = record { lasts = omega arith; newests = λ k. omega arith; most_versions = refl; most_bytes = refl }

pub later_trans : {a b c : Store} → Later a b → Later b c → Later a c
later_trans p q = record {
  lasts = omega (arith, p.lasts, q.lasts);
  newests = λ k. omega (arith, p.newests k, q.newests k);
  most_versions = q.most_versions ∙ p.most_versions;
  most_bytes = q.most_bytes ∙ p.most_bytes;
}

later_one : (w : Write) (st : Store) → Later st (commit_one w st)
unfolding commit_one
later_one w st = record {
  lasts = omega arith;
  newests = λ k. newest_insert (record { key = w.0; seq = suc st.last; value = w.1 }) st.versions k;
  most_versions = refl;
  most_bytes = refl;
}

pub later_commit : (ws : List Write) (st : Store) → Later st (commit ws st)
unfolding commit
later_commit [] st = later_refl st
later_commit (w ∷ ws) st = later_trans (later_one w st) (later_commit ws (commit_one w st))
