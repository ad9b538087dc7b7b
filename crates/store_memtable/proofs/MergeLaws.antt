-- Writes of ascending keys, committed from the last to the first: each goes to its place in what is left of the front, and what lies
-- behind that place is done. So one backward pass over the versions commits them all. Assumes nothing.
use mathlib.Core.Path.{◌≡◌, refl, sym, ap, ◌∙◌}
use mathlib.Core.Logic.{inl}
use mathlib.Core.Bool.{Bool, true, false, false≢true}
use mathlib.Core.List.{List, [], ◌∷◌, ◌++◌, append_assoc}
use Prim.Native.Nat.{ℕ, suc, ◌+◌}
use native.Mathlib.Omega.{arith}
use lib.ListN.{length, take, drop, take-append-drop}
use Rattle.base_key.specs.Keys.{Key, compare_keys, is_less}
use Rattle.base_key.proofs.Keys.{precedes, precedes_back, precedes_trans, less_is}
use Rattle.store_memtable.specs.Table.{Write, Above, Ascending}
use Rattle.store_memtable.specs.Versions.{Version, Store, insert, order_of, before, commit_one, commit}
use Rattle.store_memtable.specs.Rows.{order_with, place_of, count_on}
use Rattle.std.specs.declared.cmp.Ordering.TheVariants.{Less}

-- the versions of writes, whose sequences follow l
pub fresh : ℕ → List Write → List Version
fresh l [] = []
fresh l (wr ∷ ws) = record { key = wr.0; seq = suc l; value = wr.1 } ∷ fresh (suc l) ws

pub insert_all : List Version → List Version → List Version
insert_all [] vs = vs
insert_all (v ∷ news) vs = insert_all news (insert v vs)

pub commit_versions : (ws : List Write) (st : Store) → (commit ws st).versions ≡ insert_all (fresh st.last ws) st.versions
unfolding commit commit_one insert_all fresh
commit_versions [] st = refl
commit_versions (wr ∷ ws) st = commit_versions ws (commit_one wr st)

pub merge_none : (l : ℕ) (vs : List Version) → insert_all (fresh l []) vs ≡ vs
unfolding insert_all fresh
merge_none l vs = refl

insert_all_more : (news : List Version) (v : Version) (vs : List Version) → insert_all (news ++ (v ∷ [])) vs ≡ insert v (insert_all news vs)
unfolding insert_all
insert_all_more [] v vs = refl
insert_all_more (n ∷ news) v vs = insert_all_more news v (insert n vs)

-- each of vs comes before v
abbrev pub AllBefore : Version → List Version → Type 0
AllBefore v [] = Unit {0}
AllBefore v (x ∷ vs) = (before x v ≡ true) × AllBefore v vs

-- the first of vs does not
abbrev pub NoneFirst : Version → List Version → Type 0
NoneFirst v [] = Unit {0}
NoneFirst v (x ∷ vs) = before x v ≡ false

before_trans : (x n v : Version) → before x n ≡ true → before n v ≡ true → before x v ≡ true
unfolding order_of
before_trans x n v p q =
    ap is_less (precedes_back x.key x.seq v.key v.seq
    (precedes_trans (precedes x.key x.seq n.key n.seq (less_is _ p)) (precedes n.key n.seq v.key v.seq (less_is _ q))))

none_earlier : (n v : Version) (vs : List Version) → before n v ≡ true → NoneFirst v vs → NoneFirst n vs
none_earlier n v [] p h = tt
none_earlier n v (x ∷ vs) p h = go (before x n) refl
  where
    go : (t : Bool) → before x n ≡ t → t ≡ false
    go true e = absurd (false≢true (sym h ∙ before_trans x n v e p))
    go false e = refl

insert_front : (n : Version) (front back : List Version) → NoneFirst n back → insert n (front ++ back) ≡ insert n front ++ back
unfolding insert
insert_front n [] [] h = refl
insert_front n [] (x ∷ back) h = ap (λ (t : Bool). elim t [ true ↦ x ∷ insert n back | false ↦ n ∷ x ∷ back ]) h
insert_front n (x ∷ front) back h = go (before x n) (insert_front n front back h)
  where
    go : (t : Bool) → insert n (front ++ back) ≡ insert n front ++ back
        → (elim t [ true ↦ x ∷ insert n (front ++ back) | false ↦ n ∷ x ∷ (front ++ back) ])
        ≡ (elim t [ true ↦ x ∷ insert n front | false ↦ n ∷ x ∷ front ]) ++ back
    go true e = ap (λ (r : List Version). x ∷ r) e
    go false e = refl

insert_all_front : (v : Version) (news front back : List Version) → AllBefore v news → NoneFirst v back → insert_all news (front ++ back) ≡ insert_all news front ++ back
unfolding insert_all
insert_all_front v [] front back a h = refl
insert_all_front v (n ∷ news) front back a h =
    ap (insert_all news) (insert_front n front back (none_earlier n v back a.0 h)) ∙ insert_all_front v news (insert n front) back a.1 h

insert_last : (v : Version) (front back : List Version) → AllBefore v front → NoneFirst v back → insert v (front ++ back) ≡ front ++ (v ∷ back)
unfolding insert
insert_last v [] [] a h = refl
insert_last v [] (x ∷ back) a h = ap (λ (t : Bool). elim t [ true ↦ x ∷ insert v back | false ↦ v ∷ x ∷ back ]) h
insert_last v (x ∷ front) back a h =
    ap (λ (t : Bool). elim t [ true ↦ x ∷ insert v (front ++ back) | false ↦ v ∷ x ∷ (front ++ back) ]) a.0
    ∙ ap (λ (r : List Version). x ∷ r) (insert_last v front back a.1 h)

all_insert : (v n : Version) (vs : List Version) → before n v ≡ true → AllBefore v vs → AllBefore v (insert n vs)
unfolding insert
all_insert v n [] p a = (p, tt)
all_insert v n (x ∷ vs) p a = go (before x n) (all_insert v n vs p a.1)
  where
    go : (t : Bool) → AllBefore v (insert n vs) → AllBefore v (elim t [ true ↦ x ∷ insert n vs | false ↦ n ∷ x ∷ vs ])
    go true r = (a.0, r)
    go false r = (p, a)

all_insert_all : (v : Version) (news vs : List Version) → AllBefore v news → AllBefore v vs → AllBefore v (insert_all news vs)
unfolding insert_all
all_insert_all v [] vs a h = h
all_insert_all v (n ∷ news) vs a h = all_insert_all v news (insert n vs) a.1 (all_insert v n vs a.0 h)

-- what lies before the place of a version, and behind it
abbrev pub place_for : Version → List Version → ℕ
place_for v vs = place_of v.key v.seq vs

place_front : (v : Version) (vs : List Version) → AllBefore v (take (place_for v vs) vs)
unfolding place_of order_with order_of
place_front v [] = tt
place_front v (x ∷ vs) = go (is_less (order_with v.key v.seq x)) refl (place_front v vs)
  where
    go : (t : Bool) → is_less (order_with v.key v.seq x) ≡ t → AllBefore v (take (place_for v vs) vs) → AllBefore v (take (count_on t (place_for v vs)) (x ∷ vs))
    go true e r = (e, r)
    go false e r = tt

place_back : (v : Version) (vs : List Version) → NoneFirst v (drop (place_for v vs) vs)
unfolding place_of order_with order_of
place_back v [] = tt
place_back v (x ∷ vs) = go (is_less (order_with v.key v.seq x)) refl (place_back v vs)
  where
    go : (t : Bool) → is_less (order_with v.key v.seq x) ≡ t → NoneFirst v (drop (place_for v vs) vs) → NoneFirst v (drop (count_on t (place_for v vs)) (x ∷ vs))
    go true e r = r
    go false e r = e

-- THE STEP of the pass: `vs` is what is left of the front, `done` what lies behind, v the last of the new versions that are left
pub merge_step : (news : List Version) (v : Version) (vs done : List Version) → AllBefore v news
    → insert_all (news ++ (v ∷ [])) vs ++ done ≡ insert_all news (take (place_for v vs) vs) ++ (v ∷ (drop (place_for v vs) vs ++ done))
merge_step news v vs done a =
    let p : ℕ = place_for v vs in
    let front : List Version = take p vs in
    let back : List Version = drop p vs in
    ap (λ (r : List Version). r ++ done)
    (insert_all_more news v vs
    ∙ ap (λ (r : List Version). insert v (insert_all news r)) (sym (take-append-drop p vs))
    ∙ ap (insert v) (insert_all_front v news front back a (place_back v vs))
    ∙ insert_last v (insert_all news front) back (all_insert_all v news front a (place_front v vs)) (place_back v vs))
    ∙ append_assoc (insert_all news front) (v ∷ back) done

-- each key of the writes is below k
abbrev pub KeysBelow : Key → List Write → Type 0
KeysBelow k [] = Unit {0}
KeysBelow k (wr ∷ ws) = (compare_keys wr.0 k ≡ Less) × KeysBelow k ws

pub fresh_before : (l : ℕ) (ws : List Write) (v : Version) → KeysBelow v.key ws → AllBefore v (fresh l ws)
unfolding fresh order_of
fresh_before l [] v h = tt
fresh_before l (wr ∷ ws) v h = (ap is_less (precedes_back wr.0 (suc l) v.key v.seq (inl h.0)), fresh_before (suc l) ws v h.1)

-- the last of the writes gets the last sequence
pub fresh_more : (l : ℕ) (ws : List Write) (wr : Write) {s : ℕ} → s ≡ l + suc (length ws) → fresh l (ws ++ (wr ∷ [])) ≡ fresh l ws ++ (record { key = wr.0; seq = s; value = wr.1 } ∷ [])
unfolding fresh
fresh_more l [] wr {s} e = let q : suc l ≡ s = omega arith in ap (λ (x : ℕ). record { key = wr.0; seq = x; value = wr.1 } ∷ []) q
fresh_more l (x ∷ ws) wr {s} e = ap (λ (r : List Version). record { key = x.0; seq = suc l; value = x.1 } ∷ r) (fresh_more (suc l) ws wr {s = s} (omega arith))

-- of ascending writes the last has the highest key
above_last : (k : Key) (ws : List Write) (wr : Write) → Above k (ws ++ (wr ∷ [])) → compare_keys k wr.0 ≡ Less
above_last k [] wr a = a.0
above_last k (x ∷ ws) wr a = above_last k ws wr a.1

pub ascending_last : (ws : List Write) (wr : Write) → Ascending (ws ++ (wr ∷ [])) → KeysBelow wr.0 ws
ascending_last [] wr a = tt
ascending_last (x ∷ ws) wr a = (above_last x.0 ws wr a.0, ascending_last ws wr a.1)

above_front : (k : Key) (ws : List Write) (wr : Write) → Above k (ws ++ (wr ∷ [])) → Above k ws
above_front k [] wr a = tt
above_front k (x ∷ ws) wr a = (a.0, above_front k ws wr a.1)

pub ascending_front : (ws : List Write) (wr : Write) → Ascending (ws ++ (wr ∷ [])) → Ascending ws
ascending_front [] wr a = tt
ascending_front (x ∷ ws) wr a = (above_front x.0 ws wr a.0, ascending_front ws wr a.1)
