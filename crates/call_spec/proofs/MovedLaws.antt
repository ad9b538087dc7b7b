-- A key that posting writes has moved: its newest version is above the last sequence before. Every other key keeps its newest version.
use Prim.Native.Nat.{ℕ, suc, max, ◌≤◌, ◌<◌}
use native.Mathlib.Omega.{arith}
use mathlib.Core.Bool.{Bool, true, false, cond, ◌||◌, false≢true}
use mathlib.Core.List.{List, [], ◌∷◌}
use mathlib.Core.Path.{◌≡◌, refl, sym, ap, ◌∙◌}
use lib.Dec.{ltb}
use Rattle.base_key.specs.Keys.{Key, same_key}
use Rattle.base_key.proofs.Bytes.{or_cases}
use Rattle.store_memtable.specs.Table.{Write, Table, keys_of}
use Rattle.store_memtable.specs.Versions.{Version, Store, before, newest, moved, insert, commit_one, commit}
use Rattle.store_memtable.proofs.VersionLaws.{Later, later_commit, above_moved, moved_above}
use Rattle.group_spec.specs.Group.{any_key, among}
use Rattle.group_spec.proofs.KeyLists.{among_append}
use Rattle.call_spec.specs.Posting.{Item, post}
use Rattle.call_spec.specs.Verdicts.{item_keys, written_in}

-- a version put in is at most the newest of its key
newest_has : (v : Version) (vs : List Version) (k : Key) → same_key v.key k ≡ true → v.seq ≤ newest (insert v vs) k
unfolding insert newest
newest_has v [] k e = rw e (omega arith)
newest_has v (u ∷ vs) k e = go (before u v) refl (newest_has v vs k e)
  where
    grow : (b : Bool) (m n : ℕ) → m ≤ n → m ≤ cond b (max u.seq n) n
    grow true m n h = omega arith
    grow false m n h = h

    go : (t : Bool) → before u v ≡ t → v.seq ≤ newest (insert v vs) k → v.seq ≤ newest (insert v (u ∷ vs)) k
    go true p ih = rw (p, insert) (grow (same_key u.key k) v.seq (newest (insert v vs) k) ih)
    go false p ih = rw (p, insert) (rw e (omega arith))

pub newest_commit : (ws : List Write) (st : Store) (k : Key) → among (keys_of ws) k ≡ true → st.last < newest (commit ws st).versions k
unfolding commit commit_one any_key
newest_commit [] st k h = absurd (false≢true h)
newest_commit (w ∷ ws) st k h =
    let v : Version = record { key = w.0; seq = suc st.last; value = w.1 } in
    or_cases (same_key w.0 k) (among (keys_of ws) k) h
    (λ e. omega (arith, newest_has v st.versions k e, (later_commit ws (commit_one w st)).newests k))
    (λ e. omega (arith, newest_commit ws (commit_one w st) k e))

pub commit_moves : (ws : List Write) (st : Store) (k : Key) → among (keys_of ws) k ≡ true → moved st.last (commit ws st).versions k ≡ true
commit_moves ws st k h = above_moved st.last (commit ws st).versions k (newest_commit ws st k h)

-- a key that is not written keeps its newest version
newest_keeps : (v : Version) (vs : List Version) (k : Key) → same_key v.key k ≡ false → newest (insert v vs) k ≡ newest vs k
unfolding insert newest
newest_keeps v [] k e = rw e
newest_keeps v (u ∷ vs) k e = go (before u v) refl (newest_keeps v vs k e)
  where
    go : (t : Bool) → before u v ≡ t → newest (insert v vs) k ≡ newest vs k → newest (insert v (u ∷ vs)) k ≡ newest (u ∷ vs) k
    go true p ih = rw (p, insert, ih)
    go false p ih = rw (p, insert, e)

-- two tests of which none holds
pub neither_test : (a b : Bool) → (a || b) ≡ false → (a ≡ false) × (b ≡ false)
neither_test true b e = absurd (false≢true (sym e))
neither_test false b e = (refl, e)

pub commit_keeps : (ws : List Write) (st : Store) (k : Key) → among (keys_of ws) k ≡ false → newest (commit ws st).versions k ≡ newest st.versions k
unfolding commit commit_one any_key
commit_keeps [] st k h = refl
commit_keeps (w ∷ ws) st k h =
    let n = neither_test (same_key w.0 k) (among (keys_of ws) k) h in
    commit_keeps ws (commit_one w st) k n.1 ∙ newest_keeps (record { key = w.0; seq = suc st.last; value = w.1 }) st.versions k n.0

-- WHAT A STEP KEEPS, said for every sequence at or above m: a newest version above m stays, or a newer one takes its place
pub record LaterFrom (m : ℕ) (earlier later : Store) : Type 0 where
  pub lasts : earlier.last ≤ later.last
  pub newests : (k : Key) → m < newest earlier.versions k → newest earlier.versions k ≤ newest later.versions k
  pub most_versions : later.most_versions ≡ earlier.most_versions
  pub most_bytes : later.most_bytes ≡ earlier.most_bytes

-- where nothing has gone back it holds from any sequence on
pub later_from : (m : ℕ) {a b : Store} → Later a b → LaterFrom m a b
later_from m l = record { lasts = l.lasts; newests = λ k h. l.newests k; most_versions = l.most_versions; most_bytes = l.most_bytes }

pub from_trans : (m n : ℕ) {a b c : Store} → m ≤ n → LaterFrom m a b → LaterFrom n b c → LaterFrom n a c
from_trans m n h p q = record {
  lasts = omega (arith, p.lasts, q.lasts);
  newests = λ k x. let y = p.newests k (omega (arith, h, x)) in omega (arith, y, q.newests k (omega (arith, x, y)));
  most_versions = q.most_versions ∙ p.most_versions;
  most_bytes = q.most_bytes ∙ p.most_bytes;
}

-- what has moved since a sequence at or above m stays so in a later store, and counted from an earlier one
pub moved_later : (m a b : ℕ) (st after : Store) (k : Key) → a ≤ b → m ≤ b → LaterFrom m st after → moved b st.versions k ≡ true → moved a after.versions k ≡ true
moved_later m a b st after k h n l e =
    let x = moved_above b st.versions k e in
    above_moved a after.versions k (omega (arith, x, h, l.newests k (omega (arith, x, n))))

-- a key that keeps its newest version has moved as before, whatever the sequence
pub moved_kept : (n : ℕ) (vs us : List Version) (k : Key) → newest us k ≡ newest vs k → moved n us k ≡ moved n vs k
unfolding moved
moved_kept n vs us k e = ap (ltb n) e

-- the keys of a history, item by item
pub no_keys : {A : Type 0} (t : Table) (k : Key) → among (written_in [] t) k ≡ true → A
unfolding written_in any_key
no_keys t k h = absurd (false≢true h)

pub first_keys : {A : Type 0} (x : Item) (xs : List Item) (t : Table) (k : Key) → among (written_in (x ∷ xs) t) k ≡ true
    → (among (item_keys x t) k ≡ true → A) → (among (written_in xs (post x t)) k ≡ true → A) → A
unfolding written_in
first_keys x xs t k h f g = or_cases (among (item_keys x t) k) (among (written_in xs (post x t)) k) (sym (among_append (item_keys x t) (written_in xs (post x t)) k) ∙ h) f g

pub one_item : {A : Type 0} (x : Item) (t : Table) (k : Key) → among (written_in (x ∷ []) t) k ≡ true → (among (item_keys x t) k ≡ true → A) → A
one_item x t k h f = first_keys x [] t k h f (λ e. no_keys (post x t) k e)

pub unwritten : (x : Item) (xs : List Item) (t : Table) (k : Key) → among (written_in (x ∷ xs) t) k ≡ false
    → (among (item_keys x t) k ≡ false) × (among (written_in xs (post x t)) k ≡ false)
unfolding written_in
unwritten x xs t k h = neither_test (among (item_keys x t) k) (among (written_in xs (post x t)) k) (sym (among_append (item_keys x t) (written_in xs (post x t)) k) ∙ h)
