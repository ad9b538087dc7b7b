-- A key that an earlier accepted member wrote is one with a version above the last sequence when the group began. Assumes nothing.
use Prim.Native.Nat.{ℕ, suc, ◌≤◌, max}
use native.Mathlib.Omega.{arith}
use mathlib.Core.Path.{◌≡◌, refl, sym, ap, ◌∙◌}
use mathlib.Core.Bool.{Bool, true, false, cond, ◌||◌}
use mathlib.Core.List.{List, [], ◌∷◌, ◌++◌}
use Rattle.std.specs.Prelude.{Option, None, Some}
use lib.Dec.{ltb}
use borrow.Author.Tests.{lt-ltb, le-ltb, ltb-true, ltb-false}
use Rattle.base_key.specs.Keys.{Key, same_key}
use Rattle.base_key.proofs.Bytes.{or_swap}
use Rattle.store_memtable.specs.Table.{Write, keys_of}
use Rattle.store_memtable.specs.Versions.{Version, Store, before, newest, moved, insert, commit_one, commit}
use Rattle.store_memtable.proofs.VersionLaws.{Sound, newest_bound}
use Rattle.group_spec.specs.declared.Verdict.{Verdict}
use Rattle.group_spec.specs.declared.Verdict.TheVariants.{Accepted, Conflict, NoRoom, NoSequence, NotTaken}
use Rattle.group_spec.specs.Group.{Pending, any_key, among, held_keys, conflicts, has_room, has_sequences, judge, written_after, store_after}
use Rattle.group_spec.specs.Settling.{lower, moved_since, judge_since}
use Rattle.group_spec.proofs.KeyLists.{among_append, any_alike}

-- the newest sequence after an insertion
newest_insert_is : (v : Version) (vs : List Version) (k : Key) → newest (insert v vs) k ≡ cond (same_key v.key k) (max v.seq (newest vs k)) (newest vs k)
unfolding insert newest
newest_insert_is v [] k = refl
newest_insert_is v (u ∷ vs) k = go (before u v) refl (newest_insert_is v vs k)
  where
    swap : (a b : Bool) (n : ℕ) → cond a (max u.seq (cond b (max v.seq n) n)) (cond b (max v.seq n) n) ≡ cond b (max v.seq (cond a (max u.seq n) n)) (cond a (max u.seq n) n)
    swap true true n = omega arith
    swap true false n = refl
    swap false b n = refl

    go : (t : Bool) → before u v ≡ t → newest (insert v vs) k ≡ cond (same_key v.key k) (max v.seq (newest vs k)) (newest vs k)
        → newest (insert v (u ∷ vs)) k ≡ cond (same_key v.key k) (max v.seq (newest (u ∷ vs) k)) (newest (u ∷ vs) k)
    go true p ih = rw (p, insert) (rw ih (swap (same_key u.key k) (same_key v.key k) (newest vs k)))
    go false p ih = rw (p, insert)

-- `written` are the keys with a version above `began`
pub record Marked (began : ℕ) (written : List Key) (st : Store) : Type 0 where
  pub low : began ≤ st.last
  pub marks : (k : Key) → moved began st.versions k ≡ among written k

-- when the group begins
pub marked_first : (st : Store) → Sound st → Marked st.last [] st
unfolding moved any_key
marked_first st s = record { low = omega arith; marks = λ k. le-ltb st.last (newest st.versions k) (newest_bound st.last st.versions s.seqs k) }

marked_one : (began : ℕ) (written : List Key) (wr : Write) (st : Store) → Marked began written st → Marked began (wr.0 ∷ written) (commit_one wr st)
unfolding moved any_key commit_one
marked_one began written wr st p = record { low = omega (arith, p.low); marks = λ k. here k (same_key wr.0 k) refl }
  where
    here : (k : Key) (t : Bool) → same_key wr.0 k ≡ t → ltb began (newest (insert (record { key = wr.0; seq = suc st.last; value = wr.1 }) st.versions) k) ≡ (same_key wr.0 k || among written k)
    here k true e = rw (newest_insert_is (record { key = wr.0; seq = suc st.last; value = wr.1 }) st.versions k, e) (lt-ltb began (max (suc st.last) (newest st.versions k)) (omega (arith, p.low)))
    here k false e = rw (newest_insert_is (record { key = wr.0; seq = suc st.last; value = wr.1 }) st.versions k, e) (p.marks k)

-- a key in front of the others, or among them
among_front : (x : Key) (ks written : List Key) (k : Key) → among (ks ++ (x ∷ written)) k ≡ among (x ∷ (ks ++ written)) k
unfolding any_key
among_front x ks written k =
    among_append ks (x ∷ written) k ∙ or_swap (among ks k) (same_key x k) (among written k) ∙ ap (λ (b : Bool). same_key x k || b) (sym (among_append ks written k))

pub marked_commit : (began : ℕ) (written : List Key) (ws : List Write) (st : Store) → Marked began written st → Marked began (keys_of ws ++ written) (commit ws st)
unfolding commit
marked_commit began written [] st p = p
marked_commit began written (wr ∷ ws) st p =
    let q = marked_commit began (wr.0 ∷ written) ws (commit_one wr st) (marked_one began written wr st p) in
    record { low = q.low; marks = λ k. q.marks k ∙ among_front wr.0 (keys_of ws) written k }

-- and after each member
pub marked_after_lem : (began : ℕ) (written : List Key) (v : Verdict) (m : Pending) (st : Store) → Marked began written st
    → Marked began (written_after v m written) (store_after v m.writes st)
unfolding written_after store_after
marked_after_lem began written Accepted m st p = marked_commit began written m.writes st p
marked_after_lem began written Conflict m st p = p
marked_after_lem began written NoRoom m st p = p
marked_after_lem began written NoSequence m st p = p
marked_after_lem began written NotTaken m st p = p

-- above the lower of two is above one of them
lower_either : (s began n : ℕ) → ltb (lower s began) n ≡ (ltb began n || ltb s n)
lower_either s began n = go (ltb s began) refl (ltb began n) refl
  where
    go : (a : Bool) → ltb s began ≡ a → (b : Bool) → ltb began n ≡ b → ltb (cond a s began) n ≡ (b || ltb s n)
    go true p true q = lt-ltb s n (omega (arith, ltb-true s began p, ltb-true began n q))
    go true p false q = refl
    go false p true q = q
    go false p false q = q ∙ sym (le-ltb s n (omega (arith, ltb-false s began p, ltb-false began n q)))

-- so conflicts need no list of written keys
conflicts_since : (began : ℕ) (written : List Key) (st : Store) → Marked began written st → (r : Option ℕ) (ks : List Key)
    → moved_since r began st.versions ks ≡ conflicts r written st.versions ks
unfolding moved_since conflicts moved
conflicts_since began written st p None ks = refl
conflicts_since began written st p (Some s) ks =
    any_alike (λ k. ltb (lower s began) (newest st.versions k)) (λ k. among written k || ltb s (newest st.versions k)) ks
    (λ k. lower_either s began (newest st.versions k) ∙ ap (λ (b : Bool). b || ltb s (newest st.versions k)) (p.marks k))

-- THE VERDICT of the code is the verdict of the definitions
pub judge_since_lem : (began : ℕ) (written : List Key) (st : Store) (m : Pending) → Marked began written st → judge_since began st m ≡ judge written st m
unfolding judge_since judge
judge_since_lem began written st m p =
    ap (λ (b : Bool). cond b Conflict (cond (has_room st m.writes) (cond (has_sequences st m.writes) Accepted NoSequence) NoRoom))
    (conflicts_since began written st p m.read_seq (held_keys m))
