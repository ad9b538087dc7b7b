-- The laws of verdicts and groups: what an accepted member tells, and that a group leaves a sound, later store.
use Prim.Native.Nat.{ℕ, suc, ◌+◌}
use native.Mathlib.Omega.{arith}
use mathlib.Core.List.{List, [], ◌∷◌, ◌++◌, map}
use mathlib.Core.Bool.{Bool, true, false, cond, ◌||◌}
use Rattle.std.specs.Prelude.{Some}
use mathlib.Core.Path.{◌≡◌, refl, ap}
use lib.Dec.{leb}
use lib.ListN.{length, take}
use borrow.Author.Tests.{leb-true}
use Rattle.base_key.specs.Keys.{Key}
use Rattle.base_key.proofs.Bytes.{both_parts, or_right_false}
use Rattle.store_memtable.specs.Table.{Write, keys_of}
use Rattle.store_memtable.specs.Versions.{Store, moved, commit, writes_size, versions_size}
use Rattle.store_memtable.proofs.VersionLaws.{Sound, Room, sound_commit, Later, later_refl, later_trans, later_commit}
use Rattle.group_spec.specs.declared.Verdict.{Verdict}
use Rattle.group_spec.specs.declared.Verdict.TheVariants.{Accepted, Conflict, NoRoom, NoSequence, NotTaken}
use Rattle.group_spec.specs.Group.{Pending, plain, is_accepted, any_key, among, held_keys, conflicts, has_room, has_sequences, judge, written_after, store_after, Finished, judge_all, member_size, taken, group, verdict_alone}
use Rattle.group_spec.proofs.KeyLists.{none_among}

room : (st : Store) (ws : List Write) → has_room st ws ≡ true → Room ws st
unfolding has_room
room st ws e =
    let p = both_parts (leb (length st.versions + length ws) st.most_versions) (leb (versions_size st.versions + writes_size ws) st.most_bytes) e in
    record { counts = leb-true _ _ p.0; sizes = leb-true _ _ p.1 }

-- what a verdict of 0 tells
pub record Accepts (written : List Key) (st : Store) (m : Pending) : Type 0 where
  pub calm : conflicts m.read_seq written st.versions (held_keys m) ≡ false
  pub fits : Room m.writes st

pub accepts : (written : List Key) (st : Store) (m : Pending) → judge written st m ≡ Accepted → Accepts written st m
unfolding judge
accepts written st m e = go (conflicts m.read_seq written st.versions (held_keys m)) refl (has_room st m.writes) refl e
  where
    go : (c : Bool) → conflicts m.read_seq written st.versions (held_keys m) ≡ c → (h : Bool) → has_room st m.writes ≡ h
        → cond c Conflict (cond h (cond (has_sequences st m.writes) Accepted NoSequence) NoRoom) ≡ Accepted → Accepts written st m
    go true p h q e = let z : ◌≡◌ {A = ℕ} 0 1 = cc in absurd (omega arith)
    go false p true q e = record { calm = p; fits = room st m.writes q }
    go false p false q e = let z : ◌≡◌ {A = ℕ} 0 1 = cc in absurd (omega arith)

-- writes without a read sequence meet no conflict
pub plain_verdicts : (st : Store) (ws : List Write) (P : Verdict → Type 0) → P Accepted → P NoRoom → P NoSequence → P (verdict_alone st (plain ws))
unfolding verdict_alone judge conflicts
plain_verdicts st ws P a r q = go (has_room st ws) (has_sequences st ws)
  where
    go : (h k : Bool) → P (cond h (cond k Accepted NoSequence) NoRoom)
    go true true = a
    go true false = q
    go false k = r

-- an accepted member read its written and its checked keys as they are now
pub accepted_unmoved : (s : ℕ) (st : Store) (m : Pending) → m.read_seq ≡ Some s → verdict_alone st m ≡ Accepted
    → (k : Key) → among (keys_of m.writes ++ m.also_check) k ≡ true → moved s st.versions k ≡ false
unfolding verdict_alone
accepted_unmoved s st m r e k c =
    let calm : any_key (λ j. among [] j || moved s st.versions j) (held_keys m) ≡ false = quiet (accepts [] st m e).calm in
    or_right_false (among [] k) (moved s st.versions k) (none_among (λ j. among [] j || moved s st.versions j) (held_keys m) k calm c)
  where
    quiet : conflicts m.read_seq [] st.versions (held_keys m) ≡ false → any_key (λ j. among [] j || moved s st.versions j) (held_keys m) ≡ false
    quiet h = unfold conflicts in (rw r at h)

-- a member that is not accepted alters no later verdict, and no store
pub refused_silent : (written : List Key) (m : Pending) (ms : List Pending) (st : Store) → is_accepted (judge written st m) ≡ false
    → judge_all written (m ∷ ms) st ≡ record { verdicts = judge written st m ∷ (judge_all written ms st).verdicts; store = (judge_all written ms st).store }
unfolding judge_all
refused_silent written m ms st e = λ z. beside (unwritten z) (unstored z)
  where
    beside : List Key → Store → Finished
    beside ks x = record { verdicts = judge written st m ∷ (judge_all ks ms x).verdicts; store = (judge_all ks ms x).store }

    unwritten : written_after (judge written st m) m written ≡ written
    unwritten = unfold written_after in rw e

    unstored : store_after (judge written st m) m.writes st ≡ st
    unstored = unfold store_after in rw e

-- the store after a member
pub record After (old new : Store) : Type 0 where
  pub sound : Sound new
  pub later : Later old new

pub after_member : (written : List Key) (st : Store) (m : Pending) → Sound st → After st (store_after (judge written st m) m.writes st)
unfolding store_after
after_member written st m s = go (judge written st m) refl
  where
    stays : After st st
    stays = record { sound = s; later = later_refl st }

    go : (v : Verdict) → judge written st m ≡ v → After st (cond (is_accepted v) (commit m.writes st) st)
    go Accepted e = record { sound = sound_commit m.writes st (accepts written st m e).fits s; later = later_commit m.writes st }
    go Conflict e = stays
    go NoRoom e = stays
    go NoSequence e = stays
    go NotTaken e = stays

pub after_all : (written : List Key) (ms : List Pending) (st : Store) → Sound st → After st (judge_all written ms st).store
unfolding judge_all
after_all written [] st s = record { sound = s; later = later_refl st }
after_all written (m ∷ ms) st s =
    let v = judge written st m in
    let a = after_member written st m s in
    let b = after_all (written_after v m written) ms (store_after v m.writes st) a.sound in
    record { sound = b.sound; later = later_trans a.later b.later }

pub after_group : (ms : List Pending) (st : Store) → Sound st → After st (group ms st).store
unfolding group
after_group ms st s = after_all [] (take (taken (map member_size ms)) ms) st s

-- a verdict for each
pub verdicts_long : (written : List Key) (ms : List Pending) (st : Store) → length (judge_all written ms st).verdicts ≡ length ms
unfolding judge_all
verdicts_long written [] st = refl
verdicts_long written (m ∷ ms) st = ap suc (verdicts_long (written_after (judge written st m) m written) ms (store_after (judge written st m) m.writes st))
