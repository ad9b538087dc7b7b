-- From lent words and bytes to values: what a call leaves is read again as the store and the sessions that it gives, and is valid.
use Prim.Native.Nat.{ℕ, ◌≤◌, ◌<◌}
use native.Mathlib.Omega.{arith}
use mathlib.Core.Logic.{⊎_elim}
use mathlib.Core.List.{List}
use mathlib.Core.Bool.{Bool, true, false, cond}
use mathlib.Core.Path.{◌≡◌, refl, sym, subst}
use lib.Dec.{ltb, eqb}
use borrow.Author.Tests.{lt-ltb, eq-eqb}
use Rattle.base_key.specs.Bytes.{Bytes}
use Rattle.base_key.proofs.Bytes.{and_left, and_right, and_both, neither}
use Rattle.store_memtable.specs.Versions.{Store}
use Rattle.store_memtable.specs.Layout.{valid_store, leave_words, leave_bytes}
use Rattle.store_memtable.proofs.VersionLaws.{Sound}
use Rattle.store_memtable.proofs.LayoutLaws.{store_back, leave_valid, Fits, valid_fits, valid_sound}
use Rattle.command_spec.proofs.SessionLaws.{SessionSound}
use Rattle.command_spec.proofs.LayoutLaws.{Sixteen, sixteen, sixteen_valid, each_sound, own_back, others_back, still_sixteen}
use Rattle.command_spec.specs.Finish.{Served}
use Rattle.call_spec.specs.Serve.{serve, refused, answered}
use Rattle.call_spec.specs.Calls.{Lent, valid, store_of, session_of, leave_store, leave_session, leave_served, request_call}
use Rattle.call_spec.proofs.ServeLaws.{ServeKept, serve_kept}
use Rattle.call_spec.proofs.MovedLaws.{LaterFrom, later_from}

-- what validity tells
pub record Valid (l : Lent) : Type 0 where
  pub sound : Sound (store_of l)
  pub fits : Fits l.words l.bytes (store_of l)
  pub sessions : Sixteen (store_of l).last l.session_words l.session_bytes

pub valid_parts : (l : Lent) → valid l ≡ true → Valid l
unfolding valid
valid_parts l e =
    let v = and_left (valid_store l.words l.bytes) _ e in
    record {
      sound = valid_sound l.words l.bytes v;
      fits = valid_fits l.words l.bytes v;
      sessions = sixteen _ _ _ (and_right (valid_store l.words l.bytes) _ e);
    }

pub session_good : (l : Lent) → Valid l → (i : ℕ) → i < 16 → SessionSound (store_of l).last (session_of i l)
session_good l v i h = each_sound (store_of l).last l.session_words l.session_bytes v.sessions i h

-- a store written back beside valid sessions
pub store_valid : (m : ℕ) (l : Lent) (st : Store) (sw : List ℕ) (sb : Bytes) → Valid l → Sound st → LaterFrom m (store_of l) st → Sixteen st.last sw sb
    → valid (record { words = leave_words st l.words; bytes = leave_bytes st l.bytes; session_words = sw; session_bytes = sb }) ≡ true
unfolding valid
store_valid m l st sw sb v sound g s =
    let f = v.fits in
    and_both _ _ (leave_valid st l.words l.bytes sound (omega (arith, f.words, g.most_versions)) (omega (arith, f.bytes, g.most_bytes)))
    (rw (store_back st l.words l.bytes) (sixteen_valid st.last sw sb s))

-- WHAT A SERVED REQUEST LEAVES.
pub record Leaves (i : ℕ) (l : Lent) (d : Served) (l' : Lent) : Type 0 where
  pub fit : valid l' ≡ true
  pub store : store_of l' ≡ d.store
  pub own : session_of i l' ≡ d.session
  pub others : (j : ℕ) → j < 16 → (j ≡ i → ⊥) → session_of j l' ≡ session_of j l

pub eqb_differs : (a b : ℕ) → eqb a b ≡ false → a ≡ b → ⊥
eqb_differs a b e p = neither (eq-eqb a b p) e

module _ (i : ℕ) (h : i < 16) (l : Lent) (ok : valid l ≡ true) (d : Served) (k : ServeKept (store_of l) (session_of i l) d) where
  v : Valid l
  v = valid_parts l ok

  written : Leaves i l d (leave_store d.store (leave_session i d.session l))
  unfolding leave_store leave_session
  written =
      let last = (store_of l).last in
      let next = d.store.last in
      let sw = l.session_words in
      let sb = l.session_bytes in
      let grown = k.store.later.lasts in
      let g = v.sessions in
      record {
        fit = store_valid 0 l d.store _ _ v k.store.sound (later_from 0 k.store.later) (still_sixteen last sw sb g i h next grown d.session k.session);
        store = store_back d.store l.words l.bytes;
        own = own_back last sw sb g i h next grown d.session k.session;
        others = λ j p n. others_back last sw sb g i h next grown d.session k.session j p n;
      }

  -- 4: the session alone
  session_only : d.store ≡ store_of l → Leaves i l d (leave_session i d.session l)
  unfolding leave_session valid
  session_only e =
      let last = (store_of l).last in
      let sw = l.session_words in
      let sb = l.session_bytes in
      let g = v.sessions in
      let grown : last ≤ last = omega arith in
      let s : SessionSound last d.session = subst (λ (x : Store). SessionSound x.last d.session) e k.session in
      record {
        fit = and_both _ _ (and_left (valid_store l.words l.bytes) _ ok) (sixteen_valid _ _ _ (still_sixteen last sw sb g i h last grown d.session s));
        store = sym e;
        own = own_back last sw sb g i h last grown d.session s;
        others = λ j p n. others_back last sw sb g i h last grown d.session s j p n;
      }

  untouched : d.store ≡ store_of l → d.session ≡ session_of i l → Leaves i l d l
  untouched e f = record { fit = ok; store = sym e; own = sym f; others = λ j p n. refl }

  pub served_leaves : Leaves i l d (leave_served i d l)
  unfolding leave_served
  served_leaves = go (eqb d.number 0) refl (eqb d.number 4) refl
    where
      go : (a : Bool) → eqb d.number 0 ≡ a → (b : Bool) → eqb d.number 4 ≡ b
          → Leaves i l d (cond a (leave_store d.store (leave_session i d.session l)) (cond b (leave_session i d.session l) l))
      go true p b q = written
      go false p true q = session_only (k.numbers (eqb_differs _ _ p)).0
      go false p false q =
          let n = k.numbers (eqb_differs _ _ p) in
          untouched n.0 (⊎_elim (λ (z : d.number ≡ 4). absurd (eqb_differs _ _ q z)) (λ (z : d.session ≡ session_of i l). z) n.1)

-- A REQUEST on valid lent state.
abbrev pub served_by : ℕ → Bytes → ℕ → ℕ → Lent → Served
served_by i input places room l = serve places room input (store_of l) (session_of i l)

pub request_served : (i : ℕ) (input : Bytes) (places room : ℕ) (l : Lent) → i < 16 → valid l ≡ true
    → request_call i input places room l ≡ record { outcome = answered (served_by i input places room l); lent = leave_served i (served_by i input places room l) l }
unfolding request_call
request_served i input places room l h ok = rw (lt-ltb i 16 h, ok, request_call)

pub request_refused : (i : ℕ) (input : Bytes) (places room : ℕ) (l : Lent) → ltb i 16 ≡ false → request_call i input places room l ≡ record { outcome = refused 1; lent = l }
unfolding request_call
request_refused i input places room l h = rw (h, request_call)

pub request_leaves : (i : ℕ) (input : Bytes) (places room : ℕ) (l : Lent) → i < 16 → valid l ≡ true
    → Leaves i l (served_by i input places room l) (leave_served i (served_by i input places room l) l)
request_leaves i input places room l h ok =
    let v = valid_parts l ok in
    served_leaves i h l ok (served_by i input places room l) (serve_kept (store_of l) (session_of i l) v.sound (session_good l v i h) places room input)
