-- Writes committed one after the other: the words and bytes stay the store so far, written back over those of the start. Assumes nothing.
use mathlib.Core.Path.{◌≡◌, sym, ap, ◌∙◌, subst}
use mathlib.Core.List.{List, [], ◌∷◌, ◌++◌}
use Rattle.std.specs.Prelude.{Option}
use Prim.Native.Nat.{ℕ, suc, ◌+◌, ◌≤◌, ◌<◌}
use native.Mathlib.Omega.{arith}
use lib.ListN.{length, drop, take-append-drop}
use Rattle.base_key.specs.Bytes.{over_front}
use Rattle.base_key.specs.Keys.{Key}
use Rattle.store_memtable.specs.Table.{Value, Write}
use Rattle.store_memtable.specs.Versions.{Version, Store, bytes_of, size_of, commit_one, commit, writes_size, versions_size}
use Rattle.store_memtable.specs.Layout.{count_word, used_word, last_word, most_versions_word, most_bytes_word, store_in, leave_words, leave_bytes}
use Rattle.store_memtable.specs.Rows.{RoomForOne, Valid}
use Rattle.store_memtable.proofs.VersionLaws.{Room, length_insert, size_insert, sound_commit, commit_count, commit_size, later_commit}
use Rattle.store_memtable.proofs.Moves.{five}
use Rattle.store_memtable.proofs.Encoding.{encoded, leave_words_lem, versions_size_lem}
use Rattle.store_memtable.proofs.LayoutLaws.{Held, store_back, left_valid, leave_words_again, leave_bytes_again, valid_fits, valid_sound}

-- a valid store, written back over itself, changes nothing
module _ (w b : List ℕ) (v : Valid w b) where
  pub leave_words_same : leave_words (store_in w b) w ≡ w
  unfolding store_in
  leave_words_same =
      let e = encoded w b v.valid in
      leave_words_lem (store_in w b) w
      ∙ (λ z. sym e.counted z ∷ sym e.used_is z ∷ last_word w ∷ most_versions_word w ∷ most_bytes_word w ∷ sym e.table z)
      ∙ ap (λ (x : List ℕ). x ++ drop 5 w) (sym (five w e.head_in))
      ∙ take-append-drop 5 w

  pub leave_bytes_same : leave_bytes (store_in w b) b ≡ b
  unfolding store_in leave_bytes over_front
  leave_bytes_same = sym (encoded w b v.valid).bytes

-- the words w and bytes b are the store st, written back over w₀ and b₀
pub record Holds (st : Store) (w₀ b₀ w b : List ℕ) : Type 0 where
  pub words_are : w ≡ leave_words st w₀
  pub bytes_are : b ≡ leave_bytes st b₀
  pub fits : Held w₀ b₀ st

pub holds_first : (w b : List ℕ) → Valid w b → Holds (store_in w b) w b w b
holds_first w b v = record {
  words_are = sym (leave_words_same w b v);
  bytes_are = sym (leave_bytes_same w b v);
  fits = record { sound = valid_sound w b v.valid; room = valid_fits w b v.valid };
}

module _ {st : Store} {w₀ b₀ w b : List ℕ} (h : Holds st w₀ b₀ w b) where
  pub holds_valid : Valid w b
  holds_valid = subst (λ (x : List ℕ). Valid x b) (sym h.words_are) (subst (λ (y : List ℕ). Valid (leave_words st w₀) y) (sym h.bytes_are) (left_valid st w₀ b₀ h.fits))

  pub holds_store : store_in w b ≡ st
  holds_store = (λ z. store_in (h.words_are z) (h.bytes_are z)) ∙ store_back st w₀ b₀

  -- the header says what the store is
  pub holds_count : count_word w ≡ length st.versions
  holds_count = ap count_word (h.words_are ∙ leave_words_lem st w₀)

  pub holds_used : used_word w ≡ versions_size st.versions
  holds_used = ap used_word (h.words_are ∙ leave_words_lem st w₀) ∙ sym (versions_size_lem st.versions)

  pub holds_last : last_word w ≡ st.last
  holds_last = ap last_word (h.words_are ∙ leave_words_lem st w₀)

  pub holds_most_versions : most_versions_word w ≡ st.most_versions
  holds_most_versions = ap most_versions_word (h.words_are ∙ leave_words_lem st w₀)

  pub holds_most_bytes : most_bytes_word w ≡ st.most_bytes
  holds_most_bytes = ap most_bytes_word (h.words_are ∙ leave_words_lem st w₀)

  -- what a commit of writes leaves
  pub holds_commit : (ws : List Write) {w' b' : List ℕ} → Room ws st → w' ≡ leave_words (commit ws (store_in w b)) w → b' ≡ leave_bytes (commit ws (store_in w b)) b
      → Holds (commit ws st) w₀ b₀ w' b'
  holds_commit ws r p q =
      let new : Store = commit ws st in
      let l = later_commit ws st in
      record {
        words_are = p ∙ (λ z. leave_words (commit ws (holds_store z)) (h.words_are z)) ∙ leave_words_again st new w₀ (omega (arith, commit_count ws st));
        bytes_are = q ∙ (λ z. leave_bytes (commit ws (holds_store z)) (h.bytes_are z)) ∙ leave_bytes_again st new b₀ (omega (arith, commit_size ws st));
        fits = record {
          sound = sound_commit ws st r h.fits.sound;
          room = record { words = omega (arith, l.most_versions, h.fits.room.words); bytes = omega (arith, l.most_bytes, h.fits.room.bytes) };
        };
      }

  -- with room for one more, what `commit_one` leaves
  module _ (k : Key) (x : Option Value) (row : length st.versions < st.most_versions) (bytes : versions_size st.versions + size_of k x ≤ st.most_bytes) where
    pub holds_one : {w' b' : List ℕ} → w' ≡ leave_words (commit_one (k, x) (store_in w b)) w → b' ≡ leave_bytes (commit_one (k, x) (store_in w b)) b
        → Holds (commit_one (k, x) st) w₀ b₀ w' b'
    unfolding commit writes_size
    holds_one p q = holds_commit ((k, x) ∷ []) (record { counts = omega arith; sizes = omega arith }) p q

-- one write more in a store that stands for itself: the store with it, and what its header says
pub record OneMore (wr : Write) (w₀ b₀ w b w' b' : List ℕ) : Type 0 where
  pub holds : Holds (store_in w' b') w₀ b₀ w' b'
  pub store : commit_one wr (store_in w b) ≡ store_in w' b'
  pub rows : count_word w' ≡ count_word w + 1
  pub used : used_word w' ≡ used_word w + size_of wr.0 wr.1
  pub last : last_word w' ≡ last_word w + 1
  pub most_rows : most_versions_word w' ≡ most_versions_word w
  pub most_bytes : most_bytes_word w' ≡ most_bytes_word w

pub one_more : {w₀ b₀ w b w' b' : List ℕ} → Holds (store_in w b) w₀ b₀ w b → (wr : Write) → count_word w < most_versions_word w → used_word w + size_of wr.0 wr.1 ≤ most_bytes_word w
    → w' ≡ leave_words (commit_one wr (store_in w b)) w → b' ≡ leave_bytes (commit_one wr (store_in w b)) b → OneMore wr w₀ b₀ w b w' b'
unfolding commit_one
one_more {w₀} {b₀} {w} {b} {w'} {b'} h wr row bytes p q =
    let st : Store = store_in w b in
    let new : Version = record { key = wr.0; seq = suc st.last; value = wr.1 } in
    let c = holds_count h in
    let u = holds_used h in
    let mv = holds_most_versions h in
    let mb = holds_most_bytes h in
    let h' : Holds (commit_one wr st) w₀ b₀ w' b' = holds_one h wr.0 wr.1 (omega (arith, row, c, mv)) (omega (arith, bytes, u, mb)) p q in
    record {
      holds = subst (λ (x : Store). Holds x w₀ b₀ w' b') (sym (holds_store h')) h';
      store = sym (holds_store h');
      rows = let n = length_insert new st.versions in omega (arith, c, holds_count h', n);
      used = let m = size_insert new st.versions in omega (arith, u, holds_used h', m);
      last = omega (arith, holds_last h, holds_last h');
      most_rows = holds_most_versions h' ∙ sym mv;
      most_bytes = holds_most_bytes h' ∙ sym mb;
    }

-- a commit of one leaves a valid store
pub committed_valid : (w b : List ℕ) (k : Key) (x : Option Value) {w' b' : List ℕ} → Valid w b → RoomForOne w k (bytes_of x)
    → w' ≡ leave_words (commit_one (k, x) (store_in w b)) w → b' ≡ leave_bytes (commit_one (k, x) (store_in w b)) b → Valid w' b'
committed_valid w b k x v r p q =
    let h : Holds (store_in w b) w b w b = holds_first w b v in
    holds_valid (holds_one h k x (omega (arith, r.row_free, holds_count h, holds_most_versions h)) (omega (arith, r.bytes_free, holds_used h, holds_most_bytes h)) p q)
