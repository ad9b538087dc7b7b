-- Writes committed one after the other, with room for all of them: what a loop of `commit_one` keeps. Assumes nothing.
use Prim.Native.Nat.{ℕ, suc}
use native.Mathlib.Omega.{arith}
use mathlib.Core.Path.{◌≡◌, refl, sym, ap, ◌∙◌, subst}
use mathlib.Core.List.{List, [], ◌∷◌}
use Rattle.store_memtable.specs.Table.{Write}
use Rattle.store_memtable.specs.Versions.{Version, Store, writes_size, commit_one, commit}
use Rattle.store_memtable.specs.Layout.{store_in, leave_words, leave_bytes}
use Rattle.store_memtable.specs.Rows.{Valid}
use Rattle.command_room.specs.Writes.{RoomForAll}
use Rattle.store_memtable.proofs.VersionLaws.{length_insert, size_insert}
use Rattle.store_memtable.proofs.Sequence.{Holds, holds_first, holds_store, holds_count, holds_used, holds_last, holds_most_versions, holds_most_bytes, holds_one}

-- of the writes `all` on the store of w₀ and b₀, those before `rest` are committed in w and b, and there is room for the rest
pub record Commits (all rest : List Write) (w₀ b₀ w b : List ℕ) : Type 0 where
  pub holds : Holds (store_in w b) w₀ b₀ w b
  pub whole : commit all (store_in w₀ b₀) ≡ commit rest (store_in w b)
  pub room : RoomForAll w rest

pub commits_none : (ws : List Write) (w b : List ℕ) → Valid w b → RoomForAll w ws → Commits ws ws w b w b
commits_none ws w b v r = record { holds = holds_first w b v; whole = refl; room = r }

module _ {all : List Write} {w₀ b₀ w b : List ℕ} where
  module _ (p : Commits all [] w₀ b₀ w b) where
    pub commits_words : w ≡ leave_words (commit all (store_in w₀ b₀)) w₀
    unfolding commit
    commits_words = p.holds.words_are ∙ ap (λ (st : Store). leave_words st w₀) (sym p.whole)

    pub commits_bytes : b ≡ leave_bytes (commit all (store_in w₀ b₀)) b₀
    unfolding commit
    commits_bytes = p.holds.bytes_are ∙ ap (λ (st : Store). leave_bytes st b₀) (sym p.whole)

  module _ {wr : Write} {rest : List Write} (p : Commits all (wr ∷ rest) w₀ b₀ w b) where
    pub commits_more : {w' b' : List ℕ} → w' ≡ leave_words (commit_one wr (store_in w b)) w → b' ≡ leave_bytes (commit_one wr (store_in w b)) b
        → Commits all rest w₀ b₀ w' b'
    unfolding commit commit_one writes_size
    commits_more {w'} {b'} p-words p-bytes =
        let st : Store = store_in w b in
        let new : Version = record { key = wr.0; seq = suc st.last; value = wr.1 } in
        let r = p.room in
        let c = holds_count p.holds in
        let u = holds_used p.holds in
        let q = holds_last p.holds in
        let mv = holds_most_versions p.holds in
        let mb = holds_most_bytes p.holds in
        let h' : Holds (commit_one wr st) w₀ b₀ w' b' =
        holds_one p.holds wr.0 wr.1 (omega (arith, r.rows_free, c, mv)) (omega (arith, r.bytes_free, u, mb)) p-words p-bytes in
        let c' = holds_count h' in
        let u' = holds_used h' in
        let q' = holds_last h' in
        let mv' = holds_most_versions h' in
        let mb' = holds_most_bytes h' in
        let n = length_insert new st.versions in
        let m = size_insert new st.versions in
        record {
          holds = subst (λ (x : Store). Holds x w₀ b₀ w' b') (sym (holds_store h')) h';
          whole = p.whole ∙ ap (commit rest) (sym (holds_store h'));
          room = record {
            rows_free = omega (arith, r.rows_free, c, c', n, mv, mv');
            bytes_free = omega (arith, r.bytes_free, u, u', m, mb, mb');
            seqs_free = omega (arith, r.seqs_free, q, q');
          };
        }
