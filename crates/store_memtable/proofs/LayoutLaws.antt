-- A store written back into words and bytes is read again as that store, and is valid where the store is sound; a valid store is sound. Assumes nothing.
use mathlib.Core.Path.{◌≡◌, refl, sym, ap, ◌∙◌}
use mathlib.Core.Bool.{true}
use mathlib.Core.List.{List, [], ◌∷◌, ◌++◌, append_assoc}
use Rattle.std.specs.Prelude.{Option, None, Some}
use Prim.Native.Nat.{ℕ, suc, ◌+◌, ◌-◌, ◌*◌, ◌≤◌}
use native.Mathlib.Nat.{add-zero}
use native.Mathlib.Omega.{arith}
use lib.ListN.{length, get_or, take, drop, length-append, length-drop}
use lib.Seq.{drop-drop, take_at, drop_at, get_or-drop}
use lib.Dec.{leb}
use borrow.Author.Tests.{le-leb, eq-eqb}
use Rattle.base_key.specs.Bytes.{Bytes, ◌and◌, over_front}
use Rattle.base_key.proofs.Bytes.{and_both, over_front_again}
use Rattle.store_memtable.specs.Table.{Value}
use Rattle.store_memtable.specs.Versions.{Version, Store, bytes_of, versions_size, sorted}
use Rattle.store_memtable.specs.Layout.{count_word, used_word, last_word, most_versions_word, most_bytes_word, start_word, key_word, value_word, seq_word, end_word, value_of_word, value_part, version_at, versions_from, store_in, buffers_hold, header_ok, row_ok, chain_ok, valid_store, word_of_value, row_words, version_bytes, store_words, leave_words, leave_bytes}
use Rattle.store_memtable.specs.Rows.{Valid, versions_in}
use Rattle.store_memtable.proofs.VersionLaws.{SeqsIn, Sound}
use Rattle.store_memtable.proofs.Validity.{valid_header, valid_sorted, valid_seqs, valid_facts}
use Rattle.store_memtable.proofs.Encoding.{encoded, length_table, leave_words_lem, versions_size_lem}

-- what lies behind the start of a part
get_d_from : (n k : ℕ) (l x : List ℕ) → drop n l ≡ x → get_or l (n + k) 0 ≡ get_or x k 0
get_d_from n k l x e = sym (get_or-drop n l k 0) ∙ ap (λ (y : List ℕ). get_or y k 0) e

word_size : (x : Option Value) → word_of_value x - 1 ≡ length (bytes_of x)
word_size None = refl
word_size (Some l) = omega arith

value_back : (x : Option Value) (l t : Bytes) → l ≡ bytes_of x ++ t → value_of_word (word_of_value x) (take (word_of_value x - 1) l) ≡ x
value_back None l t e = refl
value_back (Some m) l t e = let n : suc (length m) - 1 ≡ length m = omega arith in rw n (ap Some (ap (take (length m)) e ∙ take_at m t (length m) refl))

-- the first version of a part of the table that encodes v, vs
module _ (w : List ℕ) (v : Version) (vs : List Version) (i pos : ℕ) (r : List ℕ) (tw : drop (5 + 4 * i) w ≡ row_words pos (v ∷ vs) ++ r) where
  start_back : start_word w i ≡ pos
  unfolding row_words
  start_back = ap (λ (n : ℕ). get_or w n 0) (sym (add-zero (5 + 4 * i))) ∙ get_d_from (5 + 4 * i) 0 w _ tw

  key_word_back : key_word w i ≡ length v.key
  unfolding row_words
  key_word_back = get_d_from (5 + 4 * i) 1 w _ tw

  value_word_back : value_word w i ≡ word_of_value v.value
  unfolding row_words
  value_word_back = get_d_from (5 + 4 * i) 2 w _ tw

  seq_back : seq_word w i ≡ v.seq
  unfolding row_words
  seq_back = get_d_from (5 + 4 * i) 3 w _ tw

  rows_back : drop (5 + 4 * suc i) w ≡ row_words (pos + length v.key + length (bytes_of v.value)) vs ++ r
  unfolding row_words
  rows_back = let e : 5 + 4 * suc i ≡ 5 + 4 * i + 4 = omega arith in ap (λ (n : ℕ). drop n w) e ∙ sym (drop-drop 4 (5 + 4 * i) w) ∙ ap (drop 4) tw

  end_back : end_word w i ≡ pos + length v.key + length (bytes_of v.value)
  end_back =
      let vw : value_word w i - 1 ≡ length (bytes_of v.value) = ap (λ (n : ℕ). n - 1) value_word_back ∙ word_size v.value in
      omega (arith, start_back, key_word_back, vw)

  module _ (b rb : Bytes) (tb : drop pos b ≡ version_bytes (v ∷ vs) ++ rb) where
    key_back : drop pos b ≡ v.key ++ (bytes_of v.value ++ (version_bytes vs ++ rb))
    unfolding version_bytes
    key_back = tb ∙ append_assoc v.key (bytes_of v.value ++ version_bytes vs) rb ∙ ap (λ (x : List ℕ). v.key ++ x) (append_assoc (bytes_of v.value) (version_bytes vs) rb)

    bytes_back : drop (pos + length v.key) b ≡ bytes_of v.value ++ (version_bytes vs ++ rb)
    bytes_back = sym (drop-drop (length v.key) pos b) ∙ ap (drop (length v.key)) key_back ∙ drop_at v.key _ (length v.key) refl

    rest_back : drop (pos + length v.key + length (bytes_of v.value)) b ≡ version_bytes vs ++ rb
    rest_back =
        sym (drop-drop (length (bytes_of v.value)) (pos + length v.key) b) ∙ ap (drop (length (bytes_of v.value))) bytes_back ∙ drop_at (bytes_of v.value) _ (length (bytes_of v.value)) refl

    version_back : version_at w b i ≡ v
    unfolding version_at
    version_back =
        let k : take (key_word w i) (drop (start_word w i) b) ≡ v.key =
        (λ z. take (key_word_back z) (drop (start_back z) b)) ∙ ap (take (length v.key)) key_back ∙ take_at v.key _ (length v.key) refl in
        let x : value_of_word (value_word w i) (value_part w b i) ≡ v.value =
        (λ z. value_of_word (value_word_back z) (take (value_word_back z - 1) (drop (start_back z + key_word_back z) b))) ∙ value_back v.value _ _ bytes_back in
        λ z. record { key = k z; seq = seq_back z; value = x z }

-- reading an encoding gives the list back
pub decoded : (w : List ℕ) (b : Bytes) (vs : List Version) (i pos : ℕ) (r : List ℕ) (rb : Bytes) → drop (5 + 4 * i) w ≡ row_words pos vs ++ r → drop pos b ≡ version_bytes vs ++ rb
    → versions_from w b i (length vs) ≡ vs
unfolding versions_from
decoded w b [] i pos r rb tw tb = refl
decoded w b (v ∷ vs) i pos r rb tw tb =
    λ z. version_back w v vs i pos r tw b rb tb z
    ∷ decoded w b vs (suc i) (pos + length v.key + length (bytes_of v.value)) r rb (rows_back w v vs i pos r tw) (rest_back w v vs i pos r tw b rb tb) z

-- a row of a chain, and the rows behind it
chain_more : (w : List ℕ) (i n pos : ℕ) → row_ok w i pos ≡ true → chain_ok w (suc i) n (end_word w i) ≡ true → chain_ok w i (suc n) pos ≡ true
unfolding chain_ok
chain_more w i n pos r c = rw (r, chain_ok) c

row_ok_lem : (w : List ℕ) (i pos : ℕ) → start_word w i ≡ pos → end_word w i ≤ used_word w → seq_word w i ≤ last_word w → row_ok w i pos ≡ true
unfolding row_ok ◌and◌
row_ok_lem w i pos a f s = rw (eq-eqb _ _ a, le-leb _ _ f, le-leb _ _ s)

-- an encoding is a chain
chained : (w : List ℕ) (vs : List Version) (i pos : ℕ) (r : List ℕ) → drop (5 + 4 * i) w ≡ row_words pos vs ++ r → used_word w ≡ pos + versions_size vs
    → SeqsIn (last_word w) vs → chain_ok w i (length vs) pos ≡ true
unfolding chain_ok versions_size
chained w [] i pos r tw u s = eq-eqb pos (used_word w) (omega arith)
chained w (v ∷ vs) i pos r tw u s =
    let e = end_back w v vs i pos r tw in
    let q = seq_back w v vs i pos r tw in
    chain_more w i (length vs) pos
    (row_ok_lem w i pos (start_back w v vs i pos r tw) (omega arith) (omega (arith, s.0)))
    (rw e (chained w vs (suc i) (pos + length v.key + length (bytes_of v.value)) r (rows_back w v vs i pos r tw) (omega arith) s.1))

-- THE ROOM. The words w and the bytes b hold the capacities of the store
pub record Fits (w : List ℕ) (b : Bytes) (st : Store) : Type 0 where
  pub words : 5 + 4 * st.most_versions ≤ length w
  pub bytes : st.most_bytes ≤ length b

-- and the store is sound
pub record Held (w : List ℕ) (b : Bytes) (st : Store) : Type 0 where
  pub sound : Sound st
  pub room : Fits w b st

-- A STORE WRITTEN BACK.
module _ (st : Store) (w : List ℕ) (b : Bytes) where
  pub store_back : store_in (leave_words st w) (leave_bytes st b) ≡ st
  unfolding store_in leave_words leave_bytes over_front store_words
  store_back =
      let vs : List Version = st.versions in
      let e : versions_from (leave_words st w) (leave_bytes st b) 0 (length vs) ≡ vs = decoded (leave_words st w) (leave_bytes st b) vs 0 0 _ _ refl refl in
      λ z. record { versions = e z; last = st.last; most_versions = st.most_versions; most_bytes = st.most_bytes }

  module _ (h : Held w b st) where
    pub words_left_long : length (leave_words st w) ≡ length w
    words_left_long = ap length (leave_words_lem st w) ∙ simp (length-append, length-drop, length_table) (omega (arith, h.sound.counted, h.room.words))

    pub bytes_left_long : length (leave_bytes st b) ≡ length b
    unfolding leave_bytes over_front
    bytes_left_long = simp (length-append, length-drop) (omega (arith, h.sound.sized, h.room.bytes, versions_size_lem st.versions))

  pub leave_valid : Sound st → 5 + 4 * st.most_versions ≤ length w → st.most_bytes ≤ length b → valid_store (leave_words st w) (leave_bytes st b) ≡ true
  unfolding valid_store header_ok buffers_hold
  leave_valid s words bytes =
      let W : List ℕ = leave_words st w in
      let B : Bytes = leave_bytes st b in
      let h : Held w b st = record { sound = s; room = record { words = words; bytes = bytes } } in
      let wl = words_left_long h in
      let bl = bytes_left_long h in
      let counts : count_word W ≡ length st.versions = unfold leave_words over_front store_words in refl in
      let used : used_word W ≡ length (version_bytes st.versions) = unfold leave_words over_front store_words in refl in
      let last : last_word W ≡ st.last = unfold leave_words over_front store_words in refl in
      let most : most_versions_word W ≡ st.most_versions = unfold leave_words over_front store_words in refl in
      let mostB : most_bytes_word W ≡ st.most_bytes = unfold leave_words over_front store_words in refl in
      let size = versions_size_lem st.versions in
      let rows : drop (5 + 4 * 0) W ≡ row_words 0 st.versions ++ drop (length (store_words st)) w = unfold leave_words over_front store_words in refl in
      let chain : chain_ok W 0 (length st.versions) 0 ≡ true = chained W st.versions 0 0 _ rows (omega arith) (rw last s.seqs) in
      let order : sorted (store_in W B).versions ≡ true = rw store_back s.order in
      let fit_words : leb (5 + 4 * most_versions_word W) (length W) ≡ true = le-leb (5 + 4 * most_versions_word W) (length W) (omega arith) in
      let fit-bytes : leb (most_bytes_word W) (length B) ≡ true = le-leb (most_bytes_word W) (length B) (omega arith) in
      let fit_count : leb (count_word W) (most_versions_word W) ≡ true = le-leb (count_word W) (most_versions_word W) (omega (arith, s.counted)) in
      let fit_used : leb (used_word W) (most_bytes_word W) ≡ true = le-leb (used_word W) (most_bytes_word W) (omega (arith, s.sized)) in
      let whole : chain_ok W 0 (count_word W) 0 ≡ true = rw counts chain in
      and_both _ _ (and_both _ _ (and_both _ _ fit_words fit-bytes) (and_both _ _ fit_count fit_used)) (and_both _ _ whole order)

  pub left_valid : Held w b st → Valid (leave_words st w) (leave_bytes st b)
  left_valid h = valid_facts _ _ (leave_valid h.sound h.room.words h.room.bytes)

-- a store written over one that is not longer leaves what it would have left before
module _ (old new : Store) where
  pub leave_words_again : (w : List ℕ) → length old.versions ≤ length new.versions → leave_words new (leave_words old w) ≡ leave_words new w
  unfolding leave_words store_words
  leave_words_again w h =
      over_front_again (store_words new) (store_words old) w (omega (arith, length_table 0 old.versions, length_table 0 new.versions))

  pub leave_bytes_again : (b : Bytes) → versions_size old.versions ≤ versions_size new.versions → leave_bytes new (leave_bytes old b) ≡ leave_bytes new b
  unfolding leave_bytes
  leave_bytes_again b h =
      over_front_again (version_bytes new.versions) (version_bytes old.versions) b (omega (arith, versions_size_lem old.versions, versions_size_lem new.versions))

-- A VALID STORE.
module _ (w : List ℕ) (b : Bytes) (e : valid_store w b ≡ true) where
  pub valid_fits : Fits w b (store_in w b)
  unfolding store_in
  valid_fits = let h = valid_header w b e in record { words = h.words_fit; bytes = h.bytes_fit }

  pub valid_sound : Sound (store_in w b)
  unfolding store_in
  valid_sound =
      let h = valid_header w b e in
      let c = encoded w b e in
      let z = versions_size_lem (versions_in w b) in
      record {
        seqs = valid_seqs w b e;
        order = valid_sorted w b e;
        counted = omega (arith, h.count_fits, c.counted);
        sized = omega (arith, h.used_fits, c.used_is, z);
      }
