-- Laws of WATCH on one session: from its tables and bytes to the session that holds the keys. Assumes nothing.
use mathlib.Core.Path.{◌≡◌, refl, sym, ap, ◌∙◌}
use mathlib.Core.List.{List, [], ◌∷◌, ◌++◌, map, append-nil}
use Prim.Native.Nat.{ℕ, ◌+◌}
use native.Mathlib.Omega.{arith}
use borrow.Author.Tests.{le-leb}
use lib.ListN.{length, get_or, take, drop, set, length-append, length-map, drop_of_length-le}
use lib.Seq.{drop-drop}
use borrow.Rule.Slice.PartMut.{put_mid}
use native.Mathlib.Nat.{zero-add}
use Rattle.store_memtable.specs.Table.{Entry}
use Rattle.base_key.proofs.Bytes.{length_part_lem}
use Rattle.base_key.specs.Bytes.{Bytes, part, total, put_at}
use Rattle.base_key.specs.Keys.{Key}
use Rattle.command_spec.specs.Session.{Watching, watched_keys, add_keys, watch_fits}
use Rattle.command_spec.specs.Sessions.{split_by, keys_in, paired, session_from, session_words, session_bytes}
use Rattle.command_spec.specs.Lent.{capped}
use Rattle.command_spec.specs.Held.{Held}
use Rattle.command_spec.specs.Watch.{keys_of, WatchTable, watch_of, Holding, AllWatched, WatchPut}
use Rattle.session_memory.proofs.Sums.{capped_low}
use Rattle.base_key.proofs.Writes.{written_first, written_second}
use Rattle.session_memory.proofs.Kept.{shape, bytes_shape, front_part, data_length, multi_kept, failed_kept, queued_kept, counts_table, lengths_table, queue_data}

-- a write over the whole list
pub written_whole : (x l : List ℕ) → length l ≡ length x → put_at 0 x l ≡ x
unfolding put_at
written_whole x l e = ap (λ (y : List ℕ). x ++ y) (drop_of_length-le l {i = 0 + length x} (omega arith)) ∙ append-nil x

module _ {w : List ℕ} {b : Bytes} (h : Held w b) where
  table_length : length (part 4 32 w) ≡ 32
  table_length = length_part_lem 4 32 w (omega (arith, h.words))

  sequences_length : length (part 36 32 w) ≡ 32
  sequences_length = length_part_lem 36 32 w (omega (arith, h.words))

  -- the tables and the bytes, copied
  module _ {n : ℕ} (e : n ≡ get_or w 2 0) {lens seqs : List ℕ} {text : Bytes} (lens-are : lens ≡ part 4 32 w) (seqs-are : seqs ≡ part 36 32 w) (text_is : text ≡ part 0 2048 b) where
    pub watch_table : {u : ℕ} → u ≡ capped 2048 (total (part 4 n w)) → WatchTable lens seqs text n u
    watch_table {u} f =
        let used_is : u ≡ total (part 4 (get_or w 2 0) w) =
        f ∙ ap (λ (x : ℕ). capped 2048 (total (part 4 x w))) e ∙ capped_low 2048 (total (part 4 (get_or w 2 0) w)) h.key_room in
        let k : total (take n lens) ≡ total (part 4 (get_or w 2 0) w) =
        (λ z. total (take (e z) (lens-are z))) ∙ ap total (sym (front_part h 4 32 (get_or w 2 0) h.few_keys)) in
        record {
          table = ap length lens-are ∙ table_length;
          sequences = ap length seqs-are ∙ sequences_length;
          bytes = ap length text_is ∙ data_length h;
          few = omega (arith, h.few_keys);
          used_is = used_is ∙ sym k;
          room = omega (arith, used_is, h.key_room);
        }

    keys_are : keys_of lens text n ≡ keys_in w b
    unfolding keys_of keys_in
    keys_are = (λ z. split_by (take (e z) (lens-are z)) (text_is z)) ∙ ap (λ (l : List ℕ). split_by l (part 0 2048 b)) (sym (front_part h 4 32 (get_or w 2 0) h.few_keys))

    pub watch_is : watch_of lens seqs text n ≡ (session_from w b).watch
    unfolding watch_of session_from
    watch_is =
        let q : take n seqs ≡ part 36 (get_or w 2 0) w = (λ z. take (e z) (seqs-are z)) ∙ sym (front_part h 36 32 (get_or w 2 0) h.few_keys) in
        λ z. paired (keys_are z) (q z)

-- THE KEYS PUT BACK
written_part : (at n : ℕ) (x l : List ℕ) → length x ≡ n → put_mid at n l x ≡ put_at at x l
unfolding put_at
written_part at n x l e = ap (λ (t : List ℕ). take at l ++ (x ++ t)) (drop-drop n at l ∙ ap (λ (m : ℕ). drop (at + m) l) (sym e))

written_start : (n : ℕ) (x l : List ℕ) → length x ≡ n → x ++ drop n l ≡ put_at 0 x l
unfolding put_at
written_start n x l e = ap (λ (m : ℕ). x ++ drop m l) (sym e ∙ sym (zero-add (length x)))

pub watch_put : (w : List ℕ) (b : Bytes) {lens lens' seqs seqs' : List ℕ} {text text' : Bytes} (count : ℕ) → lens' ≡ lens → seqs' ≡ seqs → text' ≡ text
    → length lens ≡ 32 → length seqs ≡ 32 → length text ≡ 2048
    → WatchPut lens seqs text count w (set (put_mid 36 32 (put_mid 4 32 w lens') seqs') 2 count) b (text' ++ drop 2048 b)
watch_put w b {lens = lens} {seqs = seqs} {text = text} count p q r e f g = record {
  words = (λ z. set (put_mid 36 32 (put_mid 4 32 w (p z)) (q z)) 2 count)
      ∙ ap (λ (x : List ℕ). set x 2 count) (written_part 36 32 seqs (put_mid 4 32 w lens) f ∙ ap (put_at 36 seqs) (written_part 4 32 lens w e));
  bytes = ap (λ (x : Bytes). x ++ drop 2048 b) r ∙ written_start 2048 text b g;
}

-- a session with the keys that were added is the session that watches them
module _ {w : List ℕ} {b : Bytes} (h : Held w b) (ks : List Key) {lens seqs : List ℕ} {text : Bytes} {count u : ℕ} (last : ℕ)
    (g : Holding (add_keys last ks (session_from w b).watch) (part 4 32 w) lens (part 36 32 w) seqs (part 0 2048 b) text count u)
    (a : length lens ≡ 32) (d : length seqs ≡ 32) (c : length text ≡ 2048) where
  abbrev after : Watching
  after = add_keys last ks (session_from w b).watch

  keys_many : length (watched_keys after) ≡ length after
  keys_many = length-map after (λ (e : Entry ℕ). e.0)

  -- the tables and the bytes back in their places
  tables_back : put_at 36 seqs (put_at 4 lens w) ≡ get_or w 0 0 ∷ get_or w 1 0 ∷ get_or w 2 0 ∷ get_or w 3 0 ∷ (lens ++ seqs ++ part 68 64 w ++ part 132 512 w)
  tables_back =
      let header : List ℕ = get_or w 0 0 ∷ get_or w 1 0 ∷ get_or w 2 0 ∷ get_or w 3 0 ∷ [] in
      let K : List ℕ = part 4 32 w in
      let S : List ℕ = part 36 32 w in
      let C : List ℕ = part 68 64 w in
      let L : List ℕ = part 132 512 w in
      let k₁ : length (K ++ S) ≡ length K + length S = length-append K S in
      let k₂ : length (K ++ S ++ C) ≡ length (K ++ S) + length C = length-append (K ++ S) C in
      let m₁ : length (lens ++ S) ≡ length lens + length S = length-append lens S in
      let m₂ : length (lens ++ S ++ C) ≡ length (lens ++ S) + length C = length-append (lens ++ S) C in
      let first : put_at 4 lens w ≡ header ++ (lens ++ S ++ C ++ L) =
      ap (put_at 4 lens) (shape w h.words) ∙ written_second header (K ++ S ++ C ++ L) lens 4 0 refl
      ∙ ap (λ (x : List ℕ). header ++ x)
      (written_first (K ++ S ++ C) L lens 0 (omega (arith, table_length h)) ∙ ap (λ (x : List ℕ). x ++ L)
      (written_first (K ++ S) C lens 0 (omega (arith, table_length h)) ∙ ap (λ (x : List ℕ). x ++ C)
      (written_first K S lens 0 (omega (arith, table_length h)) ∙ ap (λ (x : List ℕ). x ++ S) (written_whole lens K (table_length h ∙ sym a))))) in
      ap (put_at 36 seqs) first ∙ written_second header (lens ++ S ++ C ++ L) seqs 4 32 refl
      ∙ ap (λ (x : List ℕ). header ++ x)
      (written_first (lens ++ S ++ C) L seqs 32 (omega (arith, sequences_length h)) ∙ ap (λ (x : List ℕ). x ++ L)
      (written_first (lens ++ S) C seqs 32 (omega (arith, sequences_length h)) ∙ ap (λ (x : List ℕ). x ++ C)
      (written_second lens S seqs 32 0 a ∙ ap (λ (x : List ℕ). lens ++ x) (written_whole seqs S (sequences_length h ∙ sym d)))))

  bytes_back : put_at 0 text b ≡ text ++ part 2048 8192 b
  bytes_back =
      ap (put_at 0 text) (bytes_shape b h.bytes) ∙ written_first (part 0 2048 b) (part 2048 8192 b) text 0 (omega (arith, data_length h))
      ∙ ap (λ (x : Bytes). x ++ part 2048 8192 b) (written_whole text (part 0 2048 b) (data_length h ∙ sym c))

  pub all_watched : {w' : List ℕ} {b' : Bytes} → WatchPut lens seqs text count w w' b b' → AllWatched ks last w w' b b'
  unfolding session_words session_bytes watch_fits
  all_watched p = record {
    fits = rw (le-leb (length (watched_keys after)) 32 (omega (arith, keys_many, g.few)), le-leb (total (map length (watched_keys after))) 2048 g.short);
    words = p.words ∙ ap (λ (x : List ℕ). set x 2 count) tables_back
        ∙ sym (λ z. multi_kept h z ∷ failed_kept h z ∷ (keys_many ∙ sym g.count_is) z ∷ queued_kept h z
        ∷ (sym g.table z ++ sym g.sequences z ++ counts_table h z ++ lengths_table h z));
    bytes = p.bytes ∙ bytes_back ∙ sym (λ z. sym g.bytes z ++ queue_data h z);
  }
