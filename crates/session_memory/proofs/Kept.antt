-- A valid session read and written back is as it was; and the changes that touch its head alone. Assumes nothing.
use mathlib.Core.Path.{◌≡◌, refl, sym, ap, ◌∙◌}
use mathlib.Core.Bool.{Bool, true, false, cond}
use mathlib.Core.List.{List, [], ◌∷◌, ◌++◌, map}
use Rattle.std.specs.Prelude.{None, Some}
use Prim.Native.Nat.{ℕ, zero, suc, ◌+◌, ◌*◌, ◌<◌, ◌≤◌}
use native.Mathlib.Nat.{suc-mul, add_comm}
use native.Mathlib.Omega.{arith}
use borrow.Author.Tests.{leb-true, eqb-true}
use lib.Dec.{leb, eqb}
use lib.ListN.{length, get_or, take, drop, set, length-drop}
use lib.Seq.{drop-drop, take_all, take-take}
use Rattle.base_key.specs.Bytes.{Bytes, ◌and◌, part, over_front, concat, total}
use Rattle.base_key.proofs.Bytes.{and_left, and_right, length_part_lem}
use Rattle.command_spec.specs.Names.{Args}
use Rattle.command_spec.specs.Session.{watched_keys, watched_sequences, clear, marked}
use Rattle.command_spec.specs.Sessions.{split_by, keys_in, queue_in, yes?, session_from, ascending, all_queueable, none_above, watch_ok, queue_ok, session_ok, flag_word, multi_of, queue_of, session_words, session_bytes, words_of_session, bytes_of_session, sessions_ok_in, valid_sessions}
use Rattle.command_spec.specs.Lent.{OneSession, QueueIn, queue_sizes_ok}
use Rattle.command_spec.specs.Held.{Held, Left, cleared, opened, unwatched}
use Rattle.command_spec.proofs.Parts.{part_add, split_length, split_lengths, split_concat, over_own}
use Rattle.command_spec.proofs.SplitLaws.{paired_keys, paired_sequences}
use Rattle.session_memory.proofs.TestParts.{sizes_in, queue_as, sessions_true, sessions_false}

-- THE SHAPE of 644 words and 10,240 bytes.
four : (w : List ℕ) → 4 ≤ length w → w ≡ get_or w 0 0 ∷ get_or w 1 0 ∷ get_or w 2 0 ∷ get_or w 3 0 ∷ drop 4 w
four [] h = absurd (omega arith)
four (a ∷ []) h = absurd (omega arith)
four (a ∷ b ∷ []) h = absurd (omega arith)
four (a ∷ b ∷ c ∷ []) h = absurd (omega arith)
four (a ∷ b ∷ c ∷ d ∷ l) h = refl

-- the lengths of the keys, their sequences, the counts of the commands, the lengths of their arguments
abbrev pub tables : List ℕ → List ℕ
tables w = part 4 32 w ++ part 36 32 w ++ part 68 64 w ++ part 132 512 w

tables_are : (w : List ℕ) → length w ≡ 644 → drop 4 w ≡ tables w
tables_are w e =
    sym (ap (λ (l : List ℕ). l ++ part 68 64 w ++ part 132 512 w) (sym (part_add 4 32 32 w)) ∙ ap (λ (l : List ℕ). l ++ part 132 512 w) (sym (part_add 4 64 64 w))
    ∙ sym (part_add 4 128 512 w) ∙ take_all 640 (drop 4 w) (rw length-drop (omega arith)))

pub shape : (w : List ℕ) → length w ≡ 644 → w ≡ get_or w 0 0 ∷ get_or w 1 0 ∷ get_or w 2 0 ∷ get_or w 3 0 ∷ tables w
shape w e = four w (omega arith) ∙ ap (λ (l : List ℕ). get_or w 0 0 ∷ get_or w 1 0 ∷ get_or w 2 0 ∷ get_or w 3 0 ∷ l) (tables_are w e)

pub bytes_shape : (b : Bytes) → length b ≡ 10240 → b ≡ part 0 2048 b ++ part 2048 8192 b
bytes_shape b e = sym (sym (part_add 0 2048 8192 b) ∙ take_all 10240 b (omega arith))

-- a write of nothing
over_nothing : {A : Type 0} (l : List A) → over_front [] l ≡ l
unfolding over_front
over_nothing l = refl

-- WHAT A VALID SESSION HOLDS.
module _ {w : List ℕ} {b : Bytes} (h : Held w b) where
  pub keys_held : watched_keys (session_from w b).watch ≡ keys_in w b
  unfolding session_from
  keys_held = paired_keys (keys_in w b) (part 36 (get_or w 2 0) w)

  pub queue_held : queue_of (session_from w b).queue ≡ queue_in w b
  unfolding session_from queue_in split_by
  queue_held = go (get_or w 0 0) refl
    where
      go : (n : ℕ) → get_or w 0 0 ≡ n → queue_of (cond (yes? n) (Some (queue_in w b)) None) ≡ queue_in w b
      go zero e = rw (h.quiet e)
      go (suc n) e = refl

  pub multi_kept : flag_word (multi_of (session_from w b).queue) (get_or w 0 0) ≡ get_or w 0 0
  unfolding session_from flag_word
  multi_kept = go (get_or w 0 0)
    where
      go : (n : ℕ) → flag_word (multi_of (cond (yes? n) (Some (queue_in w b)) None)) n ≡ n
      go zero = refl
      go (suc n) = refl

  pub failed_kept : flag_word (session_from w b).failed (get_or w 1 0) ≡ get_or w 1 0
  unfolding session_from flag_word
  failed_kept = go (get_or w 1 0)
    where
      go : (n : ℕ) → flag_word (yes? n) n ≡ n
      go zero = refl
      go (suc n) = refl

  pub data_length : length (part 0 2048 b) ≡ 2048
  data_length = length_part_lem 0 2048 b (omega (arith, h.bytes))

  pub queue_data_length : length (part 2048 8192 b) ≡ 8192
  queue_data_length = length_part_lem 2048 8192 b (omega (arith, h.bytes))

  -- the keys: how many, their lengths, their bytes
  pub keys_count : length (keys_in w b) ≡ get_or w 2 0
  unfolding keys_in
  keys_count = split_length (part 4 (get_or w 2 0) w) (part 0 2048 b) ∙ length_part_lem 4 (get_or w 2 0) w (omega (arith, h.words, h.few_keys))

  pub keys_lengths : map length (keys_in w b) ≡ part 4 (get_or w 2 0) w
  unfolding keys_in
  keys_lengths = split_lengths (part 4 (get_or w 2 0) w) (part 0 2048 b) (rw data_length h.key_room)

  -- their sequences
  pub sequences_held : watched_sequences (session_from w b).watch ≡ part 36 (get_or w 2 0) w
  unfolding session_from
  sequences_held = paired_sequences (keys_in w b) (part 36 (get_or w 2 0) w) (length_part_lem 36 (get_or w 2 0) w (omega (arith, h.words, h.few_keys)) ∙ sym keys_count)

  pub keys_bytes : concat (keys_in w b) ≡ take (total (part 4 (get_or w 2 0) w)) (part 0 2048 b)
  unfolding keys_in
  keys_bytes = split_concat (part 4 (get_or w 2 0) w) (part 0 2048 b) (rw data_length h.key_room)

  -- the queue: its counts, its arguments, their lengths and bytes
  lengths_count : length (part 132 (total (part 68 (get_or w 3 0) w)) w) ≡ total (part 68 (get_or w 3 0) w)
  lengths_count = length_part_lem 132 (total (part 68 (get_or w 3 0) w)) w (omega (arith, h.words, h.few_arguments))

  arguments_count : length (split_by (part 132 (total (part 68 (get_or w 3 0) w)) w) (part 2048 8192 b)) ≡ total (part 68 (get_or w 3 0) w)
  arguments_count = split_length (part 132 (total (part 68 (get_or w 3 0) w)) w) (part 2048 8192 b) ∙ lengths_count

  pub queue_count : length (queue_in w b) ≡ get_or w 3 0
  unfolding queue_in
  queue_count = split_length (part 68 (get_or w 3 0) w) _ ∙ length_part_lem 68 (get_or w 3 0) w (omega (arith, h.words, h.few_commands))

  pub queue_counts : map length (queue_in w b) ≡ part 68 (get_or w 3 0) w
  unfolding queue_in
  queue_counts = split_lengths (part 68 (get_or w 3 0) w) (split_by (part 132 (total (part 68 (get_or w 3 0) w)) w) (part 2048 8192 b)) (omega (arith, arguments_count))

  pub queue_arguments : concat (queue_in w b) ≡ split_by (part 132 (total (part 68 (get_or w 3 0) w)) w) (part 2048 8192 b)
  unfolding queue_in
  queue_arguments =
      split_concat (part 68 (get_or w 3 0) w) (split_by (part 132 (total (part 68 (get_or w 3 0) w)) w) (part 2048 8192 b)) (omega (arith, arguments_count))
      ∙ take_all (total (part 68 (get_or w 3 0) w)) (split_by (part 132 (total (part 68 (get_or w 3 0) w)) w) (part 2048 8192 b)) (omega (arith, arguments_count))

  pub queue_lengths : map length (concat (queue_in w b)) ≡ part 132 (total (part 68 (get_or w 3 0) w)) w
  queue_lengths = ap (map length) queue_arguments ∙ split_lengths (part 132 (total (part 68 (get_or w 3 0) w)) w) (part 2048 8192 b) (rw queue_data_length h.room)

  pub queue_bytes : concat (concat (queue_in w b)) ≡ take (total (part 132 (total (part 68 (get_or w 3 0) w)) w)) (part 2048 8192 b)
  queue_bytes = ap concat queue_arguments ∙ split_concat (part 132 (total (part 68 (get_or w 3 0) w)) w) (part 2048 8192 b) (rw queue_data_length h.room)

  -- written back, each table is as it was
  pub front_part : (from size n : ℕ) → n ≤ size → part from n w ≡ take n (part from size w)
  front_part from size n k = sym (take-take n size (drop from w) k)

  pub keys_table : over_front (map length (watched_keys (session_from w b).watch)) (part 4 32 w) ≡ part 4 32 w
  keys_table =
      ap (λ (l : List (List ℕ)). over_front (map length l) (part 4 32 w)) keys_held ∙ ap (λ (l : List ℕ). over_front l (part 4 32 w)) (keys_lengths ∙ front_part 4 32 (get_or w 2 0) h.few_keys)
      ∙ over_own (get_or w 2 0) (part 4 32 w) (rw (length_part_lem 4 32 w (omega (arith, h.words))) h.few_keys)

  pub sequences_table : over_front (watched_sequences (session_from w b).watch) (part 36 32 w) ≡ part 36 32 w
  sequences_table =
      ap (λ (l : List ℕ). over_front l (part 36 32 w)) (sequences_held ∙ front_part 36 32 (get_or w 2 0) h.few_keys)
      ∙ over_own (get_or w 2 0) (part 36 32 w) (rw (length_part_lem 36 32 w (omega (arith, h.words))) h.few_keys)

  pub counts_table : over_front (map length (queue_of (session_from w b).queue)) (part 68 64 w) ≡ part 68 64 w
  counts_table =
      ap (λ (l : List Args). over_front (map length l) (part 68 64 w)) queue_held
      ∙ ap (λ (l : List ℕ). over_front l (part 68 64 w)) (queue_counts ∙ front_part 68 64 (get_or w 3 0) h.few_commands)
      ∙ over_own (get_or w 3 0) (part 68 64 w) (rw (length_part_lem 68 64 w (omega (arith, h.words))) h.few_commands)

  pub lengths_table : over_front (map length (concat (queue_of (session_from w b).queue))) (part 132 512 w) ≡ part 132 512 w
  lengths_table =
      ap (λ (l : List Args). over_front (map length (concat l)) (part 132 512 w)) queue_held
      ∙ ap (λ (l : List ℕ). over_front l (part 132 512 w)) (queue_lengths ∙ front_part 132 512 (total (part 68 (get_or w 3 0) w)) h.few_arguments)
      ∙ over_own (total (part 68 (get_or w 3 0) w)) (part 132 512 w) (rw (length_part_lem 132 512 w (omega (arith, h.words))) h.few_arguments)

  pub keys_data : over_front (concat (watched_keys (session_from w b).watch)) (part 0 2048 b) ≡ part 0 2048 b
  keys_data =
      ap (λ (l : List (List ℕ)). over_front (concat l) (part 0 2048 b)) keys_held ∙ ap (λ (l : List ℕ). over_front l (part 0 2048 b)) keys_bytes
      ∙ over_own (total (part 4 (get_or w 2 0) w)) (part 0 2048 b) (rw data_length h.key_room)

  pub queue_data : over_front (concat (concat (queue_of (session_from w b).queue))) (part 2048 8192 b) ≡ part 2048 8192 b
  queue_data =
      ap (λ (l : List Args). over_front (concat (concat l)) (part 2048 8192 b)) queue_held ∙ ap (λ (l : List ℕ). over_front l (part 2048 8192 b)) queue_bytes
      ∙ over_own (total (part 132 (total (part 68 (get_or w 3 0) w)) w)) (part 2048 8192 b) (rw queue_data_length h.room)

  pub watched_kept : length (watched_keys (session_from w b).watch) ≡ get_or w 2 0
  watched_kept = ap length keys_held ∙ keys_count

  pub queued_kept : length (queue_of (session_from w b).queue) ≡ get_or w 3 0
  queued_kept = ap length queue_held ∙ queue_count

  -- READ AND WRITTEN BACK, a session is as it was.
  pub words_kept : session_words (session_from w b) w b ≡ w
  unfolding session_words
  words_kept =
      (λ z. multi_kept z ∷ failed_kept z ∷ watched_kept z ∷ queued_kept z ∷ (keys_table z ++ sequences_table z ++ counts_table z ++ lengths_table z)) ∙ sym (shape w h.words)

  pub bytes_kept : session_bytes (session_from w b) b ≡ b
  unfolding session_bytes
  bytes_kept = (λ z. keys_data z ++ queue_data z) ∙ sym (bytes_shape b h.bytes)

  -- the bytes that the changes of the head leave: as they were
  pub bytes_cleared : session_bytes clear b ≡ b
  unfolding session_bytes concat
  bytes_cleared = (λ z. over_nothing (part 0 2048 b) z ++ over_nothing (part 2048 8192 b) z) ∙ sym (bytes_shape b h.bytes)

  pub bytes_marked : session_bytes (marked (session_from w b)) b ≡ b
  unfolding session_bytes
  bytes_marked = (λ z. keys_data z ++ queue_data z) ∙ sym (bytes_shape b h.bytes)

  pub bytes_opened : session_bytes (opened (session_from w b)) b ≡ b
  unfolding session_bytes concat
  bytes_opened = (λ z. keys_data z ++ over_nothing (part 2048 8192 b) z) ∙ sym (bytes_shape b h.bytes)

  pub bytes_unwatched : session_bytes (unwatched (session_from w b)) b ≡ b
  unfolding session_bytes concat
  bytes_unwatched = (λ z. over_nothing (part 0 2048 b) z ++ queue_data z) ∙ sym (bytes_shape b h.bytes)

-- THE CHANGES OF THE HEAD.
module _ (w : List ℕ) (e : length w ≡ 644) where
  pub clear_left : Left cleared w (set (set (set (set w 0 0) 1 0) 2 0) 3 0)
  unfolding session_words flag_word concat
  clear_left = record {
    is = λ b h. ap (λ (x : List ℕ). set (set (set (set x 0 0) 1 0) 2 0) 3 0) (shape w e)
        ∙ (λ z. 0 ∷ 0 ∷ 0 ∷ 0 ∷ (sym (over_nothing (part 4 32 w)) z ++ sym (over_nothing (part 36 32 w)) z ++ sym (over_nothing (part 68 64 w)) z ++ sym (over_nothing (part 132 512 w)) z));
  }

  marked_as : (v : ℕ) → v ≡ flag_word true (get_or w 1 0) → (w' : List ℕ) → w' ≡ set w 1 v → Left marked w w'
  unfolding session_words
  marked_as v f w' q = record {
    is = λ b h. q ∙ ap (λ (x : List ℕ). set x 1 v) (shape w e)
        ∙ sym (λ z. multi_kept h z ∷ sym f z ∷ watched_kept h z ∷ queued_kept h z ∷ (keys_table h z ++ sequences_table h z ++ counts_table h z ++ lengths_table h z));
  }

  pub mark_new : get_or w 1 0 ≡ 0 → Left marked w (set w 1 1)
  unfolding flag_word
  mark_new z = marked_as 1 (ap (flag_word true) (sym z)) (set w 1 1) refl

  pub mark_old : (get_or w 1 0 ≡ 0 → ⊥) → Left marked w w
  unfolding flag_word
  mark_old z = marked_as (get_or w 1 0) (go (get_or w 1 0) z) w (ap (λ (x : List ℕ). x) (shape w e) ∙ sym (ap (λ (x : List ℕ). set x 1 (get_or w 1 0)) (shape w e)))
    where
      go : (n : ℕ) → (n ≡ 0 → ⊥) → n ≡ flag_word true n
      go zero f = absurd (f refl)
      go (suc n) f = refl

  pub open_left : get_or w 0 0 ≡ 0 → Left opened w (set (set w 0 1) 1 0)
  unfolding session_words flag_word concat
  open_left z = record {
    is = λ b h. ap (λ (x : List ℕ). set (set x 0 1) 1 0) (shape w e)
        ∙ sym (λ i. flag_word true (z i) ∷ 0 ∷ watched_kept h i ∷ sym (h.quiet z) i
        ∷ (keys_table h i ++ sequences_table h i ++ over_nothing (part 68 64 w) i ++ over_nothing (part 132 512 w) i));
  }

  pub unwatch_left : Left unwatched w (set w 2 0)
  unfolding session_words
  unwatch_left = record {
    is = λ b h. ap (λ (x : List ℕ). set x 2 0) (shape w e)
        ∙ sym (λ z. multi_kept h z ∷ failed_kept h z ∷ 0 ∷ queued_kept h z ∷ (over_nothing (part 4 32 w) z ++ over_nothing (part 36 32 w) z ++ counts_table h z ++ lengths_table h z));
  }

next : {A : Type 0} (size : ℕ) (l : List A) (i : ℕ) → drop (suc i * size) l ≡ drop (i * size) (drop size l)
next size l i = ap (λ (n : ℕ). drop n l) (next_place i size) ∙ sym (drop-drop (i * size) size l)
  where
    next_place : (i size : ℕ) → suc i * size ≡ size + i * size
    next_place i size = suc-mul i size ∙ add_comm (i * size) size

-- FROM THE TESTS. A session that passes them is held.
pub held_by_tests : (last : ℕ) (w : List ℕ) (b : Bytes) → OneSession w b → session_ok last w b ≡ true → Held w b
unfolding session_ok watch_ok
held_by_tests last w b o e =
    let watch-right = and_left (watch_ok last w b) (queue_ok w b) e in
    let queue-right = and_right (watch_ok last w b) (queue_ok w b) e in
    let n : ℕ = get_or w 2 0 in
    let bound : Bool = none_above last (part 36 n w) in
    let r1 = and_right (leb n 32) (leb (total (part 4 n w)) 2048 and ascending (keys_in w b) and bound) watch-right in
    let r2 = and_right (leb (total (part 4 n w)) 2048) (ascending (keys_in w b) and bound) r1 in
    let parts : (queue_sizes_ok w and (all_queueable (queue_in w b) and cond (yes? (get_or w 0 0)) true (eqb (get_or w 3 0) 0))) ≡ true = sym (queue_as w b) ∙ queue-right in
    let sizes : QueueIn w b (get_or w 3 0) = sizes_in w b o (and_left (queue_sizes_ok w) _ parts) in
    let last-part = and_right (all_queueable (queue_in w b)) (cond (yes? (get_or w 0 0)) true (eqb (get_or w 3 0) 0)) (and_right (queue_sizes_ok w) (all_queueable (queue_in w b) and cond (yes? (get_or w 0 0)) true (eqb (get_or w 3 0) 0)) parts) in
    record {
      words = o.words;
      bytes = o.bytes;
      few_keys = leb-true n 32 (and_left (leb n 32) _ watch-right);
      key_room = leb-true (total (part 4 n w)) 2048 (and_left (leb (total (part 4 n w)) 2048) _ r1);
      rising = and_left (ascending (keys_in w b)) bound r2;
      few_commands = sizes.few;
      few_arguments = sizes.arguments;
      room = sizes.room;
      quiet = λ z. eqb-true (get_or w 3 0) 0 (ap (λ (m : ℕ). cond (yes? m) true (eqb (get_or w 3 0) 0)) (sym z) ∙ last-part);
    }

-- each of sixteen valid sessions passes them
sessions_each : (last n : ℕ) (w : List ℕ) (b : Bytes) → sessions_ok_in last n w b ≡ true → (i : ℕ) → i < n → session_ok last (words_of_session i w) (bytes_of_session i b) ≡ true
unfolding sessions_ok_in words_of_session bytes_of_session
sessions_each last zero w b e i h = absurd (omega arith)
sessions_each last (suc n) w b e i h = go (session_ok last (take 644 w) (take 10240 b)) refl i h (λ q. sessions_each last n (drop 644 w) (drop 10240 b) q)
  where
    go : (v : Bool) → session_ok last (take 644 w) (take 10240 b) ≡ v → (i : ℕ) → i < suc n
        → (sessions_ok_in last n (drop 644 w) (drop 10240 b) ≡ true → (j : ℕ) → j < n → session_ok last (words_of_session j (drop 644 w)) (bytes_of_session j (drop 10240 b)) ≡ true)
        → session_ok last (words_of_session i w) (bytes_of_session i b) ≡ true
    go false f i k rest = let z : true ≡ false = sym e ∙ sessions_false last n w b f in let y : ◌≡◌ {A = ℕ} 0 1 = cc in absurd (omega arith)
    go true f zero k rest = f
    go true f (suc i) k rest =
        (λ z. session_ok last (take 644 (next 644 w i z)) (take 10240 (next 10240 b i z))) ∙ rest (sym (sessions_true last n w b f) ∙ e) i (omega arith)

pub session_held : (last : ℕ) (w : List ℕ) (b : Bytes) → valid_sessions last w b ≡ true → (i : ℕ) → i < 16 → Held (words_of_session i w) (bytes_of_session i b)
unfolding valid_sessions words_of_session bytes_of_session
session_held last w b e i h =
    let k : 10304 ≤ length w = leb-true 10304 (length w) (and_left (leb 10304 (length w)) _ e) in
    let r = and_right (leb 10304 (length w)) (leb 163840 (length b) and sessions_ok_in last 16 w b) e in
    let l : 163840 ≤ length b = leb-true 163840 (length b) (and_left (leb 163840 (length b)) _ r) in
    held_by_tests last (words_of_session i w) (bytes_of_session i b)
    (record { words = length_part_lem (i * 644) 644 w (omega arith); bytes = length_part_lem (i * 10240) 10240 b (omega arith) })
    (sessions_each last 16 w b (and_right (leb 163840 (length b)) (sessions_ok_in last 16 w b) r) i h)
