-- A session written back into its words and bytes is read again as that session and is valid where it is sound; a valid one is
-- sound; and writing one of the sixteen leaves the others.
use Prim.Native.Nat.{ℕ, zero, suc, ◌+◌, ◌*◌, ◌≤◌, ◌<◌}
use native.Mathlib.Omega.{arith}
use mathlib.Core.List.{List, ◌++◌, map, append_assoc}
use mathlib.Core.Bool.{Bool, true, false, cond, false≢true}
use Rattle.std.specs.Prelude.{Option, None, Some}
use mathlib.Core.Path.{◌≡◌, refl, sym, ap, ◌∙◌}
use native.Mathlib.Decide.{dec_lt, ℕ_discrete}
use lib.Dec.{leb, eqb}
use lib.ListN.{length, take, drop, length-append, length-map}
use lib.Seq.{take_at, drop_at, drop-drop, take_all}
use borrow.Author.Tests.{le-leb, leb-true}
use Rattle.command_spec.proofs.Parts.{split_length, split_lengths}
use Rattle.base_key.specs.Bytes.{Bytes, part, over_front, concat, total}
use Rattle.base_key.specs.Keys.{Key}
use Rattle.base_key.proofs.Bytes.{and_left, and_right, and_both, length_part_lem, length_over_front, length_concat}
use Rattle.command_spec.specs.Names.{Args}
use Rattle.store_memtable.specs.Table.{Entry}
use Rattle.command_spec.specs.Session.{Watching, watched_keys, watched_sequences, Session}
use Rattle.command_spec.specs.Sessions.{split_by, multi_word, failed_word, watched_word, queued_word, key_lengths, key_sequences, argument_counts, argument_lengths, keys_in, queue_in, yes?, paired, session_from, ascending, all_queueable, all_positive, none_above, watch_ok, queue_ok, session_ok, flag_word, multi_of, queue_of, session_words, session_bytes, words_of_session, bytes_of_session, session_at, sessions_ok_in, valid_sessions, leave_session_words, leave_session_bytes}
use Rattle.command_spec.proofs.WatchLaws.{none_later}
use Rattle.command_spec.proofs.SessionLaws.{QueueSound, WatchSound, QueueHolds, SessionSound}
use Rattle.command_spec.proofs.SplitLaws.{split_back, split_whole, concat_split, front_back, length_replaced, part_self, part_before, part_behind, paired_keys, paired_sequences, paired_back}

-- A VALID SESSION IS SOUND. `w` and `b` are its own words and bytes.
module _ (last : ℕ) (w : List ℕ) (b : Bytes) (lw : length w ≡ 644) (lb : length b ≡ 10240) where
  watch_sound : watch_ok last w b ≡ true → WatchSound last (paired (keys_in w b) (key_sequences w b))
  unfolding watch_ok keys_in
  watch_sound e =
      let e₁ = and_right (leb (watched_word w b) 32) _ e in
      let e₂ = and_right (leb (total (key_lengths w b)) 2048) _ e₁ in
      let count : watched_word w b ≤ 32 = leb-true _ _ (and_left _ _ e) in
      let size : total (key_lengths w b) ≤ 2048 = leb-true _ _ (and_left _ _ e₁) in
      let lengths : map length (keys_in w b) ≡ key_lengths w b = split_lengths (key_lengths w b) (part 0 2048 b) (rw (length_part_lem 0 2048 b (omega arith)) size) in
      let many : length (keys_in w b) ≡ watched_word w b = split_length (key_lengths w b) (part 0 2048 b) ∙ length_part_lem 4 (watched_word w b) w (omega arith) in
      let as_many : length (key_sequences w b) ≡ length (keys_in w b) = length_part_lem 36 (watched_word w b) w (omega arith) ∙ sym many in
      let keys : watched_keys (paired (keys_in w b) (key_sequences w b)) ≡ keys_in w b = paired_keys (keys_in w b) (key_sequences w b) in
      let sequences : watched_sequences (paired (keys_in w b) (key_sequences w b)) ≡ key_sequences w b = paired_sequences (keys_in w b) (key_sequences w b) as_many in
      record {
        counted = omega (arith, sym (length-map (paired (keys_in w b) (key_sequences w b)) (λ (x : Entry ℕ). x.0)) ∙ ap length keys);
        sized = rw (keys, lengths) size;
        order = rw keys (and_left _ _ e₂);
        bound = rw sequences (and_right (ascending (keys_in w b)) _ e₂);
      }

  queue_sound : queue_ok w b ≡ true → QueueSound (queue_in w b)
  unfolding queue_ok queue_in
  queue_sound e =
      let e₁ = and_right (leb (queued_word w b) 64) _ e in
      let e₂ = and_right (leb (total (argument_counts w b)) 512) _ e₁ in
      let e₃ = and_right (leb (total (argument_lengths w b)) 8192) _ e₂ in
      let e₄ = and_right (all_positive (argument_counts w b)) _ e₃ in
      let count : queued_word w b ≤ 64 = leb-true _ _ (and_left _ _ e) in
      let args : total (argument_counts w b) ≤ 512 = leb-true _ _ (and_left _ _ e₁) in
      let size : total (argument_lengths w b) ≤ 8192 = leb-true _ _ (and_left _ _ e₂) in
      let pieces : List Bytes = split_by (argument_lengths w b) (part 2048 8192 b) in
      let some-pieces : length pieces ≡ total (argument_counts w b) = split_length (argument_lengths w b) (part 2048 8192 b) ∙ length_part_lem 132 (total (argument_counts w b)) w (omega arith) in
      let counts : map length (queue_in w b) ≡ argument_counts w b = split_lengths (argument_counts w b) pieces (omega arith) in
      let joined : concat (queue_in w b) ≡ pieces = concat_split (argument_counts w b) pieces (sym some-pieces) in
      let lengths : map length pieces ≡ argument_lengths w b = split_lengths (argument_lengths w b) (part 2048 8192 b) (rw (length_part_lem 2048 8192 b (omega arith)) size) in
      let many : length (queue_in w b) ≡ queued_word w b = split_length (argument_counts w b) pieces ∙ length_part_lem 68 (queued_word w b) w (omega arith) in
      record {
        counted = omega arith;
        arguments = rw counts args;
        sized = rw (joined, lengths) size;
        positive = rw counts (and_left _ _ e₃);
        names = and_left _ _ e₄;
      }

  pub session_sound : session_ok last w b ≡ true → SessionSound last (session_from w b)
  unfolding session_ok session_from
  session_sound e = record { watch = watch_sound (and_left _ _ e); queue = go (yes? (multi_word w b)) (queue_sound (and_right (watch_ok last w b) _ e)) }
    where
      go : (t : Bool) → QueueSound (queue_in w b) → QueueHolds (cond t (Some (queue_in w b)) None)
      go true g = g
      go false g = tt

-- A FLAG
pub flag_nonzero : (n : ℕ) → (n ≡ 0 → ⊥) → yes? n ≡ true
flag_nonzero zero h = absurd (h refl)
flag_nonzero (suc n) h = refl

pub flag_zero : (n : ℕ) → yes? n ≡ false → n ≡ 0
flag_zero zero e = refl
flag_zero (suc n) e = absurd (false≢true (sym e))

-- A SOUND SESSION WRITTEN BACK.
flag_back : (t : Bool) (old : ℕ) → yes? (flag_word t old) ≡ t
unfolding flag_word
flag_back false old = refl
flag_back true zero = refl
flag_back true (suc n) = refl

record Small (x : Watching) (q : List Args) : Type 0 where
  keys : length x ≤ 32
  key_bytes : total (map length (watched_keys x)) ≤ 2048
  commands : length q ≤ 64
  arguments : total (map length q) ≤ 512
  argument_bytes : total (map length (concat q)) ≤ 8192

module _ (last : ℕ) (s : Session) (good : SessionSound last s) where
  small : Small s.watch (queue_of s.queue)
  small =
      let c = queued s.queue good.queue in
      record { keys = good.watch.counted; key_bytes = good.watch.sized; commands = c.0; arguments = c.1; argument_bytes = c.2 }
    where
      queued : (x : Option (List Args)) → QueueHolds x → (length (queue_of x) ≤ 64) × (total (map length (queue_of x)) ≤ 512) × (total (map length (concat (queue_of x))) ≤ 8192)
      queued None h = unfold total concat in (omega arith, omega arith, omega arith)
      queued (Some x) h = (h.counted, h.arguments, h.sized)

  module _ (w : List ℕ) (b : Bytes) (lw : length w ≡ 644) (lb : length b ≡ 10240) where
    abbrev ks : List Key
    ks = watched_keys s.watch

    abbrev ns : List ℕ
    ns = watched_sequences s.watch

    abbrev q : List Args
    q = queue_of s.queue

    abbrev W : List ℕ
    W = session_words s w b

    abbrev B : Bytes
    B = session_bytes s b

    abbrev key_part : List ℕ
    key_part = over_front (map length ks) (part 4 32 w)

    abbrev sequence_part : List ℕ
    sequence_part = over_front ns (part 36 32 w)

    abbrev count_part : List ℕ
    count_part = over_front (map length q) (part 68 64 w)

    abbrev length_part : List ℕ
    length_part = over_front (map length (concat q)) (part 132 512 w)

    abbrev key_text : Bytes
    key_text = over_front (concat ks) (part 0 2048 b)

    abbrev queue_text : Bytes
    queue_text = over_front (concat (concat q)) (part 2048 8192 b)

    long_keys : length key_part ≡ 32
    long_keys =
        let n = length_part_lem 4 32 w (omega arith) in
        length_over_front (map length ks) (part 4 32 w) (omega (arith, length-map ks length, length-map s.watch (λ (x : Entry ℕ). x.0), small.keys)) ∙ n

    long_sequences : length sequence_part ≡ 32
    long_sequences =
        let n = length_part_lem 36 32 w (omega arith) in
        length_over_front ns (part 36 32 w) (omega (arith, length-map s.watch (λ (x : Entry ℕ). x.1), small.keys)) ∙ n

    long_counts : length count_part ≡ 64
    long_counts =
        let n = length_part_lem 68 64 w (omega arith) in
        length_over_front (map length q) (part 68 64 w) (omega (arith, length-map q length, small.commands)) ∙ n

    long_lengths : length length_part ≡ 512
    long_lengths =
        let n = length_part_lem 132 512 w (omega arith) in
        length_over_front (map length (concat q)) (part 132 512 w) (omega (arith, length-map (concat q) length, length_concat q, small.arguments)) ∙ n

    long_key_text : length key_text ≡ 2048
    long_key_text =
        let n = length_part_lem 0 2048 b (omega arith) in
        length_over_front (concat ks) (part 0 2048 b) (omega (arith, length_concat ks, small.key_bytes)) ∙ n

    long_queue_text : length queue_text ≡ 8192
    long_queue_text =
        let n = length_part_lem 2048 8192 b (omega arith) in
        length_over_front (concat (concat q)) (part 2048 8192 b) (omega (arith, length_concat (concat q), small.argument_bytes)) ∙ n

    pub words_long : length W ≡ 644
    unfolding session_words
    words_long =
        let n : length (key_part ++ sequence_part ++ count_part ++ length_part) ≡ 640 =
        length-append (key_part ++ sequence_part ++ count_part) length_part
        ∙ rw (length-append (key_part ++ sequence_part) count_part, length-append key_part sequence_part) (omega (arith, long_keys, long_sequences, long_counts, long_lengths)) in
        omega arith

    pub bytes_long : length B ≡ 10240
    unfolding session_bytes
    bytes_long = length-append key_text queue_text ∙ omega (arith, long_key_text, long_queue_text)

    behind_header : drop 4 W ≡ key_part ++ (sequence_part ++ (count_part ++ length_part))
    unfolding session_words
    behind_header = append_assoc (key_part ++ sequence_part) count_part length_part ∙ append_assoc key_part sequence_part (count_part ++ length_part)

    key_lengths_lem : key_lengths W B ≡ map length ks
    key_lengths_lem =
        let n : watched_word W B ≡ length ks = unfold session_words in refl in
        (λ z. take (n z) (behind_header z)) ∙ front_back (map length ks) (part 4 32 w) (sequence_part ++ (count_part ++ length_part)) (length ks) (length-map ks length)

    behind_keys : drop 36 W ≡ sequence_part ++ (count_part ++ length_part)
    behind_keys = sym (drop-drop 32 4 W) ∙ ap (drop 32) behind_header ∙ drop_at key_part (sequence_part ++ (count_part ++ length_part)) 32 long_keys

    sequences : key_sequences W B ≡ ns
    sequences =
        let n : watched_word W B ≡ length ks = unfold session_words in refl in
        (λ z. take (n z) (behind_keys z))
        ∙ front_back ns (part 36 32 w) (count_part ++ length_part) (length ks) (length-map s.watch (λ (x : Entry ℕ). x.1) ∙ sym (length-map s.watch (λ (x : Entry ℕ). x.0)))

    behind_sequences : drop 68 W ≡ count_part ++ length_part
    behind_sequences = sym (drop-drop 32 36 W) ∙ ap (drop 32) behind_keys ∙ drop_at sequence_part (count_part ++ length_part) 32 long_sequences

    counts : argument_counts W B ≡ map length q
    counts =
        let n : queued_word W B ≡ length q = unfold session_words in refl in
        (λ z. take (n z) (behind_sequences z)) ∙ front_back (map length q) (part 68 64 w) length_part (length q) (length-map q length)

    behind_counts : drop 132 W ≡ length_part
    behind_counts = sym (drop-drop 64 68 W) ∙ ap (drop 64) behind_sequences ∙ drop_at count_part length_part 64 long_counts

    lengths : argument_lengths W B ≡ map length (concat q)
    unfolding over_front
    lengths =
        (λ z. take (total (counts z)) (behind_counts z))
        ∙ take_at (map length (concat q)) _ (total (map length q)) (length-map (concat q) length ∙ length_concat q)

    keys_back : keys_in W B ≡ ks
    unfolding keys_in
    keys_back =
        let text : part 0 2048 B ≡ concat ks ++ drop (length (concat ks)) (part 0 2048 b) =
        unfold session_bytes over_front in take_at key_text queue_text 2048 long_key_text in
        (λ z. split_by (key_lengths_lem z) (text z)) ∙ split_back ks _

    queue_back : queue_in W B ≡ q
    unfolding queue_in
    queue_back =
        let rest : drop 2048 B ≡ queue_text = unfold session_bytes in drop_at key_text queue_text 2048 long_key_text in
        let text : part 2048 8192 B ≡ concat (concat q) ++ drop (length (concat (concat q))) (part 2048 8192 b) =
        ap (take 8192) rest ∙ take_all 8192 queue_text (omega (arith, long_queue_text)) ∙ (unfold over_front in refl) in
        (λ z. split_by (counts z) (((λ y. split_by (lengths y) (text y)) ∙ split_back (concat q) _) z)) ∙ split_whole q

    pub session_back : session_from W B ≡ s
    unfolding session_from
    session_back =
        let multi : yes? (multi_word W B) ≡ multi_of s.queue = unfold session_words in flag_back (multi_of s.queue) (multi_word w b) in
        let failed : yes? (failed_word W B) ≡ s.failed = unfold session_words in flag_back s.failed (failed_word w b) in
        let queue : cond (yes? (multi_word W B)) (Some (queue_in W B)) None ≡ s.queue = (λ z. cond (multi z) (Some (queue_back z)) None) ∙ queued s.queue in
        let watch : paired (keys_in W B) (key_sequences W B) ≡ s.watch = (λ z. paired (keys_back z) (sequences z)) ∙ paired_back s.watch in
        λ z. record { queue = queue z; failed = failed z; watch = watch z }
      where
        queued : (x : Option (List Args)) → cond (multi_of x) (Some (queue_of x)) None ≡ x
        queued None = refl
        queued (Some x) = refl

    watch_valid : watch_ok last W B ≡ true
    unfolding watch_ok
    watch_valid =
        let watched : watched_word W B ≡ length ks = unfold session_words in refl in
        let k : leb (watched_word W B) 32 ≡ true = le-leb (watched_word W B) 32 (omega (arith, length-map s.watch (λ (x : Entry ℕ). x.0), small.keys)) in
        let t : leb (total (key_lengths W B)) 2048 ≡ true = le-leb (total (key_lengths W B)) 2048 (rw key_lengths_lem small.key_bytes) in
        let o : ascending (keys_in W B) ≡ true = ap ascending keys_back ∙ good.watch.order in
        let n : none_above last (key_sequences W B) ≡ true = ap (none_above last) sequences ∙ good.watch.bound in
        and_both _ _ k (and_both _ _ t (and_both _ _ o n))

    queue_valid : queue_ok W B ≡ true
    unfolding queue_ok
    queue_valid =
        let many : queued_word W B ≡ length q = unfold session_words in refl in
        let c : leb (queued_word W B) 64 ≡ true = le-leb (queued_word W B) 64 (omega (arith, small.commands)) in
        let a : leb (total (argument_counts W B)) 512 ≡ true = le-leb (total (argument_counts W B)) 512 (rw counts small.arguments) in
        let t : leb (total (argument_lengths W B)) 8192 ≡ true = le-leb (total (argument_lengths W B)) 8192 (rw lengths small.argument_bytes) in
        let p : all_positive (argument_counts W B) ≡ true = ap all_positive counts ∙ positive s.queue good.queue in
        let n : all_queueable (queue_in W B) ≡ true = ap all_queueable queue_back ∙ names s.queue good.queue in
        let multi : yes? (multi_word W B) ≡ multi_of s.queue = unfold session_words in flag_back (multi_of s.queue) (multi_word w b) in
        let m : cond (yes? (multi_word W B)) true (eqb (queued_word W B) 0) ≡ true = (λ z. cond (multi z) true (eqb (many z) 0)) ∙ inside s.queue in
        and_both _ _ c (and_both _ _ a (and_both _ _ t (and_both _ _ p (and_both _ _ n m))))
      where
        positive : (x : Option (List Args)) → QueueHolds x → all_positive (map length (queue_of x)) ≡ true
        positive None h = unfold all_positive in refl
        positive (Some x) h = h.positive

        names : (x : Option (List Args)) → QueueHolds x → all_queueable (queue_of x) ≡ true
        names None h = unfold all_queueable in refl
        names (Some x) h = h.names

        inside : (x : Option (List Args)) → cond (multi_of x) true (eqb (length (queue_of x)) 0) ≡ true
        inside None = refl
        inside (Some x) = refl

    pub session_valid : session_ok last W B ≡ true
    unfolding session_ok
    session_valid = and_both _ _ watch_valid queue_valid

-- ALL SIXTEEN.
module _ (last : ℕ) (w : List ℕ) (b : Bytes) where
  ok_at : (n j i : ℕ) → sessions_ok_in last n (drop (j * 644) w) (drop (j * 10240) b) ≡ true → j ≤ i → i < j + n → session_ok last (words_of_session i w) (bytes_of_session i b) ≡ true
  unfolding sessions_ok_in
  ok_at zero j i e h k = absurd (omega arith)
  ok_at (suc n) j i e h k = go (session_ok last (part (j * 644) 644 w) (part (j * 10240) 10240 b)) refl (dec_lt j i) e (λ q l. ok_at n (suc j) i q l (omega arith))
    where
      next : sessions_ok_in last n (drop 644 (drop (j * 644) w)) (drop 10240 (drop (j * 10240) b)) ≡ true → sessions_ok_in last n (drop (suc j * 644) w) (drop (suc j * 10240) b) ≡ true
      next q =
          let x : j * 644 + 644 ≡ suc j * 644 = omega arith in
          let y : j * 10240 + 10240 ≡ suc j * 10240 = omega arith in
          let p : drop 644 (drop (j * 644) w) ≡ drop (suc j * 644) w = drop-drop 644 (j * 644) w ∙ ap (λ (m : ℕ). drop m w) x in
          let r : drop 10240 (drop (j * 10240) b) ≡ drop (suc j * 10240) b = drop-drop 10240 (j * 10240) b ∙ ap (λ (m : ℕ). drop m b) y in
          (λ z. sessions_ok_in last n (sym p z) (sym r z)) ∙ q

      here : session_ok last (part (j * 644) 644 w) (part (j * 10240) 10240 b) ≡ true → j ≡ i → session_ok last (words_of_session i w) (bytes_of_session i b) ≡ true
      here q d = unfold words_of_session bytes_of_session in ((λ z. session_ok last (part (sym d z * 644) 644 w) (part (sym d z * 10240) 10240 b)) ∙ q)

      go : (t : Bool) → session_ok last (part (j * 644) 644 w) (part (j * 10240) 10240 b) ≡ t → Dec (j < i)
          → sessions_ok_in last (suc n) (drop (j * 644) w) (drop (j * 10240) b) ≡ true
          → (sessions_ok_in last n (drop (suc j * 644) w) (drop (suc j * 10240) b) ≡ true → j < i → session_ok last (words_of_session i w) (bytes_of_session i b) ≡ true)
          → session_ok last (words_of_session i w) (bytes_of_session i b) ≡ true
      go false p d q ih = absurd (false≢true (rw (p, sessions_ok_in) at q))
      go true p (yes l) q ih = ih (next (rw (p, sessions_ok_in) at q)) l
      go true p (no l) q ih = here p (omega (arith, h))

  all_ok : (n j : ℕ) → ((i : ℕ) → j ≤ i → i < j + n → session_ok last (words_of_session i w) (bytes_of_session i b) ≡ true)
      → sessions_ok_in last n (drop (j * 644) w) (drop (j * 10240) b) ≡ true
  unfolding sessions_ok_in words_of_session bytes_of_session
  all_ok zero j f = refl
  all_ok (suc n) j f =
      let x : j * 644 + 644 ≡ suc j * 644 = omega arith in
      let y : j * 10240 + 10240 ≡ suc j * 10240 = omega arith in
      let p : drop 644 (drop (j * 644) w) ≡ drop (suc j * 644) w = drop-drop 644 (j * 644) w ∙ ap (λ (m : ℕ). drop m w) x in
      let r : drop 10240 (drop (j * 10240) b) ≡ drop (suc j * 10240) b = drop-drop 10240 (j * 10240) b ∙ ap (λ (m : ℕ). drop m b) y in
      let here : session_ok last (take 644 (drop (j * 644) w)) (take 10240 (drop (j * 10240) b)) ≡ true = f j (omega arith) (omega arith) in
      rw (here, sessions_ok_in) ((λ z. sessions_ok_in last n (p z) (r z)) ∙ all_ok n (suc j) (λ i h k. f i (omega arith) (omega arith)))

-- a later store keeps a session valid
ok_later : (last next : ℕ) → last ≤ next → (w : List ℕ) (b : Bytes) → session_ok last w b ≡ true → session_ok next w b ≡ true
unfolding session_ok watch_ok
ok_later last next h w b e =
    let e₀ = and_left (watch_ok last w b) _ e in
    let e₁ = and_right (leb (watched_word w b) 32) _ e₀ in
    let e₂ = and_right (leb (total (key_lengths w b)) 2048) _ e₁ in
    and_both _ _
    (and_both _ _ (and_left _ _ e₀) (and_both _ _ (and_left _ _ e₁) (and_both _ _ (and_left _ _ e₂) (none_later last next (key_sequences w b) h (and_right (ascending (keys_in w b)) _ e₂)))))
    (and_right (watch_ok last w b) _ e)

-- what validity tells, and what gives it
pub record Sixteen (last : ℕ) (w : List ℕ) (b : Bytes) : Type 0 where
  pub words : 10304 ≤ length w
  pub bytes : 163840 ≤ length b
  pub each : (i : ℕ) → i < 16 → session_ok last (words_of_session i w) (bytes_of_session i b) ≡ true

pub sixteen : (last : ℕ) (w : List ℕ) (b : Bytes) → valid_sessions last w b ≡ true → Sixteen last w b
unfolding valid_sessions
sixteen last w b e =
    let e₁ = and_right (leb 10304 (length w)) _ e in
    record {
      words = leb-true _ _ (and_left (leb 10304 (length w)) _ e);
      bytes = leb-true _ _ (and_left (leb 163840 (length b)) _ e₁);
      each = λ i h. ok_at last w b 16 0 i (and_right (leb 163840 (length b)) _ e₁) (omega arith) (omega arith);
    }

pub sixteen_valid : (last : ℕ) (w : List ℕ) (b : Bytes) → Sixteen last w b → valid_sessions last w b ≡ true
unfolding valid_sessions
sixteen_valid last w b g =
    and_both _ _ (le-leb 10304 (length w) g.words) (and_both _ _ (le-leb 163840 (length b) g.bytes) (all_ok last w b 16 0 (λ i h k. g.each i (omega arith))))

pub sixteen_later : (last next : ℕ) → last ≤ next → (w : List ℕ) (b : Bytes) → Sixteen last w b → Sixteen next w b
sixteen_later last next h w b g = record { words = g.words; bytes = g.bytes; each = λ i k. ok_later last next h (words_of_session i w) (bytes_of_session i b) (g.each i k) }

-- every session of a valid sixteen is sound
module _ (last : ℕ) (w : List ℕ) (b : Bytes) (g : Sixteen last w b) where
  pub own_words : (i : ℕ) → i < 16 → length (words_of_session i w) ≡ 644
  unfolding words_of_session
  own_words i h = length_part_lem (i * 644) 644 w (omega (arith, g.words))

  pub own_bytes : (i : ℕ) → i < 16 → length (bytes_of_session i b) ≡ 10240
  unfolding bytes_of_session
  own_bytes i h = length_part_lem (i * 10240) 10240 b (omega (arith, g.bytes))

  pub each_sound : (i : ℕ) → i < 16 → SessionSound last (session_at i w b)
  unfolding session_at
  each_sound i h = session_sound last (words_of_session i w) (bytes_of_session i b) (own_words i h) (own_bytes i h) (g.each i h)

  -- SESSION i WRITTEN BACK, with a last sequence that may have grown.
  module _ (i : ℕ) (h : i < 16) (next : ℕ) (grown : last ≤ next) (s : Session) (good : SessionSound next s) where
    abbrev w' : List ℕ
    w' = leave_session_words i s w b

    abbrev b' : Bytes
    b' = leave_session_bytes i s b

    abbrev wi : List ℕ
    wi = words_of_session i w

    abbrev bi : Bytes
    bi = bytes_of_session i b

    new_words : length (session_words s wi bi) ≡ 644
    new_words = words_long next s good wi bi (own_words i h) (own_bytes i h)

    new_bytes : length (session_bytes s bi) ≡ 10240
    new_bytes = bytes_long next s good wi bi (own_words i h) (own_bytes i h)

    words_at : words_of_session i w' ≡ session_words s wi bi
    unfolding leave_session_words words_of_session bytes_of_session
    words_at = part_self w (session_words s wi bi) (i * 644) (suc i * 644) (omega (arith, new_words)) (omega (arith, g.words)) 644 new_words

    bytes_at : bytes_of_session i b' ≡ session_bytes s bi
    unfolding leave_session_bytes bytes_of_session
    bytes_at = part_self b (session_bytes s bi) (i * 10240) (suc i * 10240) (omega (arith, new_bytes)) (omega (arith, g.bytes)) 10240 new_bytes

    other_words : (j : ℕ) → j < 16 → (j ≡ i → ⊥) → words_of_session j w' ≡ words_of_session j w
    unfolding leave_session_words words_of_session bytes_of_session
    other_words j k n = side (dec_lt j i)
      where
        side : Dec (j < i) → part (j * 644) 644 (take (i * 644) w ++ (session_words s wi bi ++ drop (suc i * 644) w)) ≡ part (j * 644) 644 w
        side (yes l) = part_before w (session_words s wi bi) (i * 644) (suc i * 644) (omega (arith, new_words)) (omega (arith, g.words)) (j * 644) 644 (omega arith)
        side (no l) = part_behind w (session_words s wi bi) (i * 644) (suc i * 644) (omega (arith, new_words)) (omega (arith, g.words)) (j * 644) 644 (omega (arith, n))

    other_bytes : (j : ℕ) → j < 16 → (j ≡ i → ⊥) → bytes_of_session j b' ≡ bytes_of_session j b
    unfolding leave_session_bytes bytes_of_session
    other_bytes j k n = side (dec_lt j i)
      where
        side : Dec (j < i) → part (j * 10240) 10240 (take (i * 10240) b ++ (session_bytes s bi ++ drop (suc i * 10240) b)) ≡ part (j * 10240) 10240 b
        side (yes l) = part_before b (session_bytes s bi) (i * 10240) (suc i * 10240) (omega (arith, new_bytes)) (omega (arith, g.bytes)) (j * 10240) 10240 (omega arith)
        side (no l) = part_behind b (session_bytes s bi) (i * 10240) (suc i * 10240) (omega (arith, new_bytes)) (omega (arith, g.bytes)) (j * 10240) 10240 (omega (arith, n))

    pub own_back : session_at i w' b' ≡ s
    unfolding session_at
    own_back = (λ z. session_from (words_at z) (bytes_at z)) ∙ session_back next s good wi bi (own_words i h) (own_bytes i h)

    pub others_back : (j : ℕ) → j < 16 → (j ≡ i → ⊥) → session_at j w' b' ≡ session_at j w b
    unfolding session_at
    others_back j k n = λ z. session_from (other_words j k n z) (other_bytes j k n z)

    words_stay : length w' ≡ length w
    unfolding leave_session_words words_of_session bytes_of_session
    words_stay = length_replaced w (session_words s wi bi) (i * 644) (suc i * 644) (omega (arith, new_words)) (omega (arith, g.words))

    bytes_stay : length b' ≡ length b
    unfolding leave_session_bytes bytes_of_session
    bytes_stay = length_replaced b (session_bytes s bi) (i * 10240) (suc i * 10240) (omega (arith, new_bytes)) (omega (arith, g.bytes))

    pub still_sixteen : Sixteen next w' b'
    still_sixteen = record { words = omega (arith, words_stay, g.words); bytes = omega (arith, bytes_stay, g.bytes); each = at }
      where
        at : (j : ℕ) → j < 16 → session_ok next (words_of_session j w') (bytes_of_session j b') ≡ true
        at j k = which (ℕ_discrete j i)
          where
            which : Dec (j ≡ i) → session_ok next (words_of_session j w') (bytes_of_session j b') ≡ true
            which (yes e) = rw (e, words_at, bytes_at) (session_valid next s good wi bi (own_words i h) (own_bytes i h))
            which (no n) = rw (other_words j k n, other_bytes j k n) (ok_later last next grown (words_of_session j w) (bytes_of_session j b) (g.each j k))
