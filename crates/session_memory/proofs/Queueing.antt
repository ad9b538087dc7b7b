-- Laws of a command appended to a queue. Assumes nothing.
use mathlib.Core.Path.{◌≡◌, refl, sym, ap, ◌∙◌}
use mathlib.Core.Bool.{Bool, true, false, ◌&&◌}
use mathlib.Core.List.{List, [], ◌∷◌, ◌++◌, map, append-nil}
use Prim.Native.Nat.{ℕ, zero, suc, ◌+◌, ◌-◌, ◌*◌, ◌<◌, ◌≤◌}
use native.Mathlib.Nat.{zero-add, add-zero}
use native.Mathlib.Numerals.{add-one}
use native.Mathlib.Omega.{arith}
use borrow.Author.Tests.{le-leb, lt-leb, leb-true, leb-false}
use lib.Dec.{leb}
use lib.ListN.{length, get_or, take, set, length-append, length-set}
use Rattle.base_key.proofs.Bytes.{length_part_lem, concat_append}
use Rattle.base_key.specs.Bytes.{Bytes, part, over_front, concat, total, put_at}
use Rattle.command_spec.specs.Command.{argument}
use Rattle.command_spec.specs.Session.{queue_fits}
use Rattle.command_spec.specs.Sessions.{queue_in, session_from, flag_word, session_words, session_bytes}
use Rattle.command_spec.specs.Lent.{capped}
use Rattle.command_spec.specs.Held.{Held}
use Rattle.command_spec.specs.Places.{argument_at, arguments_at, lengths_at, PartsIn, QueueSizes, Takes, HasRoom, queuing, Appended}
use Rattle.command_spec.proofs.Parts.{total_append}
use Rattle.session_memory.proofs.Sums.{capped_low, capped_high}
use Rattle.base_key.proofs.Writes.{written_none, written_more, written_set, written_one, written_first, written_second, length_written, over_behind}
use Rattle.session_memory.proofs.Kept.{front_part, data_length, queue_data_length, shape, bytes_shape, queue_count, queue_counts, queue_lengths, queue_bytes, failed_kept, watched_kept, keys_table, sequences_table, keys_data}
use Rattle.command_spec.proofs.PlaceLaws.{lengths_next, lengths_snoc, lengths_count, arguments_snoc, arguments_count, arguments_lengths, argument_is}

-- pieces one behind the other
pub concat_one : {A : Type 0} (s : List (List A)) (x : List A) → concat (s ++ x ∷ []) ≡ concat s ++ x
unfolding concat
concat_one s x = concat_append s (x ∷ []) ∙ ap (λ (l : List _). concat s ++ l) (append-nil x)

pub map-append : {A B : Type 0} (f : A → B) (s t : List A) → map f (s ++ t) ≡ map f s ++ map f t
map-append f [] t = refl
map-append f (x ∷ s) t = ap (λ (l : List _). f x ∷ l) (map-append f s t)

-- WRITING THE LENGTHS: the first i of them stand from `at` on.
pub record Listing (w : List ℕ) (at : ℕ) (p : List ℕ) (count : ℕ) (a : List ℕ) (i : ℕ) : Type 0 where
  pub within : i ≤ count
  pub same : length a ≡ length w
  pub is : a ≡ put_at at (lengths_at 0 i p) w

pub listing_none : (w : List ℕ) (at : ℕ) (p : List ℕ) (count : ℕ) → Listing w at p count w 0
unfolding lengths_at
listing_none w at p count = record { within = omega arith; same = refl; is = sym (written_none at w) }

module _ {w : List ℕ} {at : ℕ} {p : List ℕ} {count : ℕ} {a : List ℕ} {i : ℕ} (l : Listing w at p count a i) where
  pub listing_more : at + count ≤ length w → i < count → Listing w at p count (set a (at + i) (get_or p (2 * i + 1) 0)) (i + 1)
  listing_more room h =
      let c : length (lengths_at 0 i p) ≡ i = lengths_count 0 i p in
      record {
        within = omega arith;
        same = length-set a _ _ ∙ l.same;
        is = (λ z. set (l.is z) (at + sym c z) (get_or p (2 * i + 1) 0)) ∙ written_set at (lengths_at 0 i p) w (get_or p (2 * i + 1) 0) (omega arith)
            ∙ ap (λ (x : List ℕ). put_at at x w) (ap (λ (m : ℕ). lengths_at 0 i p ++ get_or p (2 * m + 1) 0 ∷ []) (sym (zero-add i)) ∙ sym (lengths_snoc 0 i p) ∙ ap (λ (m : ℕ). lengths_at 0 m p) (sym (add-one i)));
      }

-- WRITING THE ARGUMENTS: the first i of them stand from `at` on, up to `pos`.
pub record Storing (b : Bytes) (at : ℕ) (s : Bytes) (p : List ℕ) (count : ℕ) (a : Bytes) (pos i : ℕ) : Type 0 where
  pub within : i ≤ count
  pub same : length a ≡ length b
  pub is : a ≡ put_at at (concat (arguments_at 0 i p s)) b
  pub pos_is : pos ≡ at + length (concat (arguments_at 0 i p s))
  pub left : pos + total (lengths_at i (count - i) p) ≡ at + total (lengths_at 0 count p)

pub storing_none : (b : Bytes) (at : ℕ) (s : Bytes) (p : List ℕ) (count : ℕ) → Storing b at s p count b at 0
unfolding arguments_at concat
storing_none b at s p count = record {
  within = omega arith;
  same = refl;
  is = sym (written_none at b);
  pos_is = sym (add-zero at);
  left = let e : count - 0 ≡ count = omega arith in ap (λ (n : ℕ). at + total (lengths_at 0 n p)) e;
}

module _ {b : Bytes} {at : ℕ} {s : Bytes} {p : List ℕ} {count : ℕ} {a : Bytes} {pos i : ℕ} (k : Storing b at s p count a pos i) (ps : PartsIn p s count) where
  -- the next argument: there is room for it
  next_left : i < count → pos + (get_or p (2 * i + 1) 0 + total (lengths_at (i + 1) (count - (i + 1)) p)) ≡ at + total (lengths_at 0 count p)
  unfolding total
  next_left h = ap (λ (l : List ℕ). pos + total l) (sym (lengths_next p count i h)) ∙ k.left

  pub next_place : i < count → at + total (lengths_at 0 count p) ≤ length b → pos + get_or p (2 * i + 1) 0 ≤ length a
  next_place h room = omega (arith, next_left h, k.same)

  module _ (h : i < count) (room : at + total (lengths_at 0 count p) ≤ length b) {x : Bytes} (e : x ≡ argument i (arguments_at 0 count p s)) where
    argument_here : x ≡ argument_at i p s
    argument_here = e ∙ sym (argument_is p s count i h refl)

    argument_length : length x ≡ get_or p (2 * i + 1) 0
    argument_length = ap length argument_here ∙ length_part_lem (get_or p (2 * i) 0) (get_or p (2 * i + 1) 0) s (ps.inside i h)

    pub put_room : pos + length x ≤ length a
    put_room = omega (arith, next_place h room, argument_length)

    stored : concat (arguments_at 0 (i + 1) p s) ≡ concat (arguments_at 0 i p s) ++ x
    stored =
        ap (λ (m : ℕ). concat (arguments_at 0 m p s)) (add-one i) ∙ ap concat (arguments_snoc 0 i p s) ∙ concat_one (arguments_at 0 i p s) _
        ∙ ap (λ (m : ℕ). concat (arguments_at 0 i p s) ++ argument_at m p s) (zero-add i) ∙ ap (λ (y : Bytes). concat (arguments_at 0 i p s) ++ y) (sym argument_here)

    pub storing_more : {a' : Bytes} → a' ≡ put_at pos x a → Storing b at s p count a' (pos + length x) (i + 1)
    storing_more {a'} put_is =
        let t : Bytes = concat (arguments_at 0 i p s) in
        let r : at + length t + length x ≤ length b = omega (arith, next_left h, k.pos_is, argument_length) in
        let is' : a' ≡ put_at at (concat (arguments_at 0 (i + 1) p s)) b =
        put_is ∙ (λ z. put_at (k.pos_is z) x (k.is z)) ∙ written_more at t x b r ∙ ap (λ (y : Bytes). put_at at y b) (sym stored) in
        let l : length (concat (arguments_at 0 (i + 1) p s)) ≡ length t + length x = ap length stored ∙ length-append t x in
        record {
          within = omega arith;
          same = ap length is' ∙ length_written at (concat (arguments_at 0 (i + 1) p s)) b (omega arith);
          is = is';
          pos_is = omega (arith, k.pos_is, argument_length);
          left = omega (arith, next_left h, argument_length);
        }

-- THE LIMITS, in numbers: commands, arguments, bytes
module _ {w : List ℕ} {b : Bytes} {p : List ℕ} {s : Bytes} {count : ℕ} (h : Held w b) (ps : PartsIn p s count) where
  lengths_of : map length (arguments_at 0 count p s) ≡ lengths_at 0 count p
  lengths_of = arguments_lengths 0 count p s (λ j l. ps.inside j (omega arith))

  pub appended_counts : map length (queue_in w b ++ arguments_at 0 count p s ∷ []) ≡ part 68 (get_or w 3 0) w ++ count ∷ []
  appended_counts =
      map-append length (queue_in w b) (arguments_at 0 count p s ∷ []) ∙ (λ z. queue_counts h z ++ arguments_count 0 count p s z ∷ [])

  pub appended_lengths : map length (concat (queue_in w b ++ arguments_at 0 count p s ∷ [])) ≡ part 132 (total (part 68 (get_or w 3 0) w)) w ++ lengths_at 0 count p
  appended_lengths =
      ap (map length) (concat_one (queue_in w b) (arguments_at 0 count p s)) ∙ map-append length (concat (queue_in w b)) (arguments_at 0 count p s)
      ∙ (λ z. queue_lengths h z ++ lengths_of z)

  pub appended_bytes : concat (concat (queue_in w b ++ arguments_at 0 count p s ∷ []))
      ≡ take (total (part 132 (total (part 68 (get_or w 3 0) w)) w)) (part 2048 8192 b) ++ concat (arguments_at 0 count p s)
  appended_bytes =
      ap concat (concat_one (queue_in w b) (arguments_at 0 count p s)) ∙ concat_append (concat (queue_in w b)) (arguments_at 0 count p s)
      ∙ ap (λ (l : Bytes). l ++ concat (arguments_at 0 count p s)) (queue_bytes h)

  pub appended_count : length (queue_in w b ++ arguments_at 0 count p s ∷ []) ≡ get_or w 3 0 + 1
  appended_count = length-append (queue_in w b) (arguments_at 0 count p s ∷ []) ∙ ap (λ (n : ℕ). n + 1) (queue_count h)

  arguments_total : total (map length (queue_in w b ++ arguments_at 0 count p s ∷ [])) ≡ total (part 68 (get_or w 3 0) w) + count
  unfolding total
  arguments_total = ap total appended_counts ∙ total_append (part 68 (get_or w 3 0) w) (count ∷ []) ∙ ap (λ (n : ℕ). total (part 68 (get_or w 3 0) w) + n) (add-zero count)

  bytes_total : total (map length (concat (queue_in w b ++ arguments_at 0 count p s ∷ []))) ≡ total (part 132 (total (part 68 (get_or w 3 0) w)) w) + total (lengths_at 0 count p)
  bytes_total = ap total appended_lengths ∙ total_append (part 132 (total (part 68 (get_or w 3 0) w)) w) (lengths_at 0 count p)

  pub fits_as : queue_fits (queue_in w b ++ arguments_at 0 count p s ∷ [])
      ≡ (leb (get_or w 3 0 + 1) 64 && leb (total (part 68 (get_or w 3 0) w) + count) 512 && leb (total (part 132 (total (part 68 (get_or w 3 0) w)) w) + total (lengths_at 0 count p)) 8192)
  unfolding queue_fits
  fits_as = λ z. leb (appended_count z) 64 && leb (arguments_total z) 512 && leb (bytes_total z) 8192

module _ {w : List ℕ} (q : QueueSizes w) {n : ℕ} (e : n ≡ get_or w 3 0) where
  pub queue_full : {p : List ℕ} {count : ℕ} → 64 ≤ n → Takes w p count false
  queue_full h = record { is = λ b s k ps. sym (fits_as k ps ∙ rw (lt-leb (get_or w 3 0 + 1) 64 (omega arith))) }

  module _ {m : ℕ} (f : m ≡ capped 512 (total (part 68 n w))) where
    pub arguments_are : m ≡ total (part 68 (get_or w 3 0) w)
    arguments_are = f ∙ ap (λ (x : ℕ). capped 512 (total (part 68 x w))) e ∙ capped_low 512 (total (part 68 (get_or w 3 0) w)) q.few_arguments

    pub arguments_few : m ≤ 512
    arguments_few = omega (arith, arguments_are, q.few_arguments)

    pub arguments_full : {p : List ℕ} {count : ℕ} → n < 64 → 512 - m < count → Takes w p count false
    arguments_full {p} {count} l h = record {
      is = λ b s k ps.
          sym (fits_as k ps
          ∙ rw (le-leb (get_or w 3 0 + 1) 64 (omega arith), lt-leb (total (part 68 (get_or w 3 0) w) + count) 512 (omega (arith, arguments_are, arguments_few))));
    }

    module _ {u : ℕ} (g : u ≡ capped 8192 (total (part 132 m w))) where
      pub bytes_are : u ≡ total (part 132 (total (part 68 (get_or w 3 0) w)) w)
      bytes_are = g ∙ ap (λ (x : ℕ). capped 8192 (total (part 132 x w))) arguments_are ∙ capped_low 8192 (total (part 132 (total (part 68 (get_or w 3 0) w)) w)) q.room

      pub bytes_few : u ≤ 8192
      bytes_few = omega (arith, bytes_are, q.room)

      capped_test : (p : List ℕ) (count : ℕ) → leb (capped (8192 - u) (total (lengths_at 0 count p))) (8192 - u) ≡ leb (total (part 132 (total (part 68 (get_or w 3 0) w)) w) + total (lengths_at 0 count p)) 8192
      capped_test p count = go (leb (total (lengths_at 0 count p)) (8192 - u)) refl
        where
          go : (v : Bool) → leb (total (lengths_at 0 count p)) (8192 - u) ≡ v
              → leb (capped (8192 - u) (total (lengths_at 0 count p))) (8192 - u) ≡ leb (total (part 132 (total (part 68 (get_or w 3 0) w)) w) + total (lengths_at 0 count p)) 8192
          go true t =
              let x : total (lengths_at 0 count p) ≤ 8192 - u = leb-true (total (lengths_at 0 count p)) (8192 - u) t in
              ap (λ (y : ℕ). leb y (8192 - u)) (capped_low (8192 - u) (total (lengths_at 0 count p)) x) ∙ t
              ∙ sym (le-leb (total (part 132 (total (part 68 (get_or w 3 0) w)) w) + total (lengths_at 0 count p)) 8192 (omega (arith, bytes_are, bytes_few)))
          go false t =
              let x : 8192 - u < total (lengths_at 0 count p) = leb-false (total (lengths_at 0 count p)) (8192 - u) t in
              ap (λ (y : ℕ). leb y (8192 - u)) (capped_high (8192 - u) (total (lengths_at 0 count p)) x) ∙ lt-leb (8192 - u + 1) (8192 - u) (omega arith)
              ∙ sym (lt-leb (total (part 132 (total (part 68 (get_or w 3 0) w)) w) + total (lengths_at 0 count p)) 8192 (omega (arith, bytes_are, bytes_few)))

      pub bytes_test : (p : List ℕ) (count : ℕ) {more : ℕ} → more ≡ capped (8192 - u) (total (lengths_at 0 count p)) → n < 64 → count ≤ 512 - m → Takes w p count (leb more (8192 - u))
      bytes_test p count {more} c l h = record {
        is = λ b s k ps.
            ap (λ (x : ℕ). leb x (8192 - u)) c ∙ capped_test p count
            ∙ sym (fits_as k ps ∙ rw (le-leb (get_or w 3 0 + 1) 64 (omega arith), le-leb (total (part 68 (get_or w 3 0) w) + count) 512 (omega (arith, arguments_are, arguments_few))));
      }

flag_suc : (n : ℕ) → flag_word true (suc n) ≡ suc n
unfolding flag_word
flag_suc n = refl

-- APPENDED. The head, the keys' lengths and sequences, 68 words, then 64 counts, then 512 lengths.
module _ {w : List ℕ} {b : Bytes} {p : List ℕ} {s : Bytes} {count : ℕ} (h : Held w b) (ps : PartsIn p s count) (r : HasRoom w p count) where
  front : List ℕ
  front = get_or w 0 0 ∷ get_or w 1 0 ∷ get_or w 2 0 ∷ get_or w 3 0 ∷ (part 4 32 w ++ part 36 32 w)

  front_length : length front ≡ 68
  unfolding front
  front_length = let e : length (part 4 32 w ++ part 36 32 w) ≡ 64 = length-append (part 4 32 w) (part 36 32 w) ∙ rw (length_part_lem 4 32 w (omega (arith, h.words)), length_part_lem 36 32 w (omega (arith, h.words))) in omega arith

  counts_length : length (part 68 64 w) ≡ 64
  counts_length = length_part_lem 68 64 w (omega (arith, h.words))

  table_length : length (part 132 512 w) ≡ 512
  table_length = length_part_lem 132 512 w (omega (arith, h.words))

  cut : w ≡ (front ++ part 68 64 w) ++ part 132 512 w
  unfolding front
  cut = shape w h.words

  -- the lengths, behind those that are there
  lengths_put : (m : ℕ) → put_at (132 + m) (lengths_at 0 count p) w ≡ (front ++ part 68 64 w) ++ put_at m (lengths_at 0 count p) (part 132 512 w)
  lengths_put m =
      ap (put_at (132 + m) (lengths_at 0 count p)) cut
      ∙ written_second (front ++ part 68 64 w) (part 132 512 w) (lengths_at 0 count p) 132 m (length-append front (part 68 64 w) ∙ omega (arith, front_length, counts_length))

  -- the count, behind those that are there
  count_put : (l : List ℕ) → set ((front ++ part 68 64 w) ++ l) (68 + get_or w 3 0) count ≡ (front ++ put_at (get_or w 3 0) (count ∷ []) (part 68 64 w)) ++ l
  count_put l =
      let e : length (front ++ part 68 64 w) ≡ 132 = length-append front (part 68 64 w) ∙ omega (arith, front_length, counts_length) in
      let f : length ((front ++ part 68 64 w) ++ l) ≡ length (front ++ part 68 64 w) + length l = length-append (front ++ part 68 64 w) l in
      written_one (68 + get_or w 3 0) count ((front ++ part 68 64 w) ++ l) (omega (arith, r.command))
      ∙ written_first (front ++ part 68 64 w) l (count ∷ []) (68 + get_or w 3 0) (omega (arith, r.command))
      ∙ ap (λ (x : List ℕ). x ++ l) (written_second front (part 68 64 w) (count ∷ []) 68 (get_or w 3 0) front_length)

  flag_set : flag_word true (get_or w 0 0) ≡ get_or w 0 0
  flag_set = go (get_or w 0 0) r.inside
    where
      go : (n : ℕ) → (n ≡ 0 → ⊥) → flag_word true n ≡ n
      go zero f = absurd (f refl)
      go (suc n) f = flag_suc n

  counts_over : over_front (map length (queue_in w b ++ arguments_at 0 count p s ∷ [])) (part 68 64 w) ≡ put_at (get_or w 3 0) (count ∷ []) (part 68 64 w)
  counts_over =
      ap (λ (l : List ℕ). over_front l (part 68 64 w)) (appended_counts h ps ∙ ap (λ (l : List ℕ). l ++ count ∷ []) (front_part h 68 64 (get_or w 3 0) h.few_commands))
      ∙ over_behind (get_or w 3 0) (count ∷ []) (part 68 64 w) (omega (arith, counts_length, h.few_commands))

  lengths_over : over_front (map length (concat (queue_in w b ++ arguments_at 0 count p s ∷ []))) (part 132 512 w) ≡ put_at (total (part 68 (get_or w 3 0) w)) (lengths_at 0 count p) (part 132 512 w)
  lengths_over =
      ap (λ (l : List ℕ). over_front l (part 132 512 w)) (appended_lengths h ps ∙ ap (λ (l : List ℕ). l ++ lengths_at 0 count p) (front_part h 132 512 (total (part 68 (get_or w 3 0) w)) h.few_arguments))
      ∙ over_behind (total (part 68 (get_or w 3 0) w)) (lengths_at 0 count p) (part 132 512 w) (omega (arith, table_length, h.few_arguments))

  words_appended : set (set (put_at (132 + total (part 68 (get_or w 3 0) w)) (lengths_at 0 count p) w) (68 + get_or w 3 0) count) 3 (get_or w 3 0 + 1)
      ≡ session_words (queuing (queue_in w b ++ arguments_at 0 count p s ∷ []) (session_from w b)) w b
  unfolding session_words front
  words_appended =
      ap (λ (x : List ℕ). set (set x (68 + get_or w 3 0) count) 3 (get_or w 3 0 + 1)) (lengths_put (total (part 68 (get_or w 3 0) w)))
      ∙ ap (λ (x : List ℕ). set x 3 (get_or w 3 0 + 1)) (count_put (put_at (total (part 68 (get_or w 3 0) w)) (lengths_at 0 count p) (part 132 512 w)))
      ∙ sym (λ z. flag_set z ∷ failed_kept h z ∷ watched_kept h z ∷ appended_count h ps z ∷ (keys_table h z ++ sequences_table h z ++ counts_over z ++ lengths_over z))

  bytes_appended : put_at (2048 + total (part 132 (total (part 68 (get_or w 3 0) w)) w)) (concat (arguments_at 0 count p s)) b
      ≡ session_bytes (queuing (queue_in w b ++ arguments_at 0 count p s ∷ []) (session_from w b)) b
  unfolding session_bytes
  bytes_appended =
      let u : ℕ = total (part 132 (total (part 68 (get_or w 3 0) w)) w) in
      ap (put_at (2048 + u) (concat (arguments_at 0 count p s))) (bytes_shape b h.bytes)
      ∙ written_second (part 0 2048 b) (part 2048 8192 b) (concat (arguments_at 0 count p s)) 2048 u (data_length h)
      ∙ sym (λ z. keys_data h z ++ behind_queue z)
    where
      behind_queue : over_front (concat (concat (queue_in w b ++ arguments_at 0 count p s ∷ []))) (part 2048 8192 b)
          ≡ put_at (total (part 132 (total (part 68 (get_or w 3 0) w)) w)) (concat (arguments_at 0 count p s)) (part 2048 8192 b)
      behind_queue =
          ap (λ (l : Bytes). over_front l (part 2048 8192 b)) (appended_bytes h ps)
          ∙ over_behind (total (part 132 (total (part 68 (get_or w 3 0) w)) w)) (concat (arguments_at 0 count p s)) (part 2048 8192 b) (rw (queue_data_length h) h.room)

  pub queue_sizes : QueueSizes w
  queue_sizes = record { words = h.words; few_commands = h.few_commands; few_arguments = h.few_arguments; room = h.room }

  -- from the steps' own words
  pub append_left : {n m u : ℕ} {w₁ : List ℕ} {b₁ : Bytes} → n ≡ get_or w 3 0 → m ≡ capped 512 (total (part 68 n w)) → u ≡ capped 8192 (total (part 132 m w))
      → w₁ ≡ put_at (132 + m) (lengths_at 0 count p) w → b₁ ≡ put_at (2048 + u) (concat (arguments_at 0 count p s)) b
      → Appended w (set (set w₁ (68 + n) count) 3 (n + 1)) b b₁ (arguments_at 0 count p s)
  append_left e f g p₁ p₂ =
      let f' = arguments_are queue_sizes e f in
      let g' = bytes_are queue_sizes e f g in
      record {
        words = (λ z. set (set (p₁ z) (68 + e z) count) 3 (e z + 1)) ∙ (λ z. set (set (put_at (132 + f' z) (lengths_at 0 count p) w) (68 + get_or w 3 0) count) 3 (get_or w 3 0 + 1)) ∙ words_appended;
        bytes = p₂ ∙ (λ z. put_at (2048 + g' z) (concat (arguments_at 0 count p s)) b) ∙ bytes_appended;
      }

  -- what the steps ask
  pub append_places : {n m : ℕ} → n ≡ get_or w 3 0 → m ≡ capped 512 (total (part 68 n w)) → (n < 64) × (m + count ≤ 512)
  append_places e f = (omega (arith, r.command), omega (arith, arguments_are queue_sizes e f, r.arguments))

  pub append_room : {n m u : ℕ} → n ≡ get_or w 3 0 → m ≡ capped 512 (total (part 68 n w)) → u ≡ capped 8192 (total (part 132 m w))
      → (n < 64) × (m + count ≤ 512) × (u + total (lengths_at 0 count p) ≤ 8192)
  append_room e f g = (omega (arith, r.command), omega (arith, arguments_are queue_sizes e f, r.arguments), omega (arith, bytes_are queue_sizes e f g, r.bytes))
