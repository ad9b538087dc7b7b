-- Laws of keys added to tables of lengths and sequences and their text. Assumes nothing.
use mathlib.Core.Path.{◌≡◌, refl, sym, ap, ◌∙◌, subst}
use mathlib.Core.Bool.{Bool, true, false, ◌&&◌}
use mathlib.Core.List.{List, [], ◌∷◌, ◌++◌, map, append_assoc}
use Prim.Native.Nat.{ℕ, zero, suc, ◌+◌, ◌-◌, ◌<◌, ◌≤◌}
use native.Mathlib.Nat.{add-zero}
use native.Mathlib.Numerals.{add-one}
use native.Mathlib.Omega.{arith}
use borrow.Author.Tests.{le-leb, lt-leb, leb-false}
use lib.Dec.{leb}
use lib.ListN.{length, get_or, take, drop, set, length-append, length-take, length-drop, take-append-drop}
use lib.Seq.{slice, paste, take-suc, drop-cons, get_or-take, get_or-drop, length-take-le, take-take, take_at, drop_at, drop-append-add, take-append-le, take-append-add, take-nil, drop-nil}
use lib.ListN.{drop_of_length-le, length-map}
use Rattle.std.proofs.lemmas.Slice.{between_is}
use Rattle.base_key.specs.Bytes.{Bytes, part, over_front, concat, total, put_at, moved_up}
use Rattle.base_key.specs.Keys.{Key, compare_keys}
use Rattle.store_memtable.specs.Table.{Entry}
use Rattle.command_spec.specs.Session.{Watching, watched_keys, watched_sequences, add_key, add_keys, watch_fits}
use Rattle.command_spec.specs.Sessions.{split_by, paired}
use Rattle.command_spec.specs.Watch.{keys_of, KeysAt, inserted_at, SpotAt, ThereAt, Spotted, Holding, WatchTable, watch_of}
use Rattle.command_spec.proofs.Parts.{split_drop, split_length, split_lengths, split_concat, over_own, total_append}
use Rattle.command_spec.proofs.SplitLaws.{split_back, paired_keys, paired_sequences, paired_back}
use Rattle.base_key.proofs.Writes.{written_one, length_moved}
use Rattle.session_memory.proofs.Queueing.{map-append}
use Rattle.base_key.proofs.Bytes.{length_over_front, over_front_again, length_concat, concat_append}
use Rattle.std.specs.Prelude.{Option, None, Some}
use Rattle.std.specs.declared.cmp.Ordering.TheVariants.{Less, Equal, Greater}
use Rattle.std.specs.declared.cmp.Ordering.{Ordering}

-- THE PLACE OF A KEY.
add_less : (n : ℕ) (k : Key) (e : Entry ℕ) (w : Watching) → compare_keys k e.0 ≡ Less → add_key n k (e ∷ w) ≡ (k, n) ∷ e ∷ w
unfolding add_key
add_less n k e w q = rw (add_key, q)

add_equal : (n : ℕ) (k : Key) (e : Entry ℕ) (w : Watching) → compare_keys k e.0 ≡ Equal → add_key n k (e ∷ w) ≡ e ∷ w
unfolding add_key
add_equal n k e w q = rw (add_key, q)

add_greater : (n : ℕ) (k : Key) (e : Entry ℕ) (w : Watching) → compare_keys k e.0 ≡ Greater → add_key n k (e ∷ w) ≡ e ∷ add_key n k w
unfolding add_key
add_greater n k e w q = rw (add_key, q)

map_take : {A B : Type 0} (f : A → B) (n : ℕ) (l : List A) → map f (take n l) ≡ take n (map f l)
map_take f zero l = refl
map_take f (suc n) [] = refl
map_take f (suc n) (x ∷ l) = ap (λ (y : List _). f x ∷ y) (map_take f n l)

map_drop : {A B : Type 0} (f : A → B) (n : ℕ) (l : List A) → map f (drop n l) ≡ drop n (map f l)
map_drop f zero l = refl
map_drop f (suc n) [] = refl
map_drop f (suc n) (x ∷ l) = map_drop f n l

total_cut : (i : ℕ) (l : List ℕ) → total (take i l) + total (drop i l) ≡ total l
total_cut i l = sym (total_append (take i l) (drop i l)) ∙ ap total (take-append-drop i l)

total_next : (i : ℕ) (l : List ℕ) → i < length l → total (take (i + 1) l) ≡ total (take i l) + get_or l i 0
unfolding total
total_next i l h =
    ap (λ (n : ℕ). total (take n l)) (add-one i) ∙ ap total (take-suc l i 0 h) ∙ total_append (take i l) (get_or l i 0 ∷ [])
    ∙ ap (λ (n : ℕ). total (take i l) + n) (add-zero (get_or l i 0))

-- the key goes behind the first i, which end at `start`
pub record Spotting (lens : List ℕ) (text : Bytes) (count : ℕ) (name : Key) (start i : ℕ) : Type 0 where
  pub within : i ≤ count
  pub start_is : start ≡ total (take i lens)
  pub is : (n : ℕ) (ns : List ℕ) → add_key n name (paired (keys_of lens text count) ns)
      ≡ take i (paired (keys_of lens text count) ns) ++ add_key n name (drop i (paired (keys_of lens text count) ns))

pub spotting_none : (lens : List ℕ) (text : Bytes) (count : ℕ) (name : Key) → Spotting lens text count name 0 0
unfolding total
spotting_none lens text count name = record { within = omega arith; start_is = refl; is = λ n ns. refl }

module _ {lens : List ℕ} {text : Bytes} {count : ℕ} {name : Key} {start i : ℕ} (s : Spotting lens text count name start i) (k : KeysAt lens text count) where
  keys_count : length (keys_of lens text count) ≡ count
  unfolding keys_of
  keys_count = split_length (take count lens) text ∙ length-take-le count lens k.table

  -- the next key ends in the text
  pub spot_room : i < count → start + get_or lens i 0 ≤ length text
  spot_room h =
      let e : total (take (i + 1) lens) ≡ total (take i lens) + get_or lens i 0 = total_next i lens (omega (arith, k.table)) in
      let f : total (take (i + 1) (take count lens)) ≡ total (take (i + 1) lens) = ap total (take-take (i + 1) count lens (omega arith)) in
      omega (arith, k.room, total_cut (i + 1) (take count lens), s.start_is)

  key_here : i < count → drop i (keys_of lens text count) ≡ part start (get_or lens i 0) text ∷ drop (suc i) (keys_of lens text count)
  unfolding keys_of split_by
  key_here h =
      let ls : List ℕ = take count lens in
      let c : length ls ≡ count = length-take-le count lens k.table in
      let g : get_or ls i 0 ≡ get_or lens i 0 = get_or-take count lens i 0 h in
      let t : total (take i ls) ≡ start = ap total (take-take i count lens (omega arith)) ∙ sym s.start_is in
      let whole : drop i (split_by ls text) ≡ take (get_or ls i 0) (drop (total (take i ls)) text) ∷ split_by (drop (suc i) ls) (drop (get_or ls i 0) (drop (total (take i ls)) text)) =
      split_drop i ls text ∙ ap (λ (l : List ℕ). split_by l (drop (total (take i ls)) text)) (drop-cons ls i 0 (omega arith)) in
      let head : get_or (split_by ls text) i [] ≡ part start (get_or lens i 0) text =
      ap (λ (n : ℕ). get_or (split_by ls text) n []) (sym (add-zero i)) ∙ sym (get_or-drop i (split_by ls text) 0 []) ∙ ap (λ (l : List Key). get_or l 0 []) whole
      ∙ (λ z. take (g z) (drop (t z) text)) in
      drop-cons (split_by ls text) i [] (omega (arith, split_length ls text)) ∙ ap (λ (j : Key). j ∷ drop (suc i) (split_by ls text)) head

  -- the watched key with its sequence
  module _ (ns : List ℕ) where
    abbrev watch : Watching
    watch = paired (keys_of lens text count) ns

    abbrev entry : Entry ℕ
    entry = get_or watch i ([], 0)

    watch_length : length watch ≡ count
    watch_length = sym (length-map watch (λ (e : Entry ℕ). e.0)) ∙ ap length (paired_keys (keys_of lens text count) ns) ∙ keys_count

    entry_here : i < count → drop i watch ≡ entry ∷ drop (suc i) watch
    entry_here h = drop-cons watch i ([], 0) (omega (arith, watch_length))

    entry_key : i < count → entry.0 ≡ part start (get_or lens i 0) text
    entry_key h =
        ap (λ (l : List Key). get_or l 0 [])
        (ap watched_keys (sym (entry_here h)) ∙ map_drop (λ (e : Entry ℕ). e.0) i watch ∙ ap (drop i) (paired_keys (keys_of lens text count) ns) ∙ key_here h)

  module _ {n : ℕ} {o : Ordering} (e : n ≡ get_or lens i 0) (is : o ≡ compare_keys name (part start (start + n - start) text)) (h : i < count) where
    order_is : (ns : List ℕ) → compare_keys name (entry ns).0 ≡ o
    order_is ns =
        let m : start + n - start ≡ get_or lens i 0 = omega arith in
        ap (compare_keys name) (entry_key ns h) ∙ sym (is ∙ ap (λ (x : ℕ). compare_keys name (part start x text)) m)

    pub spot_less : o ≡ Less → SpotAt lens text count name i start
    unfolding inserted_at
    spot_less q = record {
      within = omega arith;
      start_is = s.start_is;
      is = λ v ns.
          s.is v ns
          ∙ ap (λ (l : Watching). take i (watch ns) ++ l)
          (ap (add_key v name) (entry_here ns h) ∙ add_less v name (entry ns) (drop (suc i) (watch ns)) (order_is ns ∙ q) ∙ ap (λ (l : Watching). (name, v) ∷ l) (sym (entry_here ns h)));
    }

    pub spot_there : o ≡ Equal → ThereAt lens text count name
    spot_there q = record {
      is = λ v ns.
          s.is v ns
          ∙ ap (λ (l : Watching). take i (watch ns) ++ l)
          (ap (add_key v name) (entry_here ns h) ∙ add_equal v name (entry ns) (drop (suc i) (watch ns)) (order_is ns ∙ q) ∙ sym (entry_here ns h))
          ∙ take-append-drop i (watch ns);
    }

    pub spotting_more : o ≡ Greater → Spotting lens text count name (start + n) (i + 1)
    spotting_more q = record {
      within = omega arith;
      start_is = omega (arith, s.start_is, total_next i lens (omega (arith, k.table)));
      is = λ v ns.
          s.is v ns
          ∙ ap (λ (l : Watching). take i (watch ns) ++ l) (ap (add_key v name) (entry_here ns h) ∙ add_greater v name (entry ns) (drop (suc i) (watch ns)) (order_is ns ∙ q))
          ∙ sym (append_assoc (take i (watch ns)) (entry ns ∷ []) (add_key v name (drop (suc i) (watch ns))))
          ∙ ap (λ (l : Watching). l ++ add_key v name (drop (suc i) (watch ns))) (sym (take-suc (watch ns) i ([], 0) (omega (arith, watch_length ns))))
          ∙ ap (λ (m : ℕ). take m (watch ns) ++ add_key v name (drop m (watch ns))) (sym (add-one i));
    }

  pub spot_last : count ≤ i → SpotAt lens text count name count start
  unfolding inserted_at add_key
  spot_last h =
      let e : i ≡ count = omega (arith, s.within) in
      let d : (ns : List ℕ) → drop i (watch ns) ≡ [] = λ ns. drop_of_length-le (watch ns) {i = i} (omega (arith, watch_length ns)) in
      subst (λ (n : ℕ). SpotAt lens text count name n start) e
      (record {
        within = s.within;
        start_is = s.start_is;
        is = λ v ns. s.is v ns ∙ ap (λ (l : Watching). take i (watch ns) ++ add_key v name l) (d ns) ∙ ap (λ (l : Watching). take i (watch ns) ++ ((name, v) ∷ l)) (sym (d ns));
      })

-- a write into the gap that a move leaves puts `x` between
pub gap_written : (l x : List ℕ) (at n : ℕ) → at ≤ n → n + length x ≤ length l → put_at at x (moved_up at n (length x) l) ≡ over_front (inserted_at at x (take n l)) l
unfolding put_at moved_up inserted_at over_front
gap_written l x at n h k =
    let moved : List ℕ = take (at + length x) l ++ (slice at n l ++ drop (n + length x) l) in
    let tl : length (take (at + length x) l) ≡ at + length x = length-take-le (at + length x) l (omega arith) in
    let t : take at moved ≡ take at l =
    take-append-le at (take (at + length x) l) (slice at n l ++ drop (n + length x) l) (omega arith) ∙ take-take at (at + length x) l (omega arith) in
    let d : drop (at + length x) moved ≡ slice at n l ++ drop (n + length x) l = drop_at (take (at + length x) l) (slice at n l ++ drop (n + length x) l) (at + length x) tl in
    let f : take at (take n l) ≡ take at l = take-take at n l h in
    let len : length (take at (take n l) ++ (x ++ drop at (take n l))) ≡ n + length x =
    simp (length-append, length-take, length-drop) (omega arith) in
    (λ z. t z ++ (x ++ d z))
    ∙ sym ((λ z. (f z ++ (x ++ slice_is z)) ++ drop (len z) l)
    ∙ append_assoc (take at l) (x ++ slice at n l) (drop (n + length x) l) ∙ ap (λ (y : List ℕ). take at l ++ y) (append_assoc x (slice at n l) (drop (n + length x) l)))
  where
    slice_is : drop at (take n l) ≡ slice at n l
    slice_is = refl

-- a copy of the part from `at` to `n` one place up is that move
copied_up : (l : List ℕ) (at n : ℕ) → at ≤ n → paste l (at + 1) (drop at l) (n - at) ≡ moved_up at n 1 l
unfolding moved_up
copied_up l at n h =
    let e : at + 1 + (n - at) ≡ n + 1 = omega arith in
    append_assoc (take (at + 1) l) (take (n - at) (drop at l)) (drop (at + 1 + (n - at)) l) ∙ (λ z. take (at + 1) l ++ (between_is l at n z ++ drop (e z) l))

pub word_inserted : (l : List ℕ) (at n value : ℕ) {a : List ℕ} → a ≡ paste l (at + 1) (drop at l) (n - at) → at ≤ n → n + 1 ≤ length l
    → set a at value ≡ over_front (inserted_at at (value ∷ []) (take n l)) l
word_inserted l at n value {a} e h k =
    let m : a ≡ moved_up at n 1 l = e ∙ copied_up l at n h in
    written_one at value a (omega (arith, ap length m, length_moved l at n 1 h k)) ∙ ap (put_at at (value ∷ [])) m ∙ gap_written l (value ∷ []) at n h k

pub bytes_inserted : (l x : List ℕ) (at n : ℕ) {a a' : List ℕ} → a ≡ moved_up at n (length x) l → a' ≡ put_at at x a → at ≤ n → n + length x ≤ length l
    → a' ≡ over_front (inserted_at at x (take n l)) l
bytes_inserted l x at n e f h k = f ∙ ap (put_at at x) e ∙ gap_written l x at n h k

-- PUT BETWEEN, seen through `map` and `concat`.
concat_take : (n : ℕ) (l : List Key) → concat (take n l) ≡ take (total (take n (map length l))) (concat l)
unfolding concat total
concat_take zero l = refl
concat_take (suc n) [] = sym (take-nil 0)
concat_take (suc n) (x ∷ l) = ap (λ (y : Bytes). x ++ y) (concat_take n l) ∙ sym (take-append-add x (concat l) (total (take n (map length l))))

concat_drop : (n : ℕ) (l : List Key) → concat (drop n l) ≡ drop (total (take n (map length l))) (concat l)
unfolding concat total
concat_drop zero l = refl
concat_drop (suc n) [] = sym (drop-nil 0)
concat_drop (suc n) (x ∷ l) = concat_drop n l ∙ sym (drop-append-add x (concat l) (total (take n (map length l))))

map_inserted : {A B : Type 0} (f : A → B) (i : ℕ) (x : A) (l : List A) → map f (inserted_at i (x ∷ []) l) ≡ inserted_at i (f x ∷ []) (map f l)
unfolding inserted_at
map_inserted f i x l = map-append f (take i l) (x ∷ drop i l) ∙ (λ z. map_take f i l z ++ (f x ∷ map_drop f i l z))

bytes_between : (i : ℕ) (k : Key) (js : List Key) → concat (inserted_at i (k ∷ []) js) ≡ inserted_at (total (take i (map length js))) k (concat js)
unfolding inserted_at concat
bytes_between i k js =
    concat_append (take i js) (k ∷ drop i js) ∙ (λ z. concat_take i js z ++ (k ++ concat_drop i js z))

length_inserted : {A : Type 0} (i : ℕ) (x l : List A) → length (inserted_at i x l) ≡ length l + length x
unfolding inserted_at
length_inserted i x l = simp (length-append, length-take, length-drop) (omega arith)

total_inserted : (i n : ℕ) (l : List ℕ) → total (inserted_at i (n ∷ []) l) ≡ total l + n
unfolding inserted_at total
total_inserted i n l =
    let a : total (take i l ++ (n ∷ drop i l)) ≡ total (take i l) + (n + total (drop i l)) = total_append (take i l) (n ∷ drop i l) in
    let b : total (take i l) + total (drop i l) ≡ total l = total_cut i l in
    omega arith

-- KEYS IN THEIR TABLES.
module _ {lens seqs : List ℕ} {text : Bytes} {count used : ℕ} (t : WatchTable lens seqs text count used) where
  abbrev held : Watching
  held = watch_of lens seqs text count

  table_count : length (keys_of lens text count) ≡ count
  unfolding keys_of
  table_count = split_length (take count lens) text ∙ length-take-le count lens (omega (arith, t.table, t.few))

  table_lengths : map length (keys_of lens text count) ≡ take count lens
  unfolding keys_of
  table_lengths = split_lengths (take count lens) text (omega (arith, t.used_is, t.room, t.bytes))

  table_bytes : concat (keys_of lens text count) ≡ take used text
  unfolding keys_of
  table_bytes = split_concat (take count lens) text (omega (arith, t.used_is, t.room, t.bytes)) ∙ ap (λ (n : ℕ). take n text) (sym t.used_is)

  held_keys_are : watched_keys held ≡ keys_of lens text count
  unfolding watch_of
  held_keys_are = paired_keys (keys_of lens text count) (take count seqs)

  held_sequences_are : watched_sequences held ≡ take count seqs
  unfolding watch_of
  held_sequences_are = paired_sequences (keys_of lens text count) (take count seqs) (length-take-le count seqs (omega (arith, t.sequences, t.few)) ∙ sym table_count)

  held_count : length held ≡ count
  held_count = sym (length-map held (λ (e : Entry ℕ). e.0)) ∙ ap length held_keys_are ∙ table_count

  held_lengths : map length (watched_keys held) ≡ take count lens
  held_lengths = ap (map length) held_keys_are ∙ table_lengths

  held_used : total (map length (watched_keys held)) ≡ used
  held_used = ap total held_lengths ∙ sym t.used_is

  -- the keys as they are
  pub holding_same : Holding (watch_of lens seqs text count) lens lens seqs seqs text text count used
  holding_same = record {
    few = omega (arith, held_count, t.few);
    short = omega (arith, held_used, t.room);
    count_is = sym held_count;
    used_is = sym held_used;
    table = sym (ap (λ (l : List ℕ). over_front l lens) held_lengths ∙ over_own count lens (omega (arith, t.table, t.few)));
    sequences = sym (ap (λ (l : List ℕ). over_front l seqs) held_sequences_are ∙ over_own count seqs (omega (arith, t.sequences, t.few)));
    bytes = sym (ap (λ (l : Bytes). over_front l text) (ap concat held_keys_are ∙ table_bytes) ∙ over_own used text (omega (arith, t.bytes, t.room)));
  }

  there_is : (last : ℕ) (name : Key) → ThereAt lens text count name → add_key last name (watch_of lens seqs text count) ≡ watch_of lens seqs text count
  unfolding watch_of
  there_is last name q = q.is last (take count seqs)

  pub already_there : (last : ℕ) (name : Key) {s : Option (ℕ × ℕ)} → Spotted lens text count name s → s ≡ None
      → Holding (add_key last name (watch_of lens seqs text count)) lens lens seqs seqs text text count used
  already_there last name a e =
      let q : ThereAt lens text count name = subst (Spotted lens text count name) e a in
      subst (λ (js : Watching). Holding js lens lens seqs seqs text text count used) (sym (there_is last name q)) holding_same

  module _ {name : Key} {i start : ℕ} (p : SpotAt lens text count name i start) (last : ℕ) where
    abbrev longer : Watching
    longer = add_key last name (watch_of lens seqs text count)

    added : longer ≡ inserted_at i ((name, last) ∷ []) held
    unfolding watch_of
    added = p.is last (take count seqs)

    added_count : length longer ≡ count + 1
    added_count = ap length added ∙ length_inserted i ((name, last) ∷ []) held ∙ ap (λ (n : ℕ). n + 1) held_count

    added_keys : watched_keys longer ≡ inserted_at i (name ∷ []) (keys_of lens text count)
    added_keys = ap watched_keys added ∙ map_inserted (λ (e : Entry ℕ). e.0) i (name, last) held ∙ ap (inserted_at i (name ∷ [])) held_keys_are

    added_sequences : watched_sequences longer ≡ inserted_at i (last ∷ []) (take count seqs)
    added_sequences = ap watched_sequences added ∙ map_inserted (λ (e : Entry ℕ). e.1) i (name, last) held ∙ ap (inserted_at i (last ∷ [])) held_sequences_are

    added_lengths : map length (watched_keys longer) ≡ inserted_at i (length name ∷ []) (take count lens)
    added_lengths = ap (map length) added_keys ∙ map_inserted length i name (keys_of lens text count) ∙ ap (inserted_at i (length name ∷ [])) table_lengths

    added_used : total (map length (watched_keys longer)) ≡ used + length name
    added_used = ap total added_lengths ∙ total_inserted i (length name) (take count lens) ∙ ap (λ (n : ℕ). n + length name) (sym t.used_is)

    added_bytes : concat (watched_keys longer) ≡ inserted_at start name (take used text)
    added_bytes =
        let e : total (take i (map length (keys_of lens text count))) ≡ start =
        ap (λ (l : List ℕ). total (take i l)) table_lengths ∙ ap total (take-take i count lens p.within) ∙ sym p.start_is in
        ap concat added_keys ∙ bytes_between i name (keys_of lens text count) ∙ (λ z. inserted_at (e z) name (table_bytes z))

    long_keys : length (watched_keys longer) ≡ count + 1
    long_keys = length-map longer (λ (e : Entry ℕ). e.0) ∙ added_count

    pub full_table : 32 ≤ count → watch_fits (watched_keys (add_key last name (watch_of lens seqs text count))) ≡ false
    unfolding watch_fits
    full_table h = rw (lt-leb (length (watched_keys longer)) 32 (omega (arith, long_keys)))

    pub full_bytes : count < 32 → 2048 - used < length name → watch_fits (watched_keys (add_key last name (watch_of lens seqs text count))) ≡ false
    unfolding watch_fits
    full_bytes h k =
        rw (le-leb (length (watched_keys longer)) 32 (omega (arith, long_keys)), lt-leb (total (map length (watched_keys longer))) 2048 (omega (arith, added_used, t.room)))

    pub holding_more : {lens' seqs' : List ℕ} {text' : Bytes} → count < 32 → length name ≤ 2048 - used
        → lens' ≡ over_front (inserted_at i (length name ∷ []) (take count lens)) lens → seqs' ≡ over_front (inserted_at i (last ∷ []) (take count seqs)) seqs
        → text' ≡ over_front (inserted_at start name (take used text)) text
        → Holding (add_key last name (watch_of lens seqs text count)) lens lens' seqs seqs' text text' (count + 1) (used + length name)
    holding_more h k e g f = record {
      few = omega (arith, added_count);
      short = omega (arith, added_used, t.room);
      count_is = sym added_count;
      used_is = sym added_used;
      table = e ∙ ap (λ (l : List ℕ). over_front l lens) (sym added_lengths);
      sequences = g ∙ ap (λ (l : List ℕ). over_front l seqs) (sym added_sequences);
      bytes = f ∙ ap (λ (l : Bytes). over_front l text) (sym added_bytes);
    }

  pub spot_within : {name : Key} {i start : ℕ} → SpotAt lens text count name i start → start ≤ used
  spot_within {name} {i} p =
      let e : total (take i (take count lens)) ≡ total (take i lens) = ap total (take-take i count lens p.within) in
      omega (arith, p.start_is, t.used_is, total_cut i (take count lens))

pub spotted_at : (lens : List ℕ) (text : Bytes) (count : ℕ) (name : Key) {s : Option (ℕ × ℕ)} {i start : ℕ} → Spotted lens text count name s → s ≡ Some (i, start) → SpotAt lens text count name i start
spotted_at lens text count name a e = subst (Spotted lens text count name) e a

-- ADDING NEVER SHRINKS.
pub record NoLess (js js' : List Key) : Type 0 where
  pub keys : length js ≤ length js'
  pub bytes : total (map length js) ≤ total (map length js')

no_less_refl : (js : List Key) → NoLess js js
no_less_refl js = record { keys = omega arith; bytes = omega arith }

no_less_trans : {js ks ls : List Key} → NoLess js ks → NoLess ks ls → NoLess js ls
no_less_trans p q = record { keys = omega (arith, p.keys, q.keys); bytes = omega (arith, p.bytes, q.bytes) }

no_less_cons : (j : Key) {js ks : List Key} → NoLess js ks → NoLess (j ∷ js) (j ∷ ks)
unfolding total
no_less_cons j p = record { keys = omega (arith, p.keys); bytes = omega (arith, p.bytes) }

no_less_more : (k : Key) (js : List Key) → NoLess js (k ∷ js)
unfolding total
no_less_more k js = record { keys = omega arith; bytes = omega arith }

pub add_no_less : (n : ℕ) (k : Key) (w : Watching) → NoLess (watched_keys w) (watched_keys (add_key n k w))
unfolding add_key
add_no_less n k [] = no_less_more k []
add_no_less n k (e ∷ w) = go (compare_keys k e.0) refl (add_no_less n k w)
  where
    go : (o : Ordering) → compare_keys k e.0 ≡ o → NoLess (watched_keys w) (watched_keys (add_key n k w)) → NoLess (watched_keys (e ∷ w)) (watched_keys (add_key n k (e ∷ w)))
    go Less q r = rw (add_less n k e w q) (no_less_more k (watched_keys (e ∷ w)))
    go Equal q r = rw (add_equal n k e w q) (no_less_refl (watched_keys (e ∷ w)))
    go Greater q r = rw (add_greater n k e w q) (no_less_cons e.0 r)

pub adds_no_less : (n : ℕ) (ks : List Key) (w : Watching) → NoLess (watched_keys w) (watched_keys (add_keys n ks w))
unfolding add_keys
adds_no_less n [] w = no_less_refl (watched_keys w)
adds_no_less n (k ∷ ks) w = no_less_trans (add_no_less n k w) (adds_no_less n ks (add_key n k w))

and-false : (a b : Bool) → b ≡ false → (a && b) ≡ false
and-false true b e = e
and-false false b e = refl

-- what does not fit, does not fit with more
pub fits_no_more : (js js' : List Key) → NoLess js js' → watch_fits js ≡ false → watch_fits js' ≡ false
unfolding watch_fits
fits_no_more js js' p e = go (leb (length js) 32) refl
  where
    go : (v : Bool) → leb (length js) 32 ≡ v → (leb (length js') 32 && leb (total (map length js')) 2048) ≡ false
    go false f = rw (lt-leb (length js') 32 (omega (arith, leb-false (length js) 32 f, p.keys)))
    go true f =
        let g : leb (total (map length js)) 2048 ≡ false = ap (λ (x : Bool). x && leb (total (map length js)) 2048) (sym f) ∙ e in
        and-false (leb (length js') 32) (leb (total (map length js')) 2048) (lt-leb (total (map length js')) 2048 (omega (arith, leb-false (total (map length js)) 2048 g, p.bytes)))

-- WRITTEN AND READ. Keys in front of their tables and bytes are read back
module _ {js : Watching} {lens lens' seqs seqs' : List ℕ} {text text' : Bytes} {n u : ℕ} (h : Holding js lens lens' seqs seqs' text text' n u) where
  keys_many : length (watched_keys js) ≡ n
  keys_many = length-map js (λ (e : Entry ℕ). e.0) ∙ sym h.count_is

  front_lengths : take n lens' ≡ map length (watched_keys js)
  unfolding over_front
  front_lengths =
      let e : length (map length (watched_keys js)) ≡ n = length-map (watched_keys js) length ∙ keys_many in
      ap (take n) h.table ∙ take_at (map length (watched_keys js)) (drop (length (map length (watched_keys js))) lens) n e

  front_sequences : take n seqs' ≡ watched_sequences js
  unfolding over_front
  front_sequences =
      let e : length (watched_sequences js) ≡ n = length-map js (λ (x : Entry ℕ). x.1) ∙ sym h.count_is in
      ap (take n) h.sequences ∙ take_at (watched_sequences js) (drop (length (watched_sequences js)) seqs) n e

  keys_back : keys_of lens' text' n ≡ watched_keys js
  unfolding keys_of over_front
  keys_back = (λ z. split_by (front_lengths z) (h.bytes z)) ∙ split_back (watched_keys js) (drop (length (concat (watched_keys js))) text)

  pub held_keys_lem : watch_of lens' seqs' text' n ≡ js
  unfolding watch_of
  held_keys_lem = (λ z. paired (keys_back z) (front_sequences z)) ∙ paired_back js

  pub held_table : length lens ≡ 32 → length seqs ≡ 32 → length text ≡ 2048 → WatchTable lens' seqs' text' n u
  held_table a o b =
      let c : length (map length (watched_keys js)) ≤ length lens = rw (length-map (watched_keys js) length) (omega (arith, keys_many, h.few, h.count_is)) in
      let f : length (watched_sequences js) ≤ length seqs = rw (length-map js (λ (x : Entry ℕ). x.1)) (omega (arith, h.few)) in
      let d : length (concat (watched_keys js)) ≤ length text = rw (length_concat (watched_keys js)) (omega (arith, h.short)) in
      record {
        table = ap length h.table ∙ length_over_front (map length (watched_keys js)) lens c ∙ a;
        sequences = ap length h.sequences ∙ length_over_front (watched_sequences js) seqs f ∙ o;
        bytes = ap length h.bytes ∙ length_over_front (concat (watched_keys js)) text d ∙ b;
        few = omega (arith, h.few, h.count_is);
        used_is = h.used_is ∙ sym (ap total front_lengths);
        room = omega (arith, h.short, h.used_is);
      }

-- one step after another
pub holding_then : {js ks : Watching} {l₀ l₁ l₂ s₀ s₁ s₂ : List ℕ} {t₀ t₁ t₂ : Bytes} {n u m v : ℕ} → Holding js l₀ l₁ s₀ s₁ t₀ t₁ n u
    → NoLess (watched_keys js) (watched_keys ks) → Holding ks l₁ l₂ s₁ s₂ t₁ t₂ m v → Holding ks l₀ l₂ s₀ s₂ t₀ t₂ m v
holding_then {js} {ks} {l₀} {l₁} {l₂} {s₀} {s₁} {s₂} {t₀} {t₁} {t₂} a p b =
    let jk = length-map js (λ (x : Entry ℕ). x.0) in
    let kk = length-map ks (λ (x : Entry ℕ). x.0) in
    let js' = length-map js (λ (x : Entry ℕ). x.1) in
    let ks' = length-map ks (λ (x : Entry ℕ). x.1) in
    record {
      few = b.few;
      short = b.short;
      count_is = b.count_is;
      used_is = b.used_is;
      table = b.table ∙ ap (over_front (map length (watched_keys ks))) a.table
          ∙ over_front_again (map length (watched_keys ks)) (map length (watched_keys js)) l₀ (rw (length-map (watched_keys js) length, length-map (watched_keys ks) length) p.keys);
      sequences = b.sequences ∙ ap (over_front (watched_sequences ks)) a.sequences ∙ over_front_again (watched_sequences ks) (watched_sequences js) s₀ (omega (arith, p.keys, jk, kk, js', ks'));
      bytes = b.bytes ∙ ap (over_front (concat (watched_keys ks))) a.bytes
          ∙ over_front_again (concat (watched_keys ks)) (concat (watched_keys js)) t₀ (rw (length_concat (watched_keys js), length_concat (watched_keys ks)) p.bytes);
    }
