-- The pass of a merge over writes of ascending keys, from the last to the first: the front is as it was, what lies behind it is done,
-- and between them is a gap for the writes that are left. Assumes nothing.
use mathlib.Core.Path.{◌≡◌, refl, sym, ap, ◌∙◌}
use mathlib.Core.Bool.{Bool, true, false, cond}
use mathlib.Core.List.{List, [], ◌∷◌, ◌++◌, append_assoc, append-nil}
use Prim.Native.Nat.{ℕ, zero, suc, ◌+◌, ◌-◌, ◌*◌, ◌≤◌, ◌<◌}
use native.Mathlib.Nat.{zero-add}
use native.Mathlib.Omega.{arith}
use lib.Dec.{ltb}
use lib.ListN.{length, get_or, take, drop, set, length-append, length-drop, take-append-drop}
use lib.Seq.{slice, drop_at, take_all, take-add, take-take, take-append-le, length-take-le, get_or-take}
use borrow.Author.Tests.{ltb-true, ltb-false}
use Rattle.base_key.specs.Bytes.{◌and◌, over_front}
use Rattle.base_key.proofs.Bytes.{and_left, and_right}
use Rattle.store_memtable.specs.declared.Front.{Front}
use Rattle.store_memtable.specs.Table.{Write}
use Rattle.store_memtable.specs.Versions.{Version, Store, bytes_of, size_of, sorted, sorted_after, before, commit, writes_size}
use Rattle.store_memtable.specs.Layout.{count_word, used_word, last_word, start_word, end_word, versions_from, store_in, word_of_value, row_words, version_bytes, leave_words, leave_bytes}
use Rattle.store_memtable.specs.Rows.{versions_in, place_of, Valid}
use Rattle.store_memtable.specs.Moves.{shift_rows}
use Rattle.store_memtable.specs.Merging.{FrontIn, Mergeable, start_in, row_merged, bytes_merged, front_after, words_after, bytes_after, leave_rows}
use Rattle.store_memtable.proofs.Rows.{length_versions, place_in}
use Rattle.store_memtable.proofs.Validity.{chain_ends, valid_chain}
use Rattle.store_memtable.proofs.Moves.{five}
use Rattle.store_memtable.proofs.Encoding.{Encoded, encoded, table_append, bytes_append, shift_table, length_table, take_table, take_bytes, used_two, start_two, leave_words_lem, versions_size_lem}
use Rattle.store_memtable.proofs.LayoutLaws.{decoded}
use Rattle.store_memtable.proofs.VersionLaws.{commit_count, commit_size, commit_last, later_commit}
use Rattle.store_memtable.proofs.MergeLaws.{fresh, insert_all, commit_versions, merge_none, merge_step, KeysBelow, fresh_before, fresh_more}

-- a front of a sorted list is sorted
sorted_after_take : (v : Version) (n : ℕ) (us : List Version) → sorted_after v us ≡ true → sorted_after v (take n us) ≡ true
unfolding sorted_after ◌and◌
sorted_after_take v zero us o = refl
sorted_after_take v (suc n) [] o = refl
sorted_after_take v (suc n) (u ∷ us) o = rw (and_left (before v u) (sorted_after u us) o) (sorted_after_take u n us (and_right (before v u) (sorted_after u us) o))

sorted_take : (n : ℕ) (vs : List Version) → sorted vs ≡ true → sorted (take n vs) ≡ true
sorted_take zero vs o = refl
sorted_take (suc n) [] o = refl
sorted_take (suc n) (v ∷ vs) o = sorted_after_take v n vs o

-- the first n versions of a valid store
module _ (w₀ b₀ : List ℕ) (v : Valid w₀ b₀) (n : ℕ) (h : n ≤ count_word w₀) where
  abbrev vs : List Version
  vs = versions_in w₀ b₀

  two : Encoded w₀ b₀ (take n vs ++ drop n vs)
  two = rw (take-append-drop n vs) (encoded w₀ b₀ v.valid)

  front_long : length (take n vs) ≡ n
  front_long = length-take-le n vs (omega (arith, length_versions w₀ b₀ 0 (count_word w₀)))

  front_words : take (5 + 4 * n) w₀ ≡ take 5 w₀ ++ row_words 0 (take n vs)
  front_words = take-add 5 (4 * n) w₀ ∙ ap (λ (x : List ℕ). take 5 w₀ ++ x)
      (ap (λ (m : ℕ). take (4 * m) (drop 5 w₀)) (sym front_long) ∙ take_table w₀ b₀ (take n vs) (drop n vs) two)

  front_bytes : take (length (version_bytes (take n vs))) b₀ ≡ version_bytes (take n vs)
  front_bytes = take_bytes w₀ b₀ (take n vs) (drop n vs) two

  front_start : n < count_word w₀ → start_word w₀ n ≡ length (version_bytes (take n vs))
  front_start l =
      ap (start_word w₀) (sym front_long)
      ∙ start_two w₀ b₀ (take n vs) (drop n vs) two (rw length-drop (omega (arith, length_versions w₀ b₀ 0 (count_word w₀))))

  head_long : length (take 5 w₀) ≡ 5
  head_long = length-take-le 5 w₀ two.head_in

  -- and words and bytes that have them in front
  module _ (w b : List ℕ) (fw : take (5 + 4 * n) w ≡ take (5 + 4 * n) w₀)
      (fb : take (length (version_bytes (take n vs))) b ≡ take (length (version_bytes (take n vs))) b₀) where
    words_spread : w ≡ take 5 w₀ ++ (row_words 0 (take n vs) ++ drop (5 + 4 * n) w)
    words_spread = sym (take-append-drop (5 + 4 * n) w) ∙ ap (λ (x : List ℕ). x ++ drop (5 + 4 * n) w) (fw ∙ front_words) ∙ append_assoc (take 5 w₀) (row_words 0 (take n vs)) _

    bytes_spread : b ≡ version_bytes (take n vs) ++ drop (length (version_bytes (take n vs))) b
    bytes_spread =
        sym (take-append-drop (length (version_bytes (take n vs))) b)
        ∙ ap (λ (x : List ℕ). x ++ drop (length (version_bytes (take n vs))) b) (fb ∙ front_bytes)

    front_versions : versions_from w b 0 n ≡ take n vs
    front_versions =
        ap (versions_from w b 0) (sym front_long)
        ∙ decoded w b (take n vs) 0 0 _ _ (ap (drop 5) words_spread ∙ drop_at (take 5 w₀) _ 5 head_long) bytes_spread

    word_same : (x : ℕ) → x < 5 + 4 * n → get_or w x 0 ≡ get_or w₀ x 0
    word_same x l = sym (get_or-take (5 + 4 * n) w x 0 l) ∙ ap (λ (y : List ℕ). get_or y x 0) fw ∙ get_or-take (5 + 4 * n) w₀ x 0 l

    end_in : (i : ℕ) → i < n → end_word w i ≤ used_word w₀
    end_in i l =
        let s = word_same (5 + 4 * i) (omega arith) in
        let k = word_same (5 + 4 * i + 1) (omega arith) in
        let x = word_same (5 + 4 * i + 2) (omega arith) in
        omega (arith, s, k, x, chain_ends w₀ 0 (count_word w₀) 0 (valid_chain w₀ b₀ v.valid) i (omega arith) (omega arith))

    front_in : length w ≡ length w₀ → length b ≡ length b₀ → FrontIn w b n
    front_in lw lb = record {
      rows_in = omega (arith, v.readable.rows_in);
      ends_in = λ i l. omega (arith, end_in i l, v.used_fits, v.bytes_hold);
      ordered = ap sorted front_versions ∙ sorted_take n vs v.ordered;
    }

-- a place p in the front: what lies before it, and behind it
module _ (w₀ b₀ : List ℕ) (v : Valid w₀ b₀) (n p : ℕ) (h : n ≤ count_word w₀) (l : p ≤ n) where
  abbrev all_vs : List Version
  all_vs = versions_in w₀ b₀

  abbrev mid : List Version
  mid = drop p (take n all_vs)

  front_two : take p all_vs ++ mid ≡ take n all_vs
  front_two = ap (λ (x : List Version). x ++ mid) (sym (take-take p n all_vs l)) ∙ take-append-drop p (take n all_vs)

  table_mid : row_words 0 (take n all_vs) ≡ row_words 0 (take p all_vs) ++ row_words (length (version_bytes (take p all_vs))) mid
  table_mid =
      ap (row_words 0) (sym front_two) ∙ table_append 0 (take p all_vs) mid
      ∙ ap (λ (x : ℕ). row_words 0 (take p all_vs) ++ row_words x mid) (zero-add (length (version_bytes (take p all_vs))))

  bytes_mid : version_bytes (take n all_vs) ≡ version_bytes (take p all_vs) ++ version_bytes mid
  bytes_mid = ap version_bytes (sym front_two) ∙ bytes_append (take p all_vs) mid

  used_mid : length (version_bytes (take n all_vs)) ≡ length (version_bytes (take p all_vs)) + length (version_bytes mid)
  used_mid = ap length bytes_mid ∙ length-append (version_bytes (take p all_vs)) (version_bytes mid)

  module _ (w b : List ℕ) (fw : take (5 + 4 * n) w ≡ take (5 + 4 * n) w₀)
      (fb : take (length (version_bytes (take n all_vs))) b ≡ take (length (version_bytes (take n all_vs))) b₀) where
    slice_rows : slice (5 + 4 * p) (5 + 4 * n) w ≡ row_words (length (version_bytes (take p all_vs))) mid
    slice_rows =
        let a : List ℕ = take 5 w₀ ++ row_words 0 (take p all_vs) in
        let long : length a ≡ 5 + 4 * p = length-append (take 5 w₀) (row_words 0 (take p all_vs))
        ∙ omega (arith, head_long w₀ b₀ v n h, length_table 0 (take p all_vs), front_long w₀ b₀ v p (omega arith)) in
        ap (drop (5 + 4 * p)) (fw ∙ front_words w₀ b₀ v n h ∙ ap (λ (x : List ℕ). take 5 w₀ ++ x) table_mid ∙ sym (append_assoc (take 5 w₀) (row_words 0 (take p all_vs)) _))
        ∙ drop_at a _ (5 + 4 * p) long

    slice_bytes : slice (length (version_bytes (take p all_vs))) (length (version_bytes (take n all_vs))) b ≡ version_bytes mid
    slice_bytes =
        ap (drop (length (version_bytes (take p all_vs)))) (fb ∙ front_bytes w₀ b₀ v n h ∙ bytes_mid)
        ∙ drop_at (version_bytes (take p all_vs)) (version_bytes mid) (length (version_bytes (take p all_vs))) refl

    -- the start of the version at that place
    start_row : p < n → start_word w p ≡ length (version_bytes (take p all_vs))
    start_row k =
        word_same w₀ b₀ v n h w b fw fb (5 + 4 * p) (omega arith)
        ∙ front_start w₀ b₀ v p (omega arith) (omega arith)

    start_at : {u : ℕ} → u ≡ length (version_bytes (take n all_vs)) → start_in n u w p ≡ length (version_bytes (take p all_vs))
    unfolding start_in
    start_at {u} u-is = go (ltb p n) refl
      where
        go : (t : Bool) → ltb p n ≡ t → cond t (start_word w p) u ≡ length (version_bytes (take p all_vs))
        go true e = start_row (ltb-true p n e)
        go false e =
            let q : n ≡ p = omega (arith, ltb-false p n e) in
            u-is ∙ ap (λ (x : ℕ). length (version_bytes (take x all_vs))) q

-- THE PASS: the writes ws, of all, are left to merge into the front f of the store that stood in w₀ and b₀
pub record Pass (w₀ b₀ : List ℕ) (all ws : List Write) (f : Front) (w b : List ℕ) : Type 0 where
  pub done : List Version
  pub valid : Valid w₀ b₀
  pub words_room : 5 + 4 * (count_word w₀ + length all) ≤ length w₀
  pub bytes_room : used_word w₀ + writes_size all ≤ length b₀
  pub rows_in : f.rows ≤ count_word w₀
  pub fewer : length ws ≤ length all
  pub smaller : writes_size ws ≤ writes_size all
  pub whole : insert_all (fresh (last_word w₀) ws) (take f.rows (versions_in w₀ b₀)) ++ done ≡ (commit all (store_in w₀ b₀)).versions
  pub used_is : f.used ≡ length (version_bytes (take f.rows (versions_in w₀ b₀)))
  pub gap_is : f.gap ≡ writes_size ws
  pub words_front : take (5 + 4 * f.rows) w ≡ take (5 + 4 * f.rows) w₀
  pub words_back : drop (5 + 4 * f.rows + 4 * length ws) w ≡ row_words (f.used + f.gap) done ++ drop (5 + 4 * (count_word w₀ + length all)) w₀
  pub bytes_front : take f.used b ≡ take f.used b₀
  pub bytes_back : drop (f.used + f.gap) b ≡ version_bytes done ++ drop (used_word w₀ + writes_size all) b₀
  pub same_words : length w ≡ length w₀
  pub same_bytes_lem : length b ≡ length b₀

-- before the first turn
pub pass_none : (w b : List ℕ) (all : List Write) (f : Front) → Valid w b → 5 + 4 * (count_word w + length all) ≤ length w → used_word w + writes_size all ≤ length b
    → f.rows ≡ count_word w → f.used ≡ used_word w → f.gap ≡ writes_size all → Pass w b all all f w b
unfolding row_words version_bytes store_in
pass_none w b all f v rw-in rb-in r-is u-is g-is =
    let vs : List Version = versions_in w b in
    let en = encoded w b v.valid in
    let whole-front : take f.rows vs ≡ vs = take_all f.rows vs (omega (arith, length_versions w b 0 (count_word w))) in
    let e : 5 + 4 * f.rows + 4 * length all ≡ 5 + 4 * (count_word w + length all) = omega arith in
    record {
      done = [];
      valid = v;
      words_room = rw-in;
      bytes_room = rb-in;
      rows_in = omega arith;
      fewer = omega arith;
      smaller = omega arith;
      whole = append-nil _ ∙ ap (insert_all (fresh (last_word w) all)) whole-front ∙ sym (commit_versions all (store_in w b));
      used_is = u-is ∙ en.used_is ∙ ap (λ (x : List Version). length (version_bytes x)) (sym whole-front);
      gap_is = g-is;
      words_front = refl;
      words_back = ap (λ (n : ℕ). drop n w) e;
      bytes_front = refl;
      bytes_back = (λ z. drop (u-is z + g-is z) b);
      same_words = refl;
      same_bytes_lem = refl;
    }

pub size_more : (ws : List Write) (wr : Write) → writes_size (ws ++ (wr ∷ [])) ≡ writes_size ws + size_of wr.0 wr.1
unfolding writes_size
size_more [] wr = omega arith
size_more (x ∷ ws) wr = omega (arith, size_more ws wr)

-- a turn: wr is the last of the writes that are left
module _ {w₀ b₀ : List ℕ} {all : List Write} (ws : List Write) (wr : Write) {f : Front} {w b : List ℕ} (m : Pass w₀ b₀ all (ws ++ (wr ∷ [])) f w b) where
  abbrev old : List Version
  old = versions_in w₀ b₀

  same_front : take (length (version_bytes (take f.rows old))) b ≡ take (length (version_bytes (take f.rows old))) b₀
  same_front = (λ z. take (sym m.used_is z) b) ∙ m.bytes_front ∙ (λ z. take (m.used_is z) b₀)

  left_long : length (ws ++ (wr ∷ [])) ≡ suc (length ws)
  left_long = length-append ws (wr ∷ []) ∙ omega arith

  used_in : f.used ≤ used_word w₀
  used_in = omega (arith, m.used_is, used_two w₀ b₀ (take f.rows old) (drop f.rows old) (two w₀ b₀ m.valid f.rows m.rows_in))

  pub pass_mergeable : {by size : ℕ} → by ≡ suc (length ws) → size ≡ size_of wr.0 wr.1 → Mergeable w b by size f
  pass_mergeable by-is size_is =
      let n = left_long in
      let u = used_in in
      let g = size_more ws wr in
      record {
        front_in = front_in w₀ b₀ m.valid f.rows m.rows_in w b m.words_front same_front m.same_words m.same_bytes_lem;
        starts_in = λ i l.
            let s = start_row w₀ b₀ m.valid f.rows i m.rows_in (omega arith) w b m.words_front same_front l in
            omega (arith, s, m.used_is, used_mid w₀ b₀ m.valid f.rows i m.rows_in (omega arith));
        some_left = omega arith;
        rows_free = omega (arith, m.words_room, m.rows_in, m.fewer, m.same_words, n);
        bytes_free = omega (arith, m.bytes_room, m.gap_is, m.smaller, m.same_bytes_lem, u);
        size_fits = omega (arith, m.gap_is, g);
      }

  module _ {s by : ℕ} {r : Front} {w' b' : List ℕ} (below : KeysBelow wr.0 ws) (s-is : s ≡ last_word w₀ + by) (by-is : by ≡ suc (length ws))
      (r-is : r ≡ front_after wr s f w b) (w-is : w' ≡ words_after wr s by f r w) (b-is : b' ≡ bytes_after wr f r b) where
    abbrev new : Version
    new = record { key = wr.0; seq = s; value = wr.1 }

    abbrev moving : List Version
    moving = drop r.rows (take f.rows old)

    abbrev later : List Version
    later = m.done

    place_is : r.rows ≡ place_of wr.0 s (take f.rows old)
    unfolding front_after
    place_is = ap (λ (x : Front). x.rows) r-is ∙ ap (place_of wr.0 s) (front_versions w₀ b₀ m.valid f.rows m.rows_in w b m.words_front same_front)

    place_below : r.rows ≤ f.rows
    place_below = omega (arith, place_is, place_in wr.0 s (take f.rows old), front_long w₀ b₀ m.valid f.rows m.rows_in)

    begin : ℕ
    begin = length (version_bytes (take r.rows old))

    start_is : r.used ≡ begin
    unfolding front_after begin
    start_is =
        ap (λ (x : Front). x.used) r-is ∙ ap (start_in f.rows f.used w) (sym (ap (λ (x : Front). x.rows) r-is))
        ∙ start_at w₀ b₀ m.valid f.rows r.rows m.rows_in place_below w b m.words_front same_front m.used_is

    rest_is : r.gap ≡ writes_size ws
    unfolding front_after
    rest_is =
        let e : r.gap ≡ f.gap - size_of wr.0 wr.1 = ap (λ (x : Front). x.gap) r-is in
        omega (arith, e, m.gap_is, size_more ws wr)

    used_moving : f.used ≡ begin + length (version_bytes moving)
    unfolding begin
    used_moving = m.used_is ∙ used_mid w₀ b₀ m.valid f.rows r.rows m.rows_in place_below

    -- the versions
    whole_next : insert_all (fresh (last_word w₀) ws) (take r.rows old) ++ (new ∷ (moving ++ later)) ≡ (commit all (store_in w₀ b₀)).versions
    whole_next =
        let l : ℕ = last_word w₀ in
        let a : List Version = take f.rows old in
        let news : List Version = fresh l ws in
        (λ z. insert_all news (sym (take-take r.rows f.rows old place_below) z) ++ (new ∷ (moving ++ later)))
        ∙ ap (λ (p : ℕ). insert_all news (take p a) ++ (new ∷ (drop p a ++ later))) place_is
        ∙ sym (merge_step news new a later (fresh_before l ws new below))
        ∙ ap (λ (x : List Version). insert_all x a ++ later) (sym (fresh_more l ws wr (s-is ∙ ap (λ (x : ℕ). l + x) by-is)))
        ∙ m.whole

    -- the words
    abbrev tail : List ℕ
    tail = drop (5 + 4 * (count_word w₀ + length all)) w₀

    abbrev row_at : ℕ
    row_at = 5 + 4 * (r.rows + (by - 1))

    abbrev pos : ℕ
    pos = r.used + r.gap

    back : List ℕ
    back = shift_rows f.gap (slice (5 + 4 * r.rows) (5 + 4 * f.rows) w) ++ drop (5 + 4 * f.rows + 4 * by) w

    words_are : w' ≡ take row_at w ++ (pos ∷ length wr.0 ∷ word_of_value wr.1 ∷ s ∷ back)
    unfolding words_after row_merged back
    words_are = w-is

    pos_next : begin + f.gap ≡ pos + length wr.0 + length (bytes_of wr.1)
    pos_next = omega (arith, start_is, rest_is, m.gap_is, size_more ws wr)

    back_is : back ≡ row_words (pos + length wr.0 + length (bytes_of wr.1)) (moving ++ later) ++ tail
    unfolding back begin
    back_is =
        let g : ℕ = f.gap in
        let e : f.used + g ≡ begin + g + length (version_bytes moving) = omega (arith, used_moving) in
        let n : by ≡ length (ws ++ (wr ∷ [])) = by-is ∙ sym left_long in
        (λ z. shift_rows g (slice_rows w₀ b₀ m.valid f.rows r.rows m.rows_in place_below w b m.words_front same_front z)
        ++ ((λ y. drop (5 + 4 * f.rows + 4 * n y) w) ∙ m.words_back) z)
        ∙ ap (λ (x : List ℕ). x ++ (row_words (f.used + g) later ++ tail)) (shift_table g begin moving)
        ∙ sym (append_assoc (row_words (begin + g) moving) (row_words (f.used + g) later) tail)
        ∙ ap (λ (x : List ℕ). x ++ tail) (ap (λ (y : ℕ). row_words (begin + g) moving ++ row_words y later) e ∙ sym (table_append (begin + g) moving later))
        ∙ ap (λ (y : ℕ). row_words y (moving ++ later) ++ tail) pos_next

    row_long : length (take row_at w) ≡ 5 + 4 * r.rows + 4 * length ws
    row_long =
        let q = place_below in
        let n = left_long in
        length-take-le row_at w (omega (arith, m.words_room, m.rows_in, m.fewer, m.same_words)) ∙ omega arith

    words_back_next : drop (5 + 4 * r.rows + 4 * length ws) w' ≡ row_words pos (new ∷ (moving ++ later)) ++ tail
    unfolding row_words
    words_back_next =
        ap (drop (5 + 4 * r.rows + 4 * length ws)) words_are
        ∙ drop_at (take row_at w) _ (5 + 4 * r.rows + 4 * length ws) row_long
        ∙ ap (λ (x : List ℕ). pos ∷ length wr.0 ∷ word_of_value wr.1 ∷ s ∷ x) back_is

    words_front_next : take (5 + 4 * r.rows) w' ≡ take (5 + 4 * r.rows) w₀
    words_front_next =
        let q = place_below in
        let k : ℕ = 5 + 4 * r.rows in
        ap (take k) words_are
        ∙ take-append-le k (take row_at w) _ (omega (arith, row_long))
        ∙ take-take k row_at w (omega arith)
        ∙ sym (take-take k (5 + 4 * f.rows) w (omega arith))
        ∙ ap (take k) m.words_front
        ∙ take-take k (5 + 4 * f.rows) w₀ (omega arith)

    -- the bytes
    end : List ℕ
    end = drop (used_word w₀ + writes_size all) b₀

    behind : List ℕ
    behind = slice r.used f.used b ++ drop (f.used + f.gap) b

    bytes_are : b' ≡ take pos b ++ (wr.0 ++ (bytes_of wr.1 ++ behind))
    unfolding bytes_after bytes_merged behind
    bytes_are = b-is

    behind_is : behind ≡ version_bytes moving ++ (version_bytes later ++ end)
    unfolding behind begin end
    behind_is =
        (λ z. slice (start_is z) (m.used_is z) b ++ m.bytes_back z)
        ∙ ap (λ (x : List ℕ). x ++ (version_bytes later ++ end)) (slice_bytes w₀ b₀ m.valid f.rows r.rows m.rows_in place_below w b m.words_front same_front)

    pos_in : pos ≤ length b
    pos_in = omega (arith, start_is, rest_is, used_moving, used_in, m.bytes_room, m.smaller, m.same_bytes_lem, size_more ws wr)

    bytes_back_next : drop pos b' ≡ version_bytes (new ∷ (moving ++ later)) ++ end
    unfolding version_bytes
    bytes_back_next =
        ap (drop pos) bytes_are
        ∙ drop_at (take pos b) _ pos (length-take-le pos b pos_in)
        ∙ ap (λ (x : List ℕ). wr.0 ++ (bytes_of wr.1 ++ x)) (behind_is ∙ sym (append_assoc (version_bytes moving) (version_bytes later) end) ∙ ap (λ (x : List ℕ). x ++ end) (sym (bytes_append moving later)))
        ∙ sym (append_assoc wr.0 (bytes_of wr.1 ++ version_bytes (moving ++ later)) end ∙ ap (λ (x : List ℕ). wr.0 ++ x) (append_assoc (bytes_of wr.1) (version_bytes (moving ++ later)) end))

    bytes_front_next : take r.used b' ≡ take r.used b₀
    bytes_front_next =
        let k : ℕ = r.used in
        let o : k ≤ f.used = omega (arith, start_is, used_moving) in
        ap (take k) bytes_are
        ∙ take-append-le k (take pos b) _ (omega (arith, length-take-le pos b pos_in))
        ∙ take-take k pos b (omega arith)
        ∙ sym (take-take k f.used b o)
        ∙ ap (take k) m.bytes_front
        ∙ take-take k f.used b₀ o

    pub pass_more : length w' ≡ length w → length b' ≡ length b → Pass w₀ b₀ all ws r w' b'
    unfolding begin end
    pass_more lw lb = record {
      done = new ∷ (moving ++ later);
      valid = m.valid;
      words_room = m.words_room;
      bytes_room = m.bytes_room;
      rows_in = omega (arith, place_below, m.rows_in);
      fewer = omega (arith, left_long, m.fewer);
      smaller = omega (arith, size_more ws wr, m.smaller);
      whole = whole_next;
      used_is = start_is;
      gap_is = rest_is;
      words_front = words_front_next;
      words_back = words_back_next;
      bytes_front = bytes_front_next;
      bytes_back = bytes_back_next;
      same_words = lw ∙ m.same_words;
      same_bytes_lem = lb ∙ m.same_bytes_lem;
    }

-- after the last turn
module _ {w₀ b₀ : List ℕ} {all : List Write} {f : Front} {w b : List ℕ} (m : Pass w₀ b₀ all [] f w b) where
  abbrev merged : Store
  merged = commit all (store_in w₀ b₀)

  abbrev first : List Version
  first = take f.rows (versions_in w₀ b₀)

  versions_are : first ++ m.done ≡ merged.versions
  versions_are = ap (λ (x : List Version). x ++ m.done) (sym (merge_none (last_word w₀) first)) ∙ m.whole

  no_gap : f.used + f.gap ≡ f.used
  unfolding writes_size
  no_gap = omega (arith, m.gap_is)

  merged_long : length merged.versions ≡ count_word w₀ + length all
  unfolding store_in
  merged_long = commit_count all (store_in w₀ b₀) ∙ omega (arith, length_versions w₀ b₀ 0 (count_word w₀))

  merged_bytes : length (version_bytes merged.versions) ≡ used_word w₀ + writes_size all
  unfolding store_in
  merged_bytes =
      omega (arith, versions_size_lem merged.versions, commit_size all (store_in w₀ b₀), versions_size_lem (versions_in w₀ b₀), (encoded w₀ b₀ m.valid.valid).used_is)

  pub pass_rows : w ≡ leave_rows merged w₀
  unfolding leave_rows
  pass_rows =
      let d : ℕ = 5 + 4 * (count_word w₀ + length all) in
      let e : 5 + 4 * f.rows + 4 * 0 ≡ 5 + 4 * f.rows = omega arith in
      let behind-rows : drop (5 + 4 * f.rows) w ≡ row_words (length (version_bytes first)) m.done ++ drop d w₀ =
      ap (λ (n : ℕ). drop n w) (sym e) ∙ m.words_back ∙ ap (λ (n : ℕ). row_words n m.done ++ drop d w₀) (no_gap ∙ m.used_is) in
      let rows : row_words 0 first ++ row_words (length (version_bytes first)) m.done ≡ row_words 0 merged.versions =
      ap (λ (n : ℕ). row_words 0 first ++ row_words n m.done) (sym (zero-add (length (version_bytes first)))) ∙ sym (table_append 0 first m.done) ∙ ap (row_words 0) versions_are in
      words_spread w₀ b₀ m.valid f.rows m.rows_in w b m.words_front ((λ z. take (sym m.used_is z) b) ∙ m.bytes_front ∙ (λ z. take (m.used_is z) b₀))
      ∙ ap (λ (x : List ℕ). take 5 w₀ ++ (row_words 0 first ++ x)) behind-rows
      ∙ ap (λ (x : List ℕ). take 5 w₀ ++ x) (sym (append_assoc (row_words 0 first) (row_words (length (version_bytes first)) m.done) (drop d w₀)))
      ∙ (λ z. take 5 w₀ ++ (rows z ++ drop (5 + 4 * sym merged_long z) w₀))

  pub pass_bytes : b ≡ leave_bytes merged b₀
  unfolding leave_bytes over_front
  pass_bytes =
      let d : ℕ = used_word w₀ + writes_size all in
      let same : take (length (version_bytes first)) b ≡ take (length (version_bytes first)) b₀ = (λ z. take (sym m.used_is z) b) ∙ m.bytes_front ∙ (λ z. take (m.used_is z) b₀) in
      let behind-bytes : drop (length (version_bytes first)) b ≡ version_bytes m.done ++ drop d b₀ =
      ap (λ (n : ℕ). drop n b) (sym (no_gap ∙ m.used_is)) ∙ m.bytes_back in
      bytes_spread w₀ b₀ m.valid f.rows m.rows_in w b m.words_front same
      ∙ ap (λ (x : List ℕ). version_bytes first ++ x) behind-bytes
      ∙ sym (append_assoc (version_bytes first) (version_bytes m.done) (drop d b₀))
      ∙ (λ z. (sym (bytes_append first m.done) ∙ ap version_bytes versions_are) z ++ drop (sym merged_bytes z) b₀)

-- the header renewed
pub rows_headed : (w b : List ℕ) (all : List Write) {c u l : ℕ} {w₁ w₂ : List ℕ} → Valid w b → c ≡ count_word w + length all → u ≡ used_word w + writes_size all → l ≡ last_word w + length all
    → w₁ ≡ leave_rows (commit all (store_in w b)) w → w₂ ≡ set (set (set w₁ 0 c) 1 u) 2 l → w₂ ≡ leave_words (commit all (store_in w b)) w
unfolding leave_rows store_in
rows_headed w b all {c} {u} {l} v c-is u-is l-is p q =
    let st : Store = commit all (store_in w b) in
    let en = encoded w b v.valid in
    let rows : List ℕ = row_words 0 st.versions ++ drop (5 + 4 * length st.versions) w in
    let cs : c ≡ length st.versions = omega (arith, c-is, commit_count all (store_in w b), length_versions w b 0 (count_word w)) in
    let us : u ≡ length (version_bytes st.versions) =
    omega (arith, u-is, versions_size_lem st.versions, commit_size all (store_in w b), versions_size_lem (versions_in w b), en.used_is) in
    let kept = later_commit all (store_in w b) in
    let ls : l ≡ st.last = l-is ∙ sym (commit_last all (store_in w b)) in
    q ∙ ap (λ (x : List ℕ). set (set (set x 0 c) 1 u) 2 l) (p ∙ ap (λ (x : List ℕ). x ++ rows) (five w en.head_in))
    ∙ (λ z. cs z ∷ us z ∷ ls z ∷ sym kept.most_versions z ∷ sym kept.most_bytes z ∷ rows)
    ∙ sym (leave_words_lem st w)
