-- The writes of a command outside MULTI: laws of its commit and of the verdict. Assumes nothing.
use Prim.Native.Nat.{ℕ, ◌+◌, ◌-◌, ◌*◌, ◌^◌, ◌≤◌, ◌<◌}
use native.Mathlib.Omega.{arith}
use mathlib.Core.Path.{◌≡◌, refl, sym, ap, ◌∙◌, subst}
use mathlib.Core.Bool.{Bool, true, false}
use mathlib.Core.List.{List, [], ◌∷◌}
use Rattle.std.specs.Prelude.{Some}
use lib.Dec.{ltb}
use lib.ListN.{length, get_or}
use borrow.Author.Tests.{le-leb, lt-leb}
use Rattle.base_key.specs.Bytes.{Bytes, total}
use Rattle.store_memtable.specs.Table.{Write}
use Rattle.store_memtable.specs.Versions.{bytes_of, writes_size, commit_one, commit}
use Rattle.store_memtable.specs.Layout.{count_word, last_word, most_versions_word, store_in, leave_words, leave_bytes}
use Rattle.store_memtable.specs.Rows.{Valid, RoomForOne, value_if, bytes_left}
use Rattle.group_spec.specs.Group.{verdict_byte}
use Rattle.group_spec.proofs.SizeLaws.{left_rest, left_then, short_then}
use Rattle.command_spec.specs.Command.{argument, tombstone}
use Rattle.command_spec.specs.Places.{argument_at, arguments_at, lengths_at, tombstones_at, pairs_at}
use Rattle.command_spec.proofs.PlaceLaws.{argument_is, lengths_next, lengths_end, tombstones_next, tombstones_end, pairs_next, pairs_end}
use Rattle.command_room.specs.Writes.{RoomForAll, verdict_left}
use Rattle.command_room.proofs.Commits.{Commits, commits_none, commits_words, commits_bytes, commits_more}
use Rattle.std.specs.Prelude.{Option, None, Result, Err, ok_or}
use Rattle.command_spec.specs.Numbers.{number_of}
use Rattle.command_spec.specs.declared.CallError.{CallError}
use Rattle.command_spec.specs.declared.CallError.TheVariants as error

-- an argument by its place
pub at_place : (p : List ℕ) (s : Bytes) (count k : ℕ) {name : Bytes} → k < count → name ≡ argument k (arguments_at 0 count p s) → name ≡ argument_at k p s
at_place p s count k h e = e ∙ sym (argument_is p s count k h refl)

-- ONE WRITE, whose key and value are the parts that were taken
module _ {w : List ℕ} {k name : Bytes} (name_is : name ≡ k) where
  pub tombstone_room : (value : Bytes) → RoomForAll w (tombstone k ∷ []) → RoomForOne w name (bytes_of (value_if false value))
  unfolding writes_size value_if
  tombstone_room value r =
      let n = ap length name_is in
      record { row_free = omega (arith, r.rows_free); bytes_free = omega (arith, r.bytes_free); seq_free = omega (arith, r.seqs_free) }

  pub pair_room : {x value : Bytes} → value ≡ x → RoomForAll w ((k, Some x) ∷ []) → RoomForOne w name (bytes_of (value_if true value))
  unfolding writes_size value_if
  pair_room value-is r =
      let n = ap length name_is in
      let m = ap length value-is in
      record { row_free = omega (arith, r.rows_free); bytes_free = omega (arith, r.bytes_free); seq_free = omega (arith, r.seqs_free) }

module _ (w b : List ℕ) {k name : Bytes} (name_is : name ≡ k) where
  pub tombstone_words : (value : Bytes) {w' : List ℕ} → w' ≡ leave_words (commit_one (name, value_if false value) (store_in w b)) w
      → w' ≡ leave_words (commit_one (tombstone k) (store_in w b)) w
  unfolding value_if
  tombstone_words value e = e ∙ ap (λ (y : Bytes). leave_words (commit_one (tombstone y) (store_in w b)) w) name_is

  pub tombstone_bytes : (value : Bytes) {b' : List ℕ} → b' ≡ leave_bytes (commit_one (name, value_if false value) (store_in w b)) b
      → b' ≡ leave_bytes (commit_one (tombstone k) (store_in w b)) b
  unfolding value_if
  tombstone_bytes value e = e ∙ ap (λ (y : Bytes). leave_bytes (commit_one (tombstone y) (store_in w b)) b) name_is

  module _ {x value : Bytes} (value-is : value ≡ x) where
    pub pair_words : {w' : List ℕ} → w' ≡ leave_words (commit_one (name, value_if true value) (store_in w b)) w
        → w' ≡ leave_words (commit_one (k, Some x) (store_in w b)) w
    unfolding value_if
    pair_words e = e ∙ (λ z. leave_words (commit_one (name_is z, Some (value-is z)) (store_in w b)) w)

    pub pair_bytes : {b' : List ℕ} → b' ≡ leave_bytes (commit_one (name, value_if true value) (store_in w b)) b
        → b' ≡ leave_bytes (commit_one (k, Some x) (store_in w b)) b
    unfolding value_if
    pair_bytes e = e ∙ (λ z. leave_bytes (commit_one (name_is z, Some (value-is z)) (store_in w b)) b)

-- THE COMMITS. The keys before place i have their tombstones
pub record Deleting (p : List ℕ) (s : Bytes) (from to : ℕ) (w₀ b₀ w b : List ℕ) (i : ℕ) : Type 0 where
  pub within : i ≤ to
  pub commits : Commits (tombstones_at from (to - from) p s) (tombstones_at i (to - i) p s) w₀ b₀ w b

pub deleting_none : (p : List ℕ) (s : Bytes) (from to : ℕ) (w b : List ℕ) → from ≤ to → Valid w b → RoomForAll w (tombstones_at from (to - from) p s)
    → Deleting p s from to w b w b from
deleting_none p s from to w b h v r = record { within = h; commits = commits_none _ w b v r }

one_room : {w : List ℕ} {wr : Write} {rest : List Write} → RoomForAll w (wr ∷ rest) → RoomForAll w (wr ∷ [])
unfolding writes_size
one_room r = record { rows_free = omega (arith, r.rows_free); bytes_free = omega (arith, r.bytes_free); seqs_free = omega (arith, r.seqs_free) }

module _ {p : List ℕ} {s : Bytes} {from to : ℕ} {w₀ b₀ w b : List ℕ} {i : ℕ} (d : Deleting p s from to w₀ b₀ w b i) where
  module _ (h : i < to) where
    next_commits : Commits (tombstones_at from (to - from) p s) (tombstone (argument_at i p s) ∷ tombstones_at (i + 1) (to - (i + 1)) p s) w₀ b₀ w b
    next_commits = subst (λ (l : List Write). Commits (tombstones_at from (to - from) p s) l w₀ b₀ w b) (tombstones_next p s h) d.commits

    module _ {name : Bytes} (value : Bytes) (name_is : name ≡ argument i (arguments_at 0 to p s)) where
      pub deleting_room : RoomForOne w name (bytes_of (value_if false value))
      deleting_room = tombstone_room (at_place p s to i h name_is) value (one_room next_commits.room)

      pub deleting_more : {w' b' : List ℕ} → w' ≡ leave_words (commit_one (name, value_if false value) (store_in w b)) w
          → b' ≡ leave_bytes (commit_one (name, value_if false value) (store_in w b)) b → Deleting p s from to w₀ b₀ w' b' (i + 1)
      deleting_more e f =
          let n = at_place p s to i h name_is in
          record { within = omega arith; commits = commits_more next_commits (tombstone_words w b n value e) (tombstone_bytes w b n value f) }

  module _ (h : to ≤ i) where
    all_commits : Commits (tombstones_at from (to - from) p s) [] w₀ b₀ w b
    all_commits = subst (λ (l : List Write). Commits (tombstones_at from (to - from) p s) l w₀ b₀ w b) (tombstones_end p s h) d.commits

    pub deleted_words : w ≡ leave_words (commit (tombstones_at from (to - from) p s) (store_in w₀ b₀)) w₀
    deleted_words = commits_words all_commits

    pub deleted_bytes : b ≡ leave_bytes (commit (tombstones_at from (to - from) p s) (store_in w₀ b₀)) b₀
    deleted_bytes = commits_bytes all_commits

-- the first j pairs are put
pub record Setting (p : List ℕ) (s : Bytes) (from pairs : ℕ) (w₀ b₀ w b : List ℕ) (j : ℕ) : Type 0 where
  pub within : j ≤ pairs
  pub commits : Commits (pairs_at from (2 * pairs) p s) (pairs_at (from + 2 * j) (2 * (pairs - j)) p s) w₀ b₀ w b

pub setting_none : (p : List ℕ) (s : Bytes) (from pairs : ℕ) (w b : List ℕ) → Valid w b → RoomForAll w (pairs_at from (2 * pairs) p s)
    → Setting p s from pairs w b w b 0
setting_none p s from pairs w b v r =
    let f : from ≡ from + 2 * 0 = omega arith in
    let n : 2 * pairs ≡ 2 * (pairs - 0) = omega arith in
    record {
      within = omega arith;
      commits = subst (λ (l : List Write). Commits (pairs_at from (2 * pairs) p s) l w b w b) (λ z. pairs_at (f z) (n z) p s) (commits_none _ w b v r);
    }

module _ {p : List ℕ} {s : Bytes} {from pairs : ℕ} {w₀ b₀ w b : List ℕ} {j : ℕ} (d : Setting p s from pairs w₀ b₀ w b j) where
  module _ (h : j < pairs) where
    next_puts : Commits (pairs_at from (2 * pairs) p s) ((argument_at (from + 2 * j) p s, Some (argument_at (from + 2 * j + 1) p s)) ∷ pairs_at (from + 2 * (j + 1)) (2 * (pairs - (j + 1))) p s) w₀ b₀ w b
    next_puts =
        let f : from + 2 * j + 2 ≡ from + 2 * (j + 1) = omega arith in
        let first : Write = (argument_at (from + 2 * j) p s, Some (argument_at (from + 2 * j + 1) p s)) in
        subst (λ (l : List Write). Commits (pairs_at from (2 * pairs) p s) l w₀ b₀ w b)
        (pairs_next p s (from + 2 * j) (2 * (pairs - j)) (2 * (pairs - (j + 1))) (omega arith) ∙ ap (λ (k : ℕ). first ∷ pairs_at k (2 * (pairs - (j + 1))) p s) f) d.commits

    module _ {count : ℕ} {name value : Bytes} (all : from + 2 * pairs ≤ count) (name_is : name ≡ argument (from + 2 * j) (arguments_at 0 count p s))
        (value-is : value ≡ argument (from + 2 * j + 1) (arguments_at 0 count p s)) where
      name_at : name ≡ argument_at (from + 2 * j) p s
      name_at = at_place p s count (from + 2 * j) (omega arith) name_is

      value_at : value ≡ argument_at (from + 2 * j + 1) p s
      value_at = at_place p s count (from + 2 * j + 1) (omega arith) value-is

      pub setting_room : RoomForOne w name (bytes_of (value_if true value))
      setting_room = pair_room name_at value_at (one_room next_puts.room)

      pub setting_more : {w' b' : List ℕ} → w' ≡ leave_words (commit_one (name, value_if true value) (store_in w b)) w
          → b' ≡ leave_bytes (commit_one (name, value_if true value) (store_in w b)) b → Setting p s from pairs w₀ b₀ w' b' (j + 1)
      setting_more e f = record { within = omega arith; commits = commits_more next_puts (pair_words w b name_at value_at e) (pair_bytes w b name_at value_at f) }

  module _ (h : pairs ≤ j) where
    all_puts : Commits (pairs_at from (2 * pairs) p s) [] w₀ b₀ w b
    all_puts = subst (λ (l : List Write). Commits (pairs_at from (2 * pairs) p s) l w₀ b₀ w b) (pairs_end p s (from + 2 * j) (2 * (pairs - j)) (omega arith)) d.commits

    pub set_words : w ≡ leave_words (commit (pairs_at from (2 * pairs) p s) (store_in w₀ b₀)) w₀
    set_words = commits_words all_puts

    pub set_bytes : b ≡ leave_bytes (commit (pairs_at from (2 * pairs) p s) (store_in w₀ b₀)) b₀
    set_bytes = commits_bytes all_puts

-- THE BYTES LEFT
pub record Lasting (p : List ℕ) (from to left rest i : ℕ) : Type 0 where
  pub within : i ≤ to
  pub whole : bytes_left left (total (lengths_at from (to - from) p)) ≡ bytes_left rest (total (lengths_at i (to - i) p))

module _ {p : List ℕ} {from to left rest i : ℕ} (l : Lasting p from to left rest i) where
  module _ {len : ℕ} (len_is : len ≡ get_or p (2 * i + 1) 0) (h : i < to) where
    here : bytes_left left (total (lengths_at from (to - from) p)) ≡ bytes_left rest (len + total (lengths_at (i + 1) (to - (i + 1)) p))
    unfolding total
    here = l.whole ∙ ap (λ (x : List ℕ). bytes_left rest (total x)) (lengths_next p to i h)
        ∙ ap (λ (x : ℕ). bytes_left rest (x + total (lengths_at (i + 1) (to - (i + 1)) p))) (sym len_is)

    pub lasting_more : len ≤ rest → Lasting p from to left (rest - len) (i + 1)
    lasting_more k = record { within = omega arith; whole = here ∙ left_then rest len _ (rest - len) (left_rest rest len k) }

    pub lasting_short : rest < len → None ≡ bytes_left left (total (lengths_at from (to - from) p))
    unfolding bytes_left
    lasting_short k = sym (here ∙ short_then rest len _ (rw (lt-leb len rest k)))

  pub lasting_all : to ≤ i → Some rest ≡ bytes_left left (total (lengths_at from (to - from) p))
  unfolding total
  lasting_all h =
      let z : rest - 0 ≡ rest = omega arith in
      sym (l.whole ∙ ap (λ (x : List ℕ). bytes_left rest (total x)) (lengths_end p to i h) ∙ left_rest rest 0 (omega arith) ∙ ap Some z)

-- THE VERDICT
module _ (w : List ℕ) (writes : ℕ) {l : Option ℕ} where
  pub verdict_short : {x : CallError} → l ≡ None → Err x ≡ ok_or {T = ℕ} l error.NoRoom → {s : Result (Unit {0}) CallError} → s ≡ Err x → number_of s ≡ verdict_byte (verdict_left w writes l)
  unfolding verdict_left
  verdict_short {x} l-is x-is {s} s-is = rw (s-is, l-is) (let z : x ≡ error.NoRoom = cc in rw z)

  module _ {n c m : ℕ} (l-is : l ≡ Some n) (m-is : m ≡ most_versions_word w) (c-is : c ≡ count_word w) (f : count_word w ≤ most_versions_word w) where
    pub verdict_full : m - c < writes → 6 ≡ verdict_byte (verdict_left w writes l)
    unfolding verdict_left
    verdict_full h = rw (l-is, lt-leb (count_word w + writes) (most_versions_word w) (omega arith))

    pub verdict_accepted : {t : Bool} → writes ≤ m - c → t ≡ ltb (last_word w + writes) (2 ^ 64) → t ≡ true → 0 ≡ verdict_byte (verdict_left w writes l)
    unfolding verdict_left
    verdict_accepted h t-is t_true = rw (l-is, le-leb (count_word w + writes) (most_versions_word w) (omega arith), ← t-is, t_true)

    pub verdict_no_sequence : {t : Bool} → writes ≤ m - c → t ≡ ltb (last_word w + writes) (2 ^ 64) → t ≡ false → 7 ≡ verdict_byte (verdict_left w writes l)
    unfolding verdict_left
    verdict_no_sequence h t-is t-false = rw (l-is, le-leb (count_word w + writes) (most_versions_word w) (omega arith), ← t-is, t-false)
