-- What single functions of the group read: sizes by the words of the table, conflicts by newest versions alone, and the facts they ask for.
use Rattle.std.specs.Prelude.{ℕ, zero, suc, ◌+◌, ◌-◌, ◌*◌, ◌^◌, ◌≤◌, ◌<◌, ◌≡◌, Bool, true, false, cond, List, [], ◌∷◌, ltb, length, get_or}
use Rattle.std.specs.Prelude.{Option, None, Some}
use Rattle.base_key.specs.Bytes.{Bytes, part}
use Rattle.base_key.specs.Keys.{Key}
use Rattle.store_memtable.specs.Versions.{Version, Store, moved}
use Rattle.store_memtable.specs.Layout.{count_word, used_word, last_word, most_versions_word, most_bytes_word}
use Rattle.store_memtable.specs.Rows.{bytes_left}
use Rattle.group_spec.specs.declared.Member.{Member}
use Rattle.group_spec.specs.declared.Verdict.{Verdict}
use Rattle.group_spec.specs.declared.Verdict.TheVariants.{Accepted, Conflict, NoRoom, NoSequence, NotTaken}
use Rattle.group_spec.specs.Group.{Pending, Finished, any_key, held_keys, has_room, has_sequences, store_after}
use Rattle.group_spec.specs.Members.{all_from, value_inside, write_inside, check_inside, pending_of}

-- the key whose start and length stand at place `at` of the table
abbrev pub key_part : List ℕ → Bytes → ℕ → Key
key_part w d at = part (get_or w at 0) (get_or w (at + 1) 0) d

-- the key of write j
abbrev pub write_key : List ℕ → Bytes → ℕ → Key
write_key w d j = key_part w d (4 * j)

-- checked key j
abbrev pub check_key : List ℕ → Bytes → ℕ → Key
check_key w d j = key_part w d (2 * j)

-- write j is there, with its key and its value
pub record WriteIn (w : List ℕ) (d : Bytes) (j : ℕ) : Type 0 where
  pub row_in : 4 * j + 4 ≤ length w
  pub key_in : get_or w (4 * j) 0 + get_or w (4 * j + 1) 0 ≤ length d
  pub value_in : value_inside (get_or w (4 * j + 2) 0) (get_or w (4 * j + 3) 0) d ≡ true

-- the key at place `at` lies in the data
pub record KeyIn (w : List ℕ) (d : Bytes) (at : ℕ) : Type 0 where
  pub words_in : at + 1 < length w
  pub key_in : get_or w at 0 + get_or w (at + 1) 0 ≤ length d

-- the rows of `count` writes from write `first` on are there, and their keys and values
pub record WritesIn (w : List ℕ) (d : Bytes) (first count : ℕ) : Type 0 where
  pub rows_in : 4 * (first + count) ≤ length w
  pub parts_in : all_from (write_inside w d) first count ≡ true

-- the rows of `count` checked keys from check `first` on are there, and the keys
pub record ChecksIn (w : List ℕ) (d : Bytes) (first count : ℕ) : Type 0 where
  pub rows_in : 2 * (first + count) ≤ length w
  pub parts_in : all_from (check_inside w d) first count ≡ true

-- the key and value bytes of write j, as its words say
unfoldable pub size_at : List ℕ → ℕ → ℕ
size_at w j = get_or w (4 * j + 1) 0 + (get_or w (4 * j + 3) 0 - 1)

-- and of n writes from write j on
unfoldable pub sizes_from : List ℕ → ℕ → ℕ → ℕ
sizes_from w j zero = 0
sizes_from w j (suc n) = size_at w j + sizes_from w (suc j) n

-- the lower of the two
abbrev pub lower : ℕ → ℕ → ℕ
lower a b = cond (ltb a b) a b

-- a key has a version above the read sequence, or above the last sequence when the group began
unfoldable pub moved_since : Option ℕ → ℕ → List Version → List Key → Bool
moved_since None began vs ks = false
moved_since (Some s) began vs ks = any_key (moved (lower s began) vs) ks

-- the verdict, from the store and the last sequence when the group began
unfoldable pub judge_since : ℕ → Store → Pending → Verdict
judge_since began st m =
    cond (moved_since m.read_seq began st.versions (held_keys m)) Conflict
    (cond (has_room st m.writes) (cond (has_sequences st m.writes) Accepted NoSequence) NoRoom)

-- there is room for so many more versions, for their bytes, and sequences for them
pub record RoomFor (w : List ℕ) (count size : ℕ) : Type 0 where
  pub rows_free : count_word w + count ≤ most_versions_word w
  pub bytes_free : used_word w + size ≤ most_bytes_word w
  pub seqs_free : last_word w + count < 2 ^ 64

-- A STEP OF THE WALK over members. `room` is 0 where no more is taken, else one more than what is left of 1,048,576 bytes
unfoldable pub as_room : Option ℕ → ℕ
as_room (Some n) = suc n
as_room None = 0

-- the room after member i of this size: the first is taken whatever its size
unfoldable pub room_after : ℕ → ℕ → ℕ → ℕ
room_after zero room size = as_room (bytes_left 1048576 size)
room_after (suc i) zero size = 0
room_after (suc i) (suc n) size = as_room (bytes_left n size)

-- is member i taken, where this room is after it?
unfoldable pub taken_at : ℕ → ℕ → Bool
taken_at zero after = true
taken_at (suc i) zero = false
taken_at (suc i) (suc n) = true

-- its verdict
unfoldable pub step_verdict : Bool → ℕ → Store → Pending → Verdict
step_verdict true began st m = judge_since began st m
step_verdict false began st m = NotTaken

-- the walk over the members from the i-th on
unfoldable pub step_all : List ℕ → Bytes → ℕ → ℕ → ℕ → List Member → Store → Finished
step_all w d began i room [] st = record { verdicts = []; store = st }
step_all w d began i room (m ∷ ms) st =
    let after = room_after i room (sizes_from w m.first_write m.writes) in
    let v = step_verdict (taken_at i after) began st (pending_of w d m) in
    let rest = step_all w d began (suc i) after ms (store_after v (pending_of w d m).writes st) in
    record { verdicts = v ∷ rest.verdicts; store = rest.store }
