-- A group as it is lent: members, a table of parts in words, and the data. Write j stands at words 4j: key start, key length,
-- value start, value word (0 tombstone, else length + 1). Check j stands at words 2j: key start, key length.
use Rattle.std.specs.Prelude.{ℕ, zero, suc, ◌+◌, ◌-◌, ◌*◌, Bool, true, false, cond, List, [], ◌∷◌, leb, eqb, length, get_or}
use Rattle.std.specs.Prelude.{None, Some}
use Rattle.base_key.specs.Bytes.{Bytes, ◌and◌, part}
use Rattle.base_key.specs.Keys.{Key}
use Rattle.store_memtable.specs.Table.{Write}
use Rattle.store_memtable.specs.Layout.{value_of_word}
use Rattle.group_spec.specs.declared.Member.{Member}
use Rattle.group_spec.specs.Group.{Pending}

-- a part of `size` elements that starts at `start` lies within `l`
abbrev pub inside : {A : Type 0} → ℕ → ℕ → List A → Bool
inside start size l = leb (start + size) (length l)

-- n elements from place j on
unfoldable pub list_from : {A : Type 0} → (ℕ → A) → ℕ → ℕ → List A
list_from f j zero = []
list_from f j (suc n) = f j ∷ list_from f (suc j) n

-- the test holds at n places from j on
unfoldable pub all_from : (ℕ → Bool) → ℕ → ℕ → Bool
all_from f j zero = true
all_from f j (suc n) = elim (f j) [ true ↦ all_from f (suc j) n | false ↦ false ]

-- a tombstone has no value part
unfoldable pub value_inside : ℕ → ℕ → Bytes → Bool
value_inside start zero d = true
value_inside start (suc n) d = inside start n d

module _ (w : List ℕ) (d : Bytes) where
  -- write j: its key, and its value or tombstone
  unfoldable pub write_at : ℕ → Write
  write_at j = (
    part (get_or w (4 * j) 0) (get_or w (4 * j + 1) 0) d,
    value_of_word (get_or w (4 * j + 3) 0) (part (get_or w (4 * j + 2) 0) (get_or w (4 * j + 3) 0 - 1) d),
  )

  -- checked key j
  unfoldable pub check_at : ℕ → Key
  check_at j = part (get_or w (2 * j) 0) (get_or w (2 * j + 1) 0) d

  -- the key and the value of write j lie in the data
  unfoldable pub write_inside : ℕ → Bool
  write_inside j = inside (get_or w (4 * j) 0) (get_or w (4 * j + 1) 0) d and value_inside (get_or w (4 * j + 2) 0) (get_or w (4 * j + 3) 0) d

  -- checked key j lies in the data
  unfoldable pub check_inside : ℕ → Bool
  check_inside j = inside (get_or w (2 * j) 0) (get_or w (2 * j + 1) 0) d

  -- the member's rows lie in the table, and its keys and values in the data
  unfoldable pub member_inside : Member → Bool
  member_inside m =
      leb (4 * (m.first_write + m.writes)) (length w) and leb (2 * (m.first_check + m.checks)) (length w)
      and all_from write_inside m.first_write m.writes and all_from check_inside m.first_check m.checks

  -- no part of any member lies outside its buffer
  unfoldable pub members_inside : List Member → Bool
  members_inside [] = true
  members_inside (m ∷ ms) = member_inside m and members_inside ms

  -- the member with its parts looked up; without a read sequence where `has_read` is 0
  unfoldable pub pending_of : Member → Pending
  pending_of m = record {
    read_seq = cond (eqb m.has_read 0) None (Some m.read);
    writes = list_from write_at m.first_write m.writes;
    also_check = list_from check_at m.first_check m.checks;
  }

  -- 8: above 64 members, verdict bytes fewer than members, or a part outside its buffer
  unfoldable pub group_fits : List Member → Bytes → Bool
  group_fits ms verdicts = leb (length ms) 64 and leb (length ms) (length verdicts) and members_inside ms
