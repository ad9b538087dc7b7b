-- Group verdicts (document 01, section 6). EXEC and a direct command commit as a group of one.
use Rattle.std.specs.Prelude.{ℕ, suc, ◌+◌, ◌-◌, ◌^◌, Bool, true, false, cond, ◌||◌, ◌&&◌, List, [], ◌∷◌, ◌++◌, map, ◌≡◌, refl, leb, ltb, length, take, replicate}
use Rattle.std.specs.Prelude.{Option, None, Some}
use Rattle.base_key.specs.Keys.{Key, same_key}
use Rattle.store_memtable.specs.Table.{Write, keys_of}
use Rattle.store_memtable.specs.Versions.{Version, Store, moved, commit, writes_size, versions_size}
use Rattle.group_spec.specs.declared.Verdict.{Verdict}
use Rattle.group_spec.specs.declared.Verdict.TheVariants.{Accepted, Conflict, NoRoom, NoSequence, NotTaken}

-- a member: an optional read sequence, its writes, and its extra checked keys
pub record Pending : Type 0 where
  pub read_seq : Option ℕ
  pub writes : List Write
  pub also_check : List Key

-- writes without a read sequence
abbrev pub plain : List Write → Pending
plain ws = record { read_seq = None; writes = ws; also_check = [] }

-- the verdict byte
abbrev pub verdict_byte : Verdict → ℕ
verdict_byte Accepted = 0
verdict_byte Conflict = 1
verdict_byte NoRoom = 6
verdict_byte NoSequence = 7
verdict_byte NotTaken = 255

-- verdict 0
abbrev pub is_accepted : Verdict → Bool
is_accepted Accepted = true
is_accepted Conflict = false
is_accepted NoRoom = false
is_accepted NoSequence = false
is_accepted NotTaken = false

-- HOW MANY ARE TAKEN, by sizes: the first, then each next one while the total stays within 1,048,576.
unfoldable pub taken_after : ℕ → List ℕ → ℕ
taken_after total [] = 0
taken_after total (n ∷ ns) = elim (leb (total + n) 1048576) [ true ↦ suc (taken_after (total + n) ns) | false ↦ 0 ]

-- how many members of these sizes are taken
unfoldable pub taken : List ℕ → ℕ
taken [] = 0
taken (n ∷ ns) = suc (taken_after n ns)

-- THE VERDICT OF A TAKEN MEMBER.
unfoldable pub any_key : (Key → Bool) → List Key → Bool
any_key f [] = false
any_key f (k ∷ ks) = f k || any_key f ks

-- the key is one of these
abbrev pub among : List Key → Key → Bool
among ks k = any_key (λ j. same_key j k) ks

-- the written and the checked keys
abbrev pub held_keys : Pending → List Key
held_keys m = keys_of m.writes ++ m.also_check

-- one of the keys was written by an earlier accepted member, or has a newest version above the read sequence
unfoldable pub conflicts : Option ℕ → List Key → List Version → List Key → Bool
conflicts None written vs ks = false
conflicts (Some s) written vs ks = any_key (λ k. among written k || moved s vs k) ks

-- 6: versions, or their key plus value bytes, would pass the capacities
unfoldable pub has_room : Store → List Write → Bool
has_room st ws =
    leb (length st.versions + length ws) st.most_versions && leb (versions_size st.versions + writes_size ws) st.most_bytes

-- 7: last sequence + writes above 2^64 - 1
unfoldable pub has_sequences : Store → List Write → Bool
has_sequences st ws = ltb (st.last + length ws) (2 ^ 64)

-- conflict comes before 6 and 7
unfoldable pub judge : List Key → Store → Pending → Verdict
judge written st m =
    cond (conflicts m.read_seq written st.versions (held_keys m)) Conflict
    (cond (has_room st m.writes) (cond (has_sequences st m.writes) Accepted NoSequence) NoRoom)

-- only an accepted member's keys count as written, and only it writes
unfoldable pub written_after : Verdict → Pending → List Key → List Key
written_after v m written = cond (is_accepted v) (keys_of m.writes ++ written) written

-- only an accepted member writes
unfoldable pub store_after : Verdict → List Write → Store → Store
store_after v ws st = cond (is_accepted v) (commit ws st) st

-- THE GROUP.
pub record Finished : Type 0 where
  pub verdicts : List Verdict
  pub store : Store

-- the taken members in order; `written` are the keys of the accepted ones so far
unfoldable pub judge_all : List Key → List Pending → Store → Finished
judge_all written [] st = record { verdicts = []; store = st }
judge_all written (m ∷ ms) st =
    let v = judge written st m in
    let rest = judge_all (written_after v m written) ms (store_after v m.writes st) in
    record { verdicts = v ∷ rest.verdicts; store = rest.store }

-- size: the key and value bytes of its writes
abbrev pub member_size : Pending → ℕ
member_size m = writes_size m.writes

-- a group of pending members: the taken ones judged, the rest not taken
unfoldable pub group : List Pending → Store → Finished
group ms st =
    let n = taken (map member_size ms) in
    let done = judge_all [] (take n ms) st in
    record { verdicts = done.verdicts ++ replicate (length ms - n) NotTaken; store = done.store }

-- A GROUP OF ONE: its verdict and the store after it.
unfoldable pub verdict_alone : Store → Pending → Verdict
verdict_alone st m = judge [] st m

-- the group of one is the group with one member
pub group_of_one : (st : Store) (m : Pending) →
    ((group (m ∷ []) st).verdicts ≡ verdict_alone st m ∷ []) × ((group (m ∷ []) st).store ≡ store_after (verdict_alone st m) m.writes st)
unfolding group taken taken_after judge_all verdict_alone
group_of_one st m = (refl, refl)
