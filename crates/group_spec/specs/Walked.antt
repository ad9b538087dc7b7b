-- What settling a lent group asks, and what it leaves.
use Rattle.std.specs.Prelude.{ℕ, ◌≤◌, ◌≡◌, true, List, map, length}
use Rattle.base_key.specs.Bytes.{Bytes, over_front}
use Rattle.store_memtable.specs.Layout.{last_word, store_in, leave_words, leave_bytes}
use Rattle.store_memtable.specs.Rows.{Valid}
use Rattle.group_spec.specs.declared.Member.{Member}
use Rattle.group_spec.specs.Group.{Finished, group, verdict_byte}
use Rattle.group_spec.specs.Members.{members_inside, pending_of}

-- a verdict byte for each member, no part outside its buffer, a valid store, and its last sequence
pub record GroupReady (ms : List Member) (began : ℕ) (parts : List ℕ) (d : Bytes) (w : List ℕ) (b v : Bytes) : Type 0 where
  pub verdicts_hold : length ms ≤ length v
  pub all_inside : members_inside parts d ms ≡ true
  pub valid_store : Valid w b
  pub began_is : began ≡ last_word w

-- the group as lent
abbrev pub group_of : List Member → List ℕ → Bytes → List ℕ → Bytes → Finished
group_of ms parts d w b = group (map (pending_of parts d) ms) (store_in w b)

-- its verdicts stand in front of the other verdict bytes, and its store is written back
pub record GroupLeft (ms : List Member) (parts : List ℕ) (d : Bytes) (w : List ℕ) (b v : Bytes) (w' : List ℕ) (b' v' : Bytes) : Type 0 where
  pub words_left : w' ≡ leave_words (group_of ms parts d w b).store w
  pub bytes_left : b' ≡ leave_bytes (group_of ms parts d w b).store b
  pub verdicts_left : v' ≡ over_front (map verdict_byte (group_of ms parts d w b).verdicts) v
