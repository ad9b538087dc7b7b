-- How far the commands of an EXEC have come, one command after another: what the code keeps while it walks the queue; and that queue.
use Rattle.std.specs.Prelude.{ℕ, ◌≤◌, ◌≡◌, true, List, [], ◌∷◌, ◌++◌, map, length, get_or, take}
use Rattle.base_key.specs.Bytes.{Bytes, part, total}
use Rattle.base_writing.specs.Puts.{Puts}
use Rattle.resp_spec.specs.Reply.{head, encode}
use Rattle.store_memtable.specs.Table.{Write, over, last_writes}
use Rattle.store_memtable.specs.Versions.{Version, read_at}
use Rattle.command_spec.specs.Command.{Command, command_of, run}
use Rattle.command_spec.specs.Names.{Args}
use Rattle.command_spec.specs.Sessions.{split_by, all_positive, all_queueable}
use Rattle.command_spec.specs.Places.{arguments_at, PartsIn}
use Rattle.command_writes.specs.Own.{own_writes, Own}
use Rattle.exec_queued.specs.declared.Walked.{Walked}
use Rattle.std.specs.Prelude.{Option, None, Some}

-- the writes so far, one for each key; the bytes of the replies so far
pub record Progress : Type 0 where
  pub writes : List Write
  pub replies : Bytes

-- before the first command
abbrev pub begun : Progress
begun = record { writes = []; replies = [] }

-- one command more: it reads at s through the writes before it
unfoldable pub advance : ℕ → List Version → Command → Progress → Progress
advance s vs c p =
    let e = run (over p.writes (read_at s vs)) c in
    record {
      writes = last_writes p.writes e.1;
      replies = p.replies ++ encode e.0;
    }

-- all commands of a queue
unfoldable pub advance_all : ℕ → List Version → List Command → Progress → Progress
advance_all s vs [] p = p
advance_all s vs (c ∷ cs) p = advance_all s vs cs (advance s vs c p)

-- THE QUEUE of a session as the code walks it: its requests, by the places of their arguments in the data in use
unfoldable pub requests_in : List ℕ → List ℕ → Bytes → List Args
requests_in s p d = split_by (part 68 (get_or s 3 0) s) (arguments_at 0 (total (part 68 (get_or s 3 0) s)) p d)

-- its sizes, and that each request may be queued
pub record Queued (s p : List ℕ) (d : Bytes) : Type 0 where
  pub words : length s ≡ 644
  pub few : get_or s 3 0 ≤ 64
  pub few_arguments : total (part 68 (get_or s 3 0) s) ≤ 512
  pub positive : all_positive (part 68 (get_or s 3 0) s) ≡ true
  pub parts : PartsIn p d (total (part 68 (get_or s 3 0) s))
  pub queueable : all_queueable (requests_in s p d) ≡ true

-- its commands
unfoldable pub commands_in : List ℕ → List ℕ → Bytes → List Command
commands_in s p d = map command_of (requests_in s p d)

-- where the part of a reply buffer of `len` bytes that the next command is lent starts: once a reply did not fit, the part is empty
unfoldable pub lent_from : Option ℕ → ℕ → ℕ
lent_from (Some n) len = 0
lent_from None len = len

-- what running all of them leaves, by how far they have come
pub record QueueRan (e : Progress) (count : ℕ) (own : List ℕ) (d out : Bytes) (own' : List ℕ) (d' out' : Bytes) (r : Walked) : Type 0 where
  pub kept : Own own' (take r.used d') r.rows
  pub writes : own_writes own' (take r.used d') r.rows ≡ e.writes
  pub puts : Puts (head 42 count ++ e.replies) out r.put out'
  pub used_in : r.used ≤ length d'
  pub same : length own' ≡ length own
  pub same_data : length d' ≡ length d
