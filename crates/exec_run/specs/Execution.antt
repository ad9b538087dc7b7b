-- EXEC as bytes, and what its functions before the end leave: the working memory laid out.
use Rattle.std.specs.Prelude.{ℕ, ◌+◌, ◌*◌, ◌≤◌, ◌≡◌, Bool, true, false, List, map, leb, length, get_or, take, replicate}
use Rattle.base_key.specs.Bytes.{Bytes, ◌and◌, part, total}
use Rattle.store_memtable.specs.Layout.{store_in}
use Rattle.store_memtable.specs.Rows.{Valid, versions_in}
use Rattle.group_spec.specs.declared.Verdict.{Verdict}
use Rattle.command_spec.specs.Command.{command_of}
use Rattle.command_spec.specs.Session.{any_moved, execute}
use Rattle.command_spec.specs.Sessions.{queue_in, session_from, all_positive, all_queueable}
use Rattle.command_spec.specs.Held.{Held}
use Rattle.command_spec.specs.Finish.{Served, finish}
use Rattle.exec_decision.specs.Decided.{Decided, decide_queue}
use Rattle.command_spec.specs.declared.CallError.{CallError}
use Rattle.exec_finish.specs.declared.Prepared.{Prepared}
use Rattle.exec_finish.specs.Numbers.{PreparedNumbers, prepared_numbers}
use Rattle.exec_finish.specs.Deciding.{Decides}
use Rattle.exec_run.specs.declared.layout.Sizes.{Sizes}
use Rattle.exec_run.specs.Progress.{Queued, commands_in}
use Rattle.std.specs.Prelude.{Option, None, Some, Result, Ok, Err}

-- EXEC as bytes
unfoldable pub exec_served : ℕ → ℕ → List ℕ → Bytes → List ℕ → Bytes → Served
exec_served room used s sb w b = finish room used (execute (queue_in s sb) (store_in w b) (session_from s sb)) (store_in w b) (session_from s sb)

-- what EXEC of the queue decides, as bytes
unfoldable pub exec_decided : ℕ → List ℕ → Bytes → List ℕ → Bytes → Decided
exec_decided room s sb w b = decide_queue room (queue_in s sb) (store_in w b) (session_from s sb)

-- the sizes of a session's queue
pub record SizesOf (s : List ℕ) (z : Sizes) : Type 0 where
  pub commands : z.commands ≡ get_or s 3 0
  pub arguments : z.arguments ≡ total (part 68 (get_or s 3 0) s)
  pub bytes : z.bytes ≡ total (part 132 (total (part 68 (get_or s 3 0) s)) s)

-- few enough for the small working memory
unfoldable pub small : Sizes → Bool
small z = leb z.commands 16 and leb z.arguments 48 and leb z.bytes 1024

-- working memory with room for a queue of these sizes: two words for the place of each argument, four for each write, and the bytes of the
-- arguments with 20 more for the text of a counter of each command
pub record WorkingMemory (z : Sizes) (p own : List ℕ) (d : Bytes) : Type 0 where
  pub places : 2 * z.arguments ≤ length p
  pub writes : 4 * z.arguments ≤ length own
  pub bytes : z.bytes + 20 * z.commands ≤ length d

-- THE WORKING MEMORY LAID OUT: the places of the queued arguments, and their r bytes with room behind these
pub record LaidOut (s : List ℕ) (sb d : Bytes) (p' : List ℕ) (d' : Bytes) (r : ℕ) : Type 0 where
  pub queued : Queued s p' (take r d')
  pub commands : commands_in s p' (take r d') ≡ map command_of (queue_in s sb)
  pub room : r + 20 * get_or s 3 0 ≤ length d'
  pub same_data : length d' ≡ length d

-- before the commands of the queue: no mark, no watched key has moved, and the reply buffer is cleared
pub record ExecReady (s : List ℕ) (sb : Bytes) (w b : List ℕ) (out : Bytes) : Type 0 where
  pub held : Held s sb
  pub positive : all_positive (part 68 (get_or s 3 0) s) ≡ true
  pub queueable : all_queueable (queue_in s sb) ≡ true
  pub unmarked : get_or s 1 0 ≡ 0
  pub unmoved : any_moved (versions_in w b) (session_from s sb).watch ≡ false
  pub valid : Valid w b
  pub cleared : out ≡ replicate (length out) 0

-- what is known before the queue runs, as numbers: an error too is known
abbrev pub known_numbers : Result (Option (Prepared Verdict)) CallError → Option PreparedNumbers
known_numbers (Ok None) = None
known_numbers (Ok (Some p)) = Some (prepared_numbers (Ok p))
known_numbers (Err e) = Some (prepared_numbers (Err e))

-- WHAT IS KNOWN BEFORE THE QUEUE RUNS: the decision, with its reply in the buffer and without writes in any working memory; or the queue has to run
pub record BeforeQueue (s : List ℕ) (sb : Bytes) (w b : List ℕ) (out : Bytes) (e : Option PreparedNumbers) (out' : Bytes) : Type 0 where
  pub known : (p : PreparedNumbers) → e ≡ Some p → (own : List ℕ) (d : Bytes) → Decides (exec_decided (length out) s sb w b) w out own d p out'
  pub runs : e ≡ None → (out' ≡ out) × ExecReady s sb w b out
