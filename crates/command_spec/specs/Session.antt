-- Sessions (document 01, section 7; `Session::run` and `exec` of src/server.rs).
use Rattle.std.specs.Prelude.{ℕ, Bool, true, false, cond, ◌&&◌, ◌||◌, List, [], ◌∷◌, ◌++◌, map, leb, length}
use Rattle.std.specs.Prelude.{Option, None, Some}
use Rattle.base_key.specs.Bytes.{Bytes, bytes, concat, total}
use Rattle.base_key.specs.Keys.{Key, compare_keys}
use Rattle.resp_spec.specs.Utf8.{lossy}
use Rattle.resp_spec.specs.Request.{quoted}
use Rattle.resp_spec.specs.Reply.{Reply, Simple, Error, NilArray, array, ok, err}
use Rattle.store_memtable.specs.Table.{Entry, Write, last_writes}
use Rattle.store_memtable.specs.Versions.{Version, Store, read_at, moved, table, commit}
use Rattle.group_spec.specs.declared.Verdict.{Verdict}
use Rattle.group_spec.specs.declared.Verdict.TheVariants.{Accepted, Conflict, NoRoom, NoSequence, NotTaken}
use Rattle.group_spec.specs.Group.{plain, verdict_byte, is_accepted, verdict_alone}
use Rattle.command_spec.specs.Names.{Args, Row, row_of, name_word, arguments, count_right, with_options, operation_of, arity, Control, MULTI, EXEC, DISCARD, WATCH, UNWATCH, QUIT, other, control_of}
use Rattle.resp_spec.specs.Letters.{upper}
use Rattle.command_spec.specs.Command.{Executed, runs, lists, Effect, Ran, set_options, executed_of, command_of, run, answer_listing, run_queue}
use Rattle.std.specs.declared.cmp.Ordering.TheVariants.{Less, Equal, Greater}

-- a watch: the watched keys, ascending, each with the last sequence at its first WATCH
abbrev pub Watching : Type 0
Watching = List (Entry ℕ)

-- its keys
abbrev pub watched_keys : Watching → List Key
watched_keys = map (λ (e : Entry ℕ). e.0)

-- their sequences
abbrev pub watched_sequences : Watching → List ℕ
watched_sequences = map (λ (e : Entry ℕ). e.1)

-- `queue` is `none` outside MULTI; `failed` is the mark
pub record Session : Type 0 where
  pub queue : Option (List Args)
  pub failed : Bool
  pub watch : Watching

-- a clear session: outside MULTI, unmarked, without watch
abbrev pub clear : Session
clear = record { queue = None; failed = false; watch = [] }

-- what a request gives: a number, or a reply
pub data Result : Type 0 where
  number : ℕ → Result
  reply : Reply → Result

-- with the store and the session that it leaves
pub record Done : Type 0 where
  pub result : Result
  pub store : Store
  pub session : Session

-- a reply
abbrev pub says : Reply → Store → Session → Done
says r st s = record { result = reply r; store = st; session = s }

-- a number
abbrev pub returns : ℕ → Store → Session → Done
returns n st s = record { result = number n; store = st; session = s }

-- OUTSIDE MULTI. A command's writes commit by themselves, as a group of one without a read sequence.
-- 6 and 7 are the verdict's byte.
unfoldable pub committed : Verdict → Effect → Store → Session → Done
committed v e st s = cond (is_accepted v) (says e.0 (commit e.1 st) s) (returns (verdict_byte v) st s)

-- a command outside MULTI
unfoldable pub direct : Executed → Store → Session → Done
direct (runs c) st s = let e = run (read_at st.last st.versions) c in committed (verdict_alone st (plain e.1)) e st s
direct (lists l) st s = says (answer_listing (table st.versions) l) st s

-- WATCH. A key in its place of an ascending watch, with its sequence; one that is there keeps its first
unfoldable pub add_key : ℕ → Key → Watching → Watching
add_key n k [] = (k, n) ∷ []
add_key n k (e ∷ w) = elim (compare_keys k e.0) [ Less ↦ (k, n) ∷ e ∷ w | Equal ↦ e ∷ w | Greater ↦ e ∷ add_key n k w ]

-- the keys added to a watch
unfoldable pub add_keys : ℕ → List Key → Watching → Watching
add_keys n [] w = w
add_keys n (k ∷ ks) w = add_keys n ks (add_key n k w)

-- 5: 32 distinct keys, 2,048 key bytes
unfoldable pub watch_fits : List Key → Bool
watch_fits ks = leb (length ks) 32 && leb (total (map length ks)) 2048

-- WATCH: adds its keys, or returns 5
unfoldable pub watching : List Key → Store → Session → Done
watching ks st s =
    let w = add_keys st.last ks s.watch in
    cond (watch_fits (watched_keys w)) (says ok st (record { queue = s.queue; failed = s.failed; watch = w })) (returns 5 st s)

-- a request outside MULTI
unfoldable pub outside_multi : Control → Row → Args → Store → Session → Done
outside_multi MULTI r a st s = says ok st (record { queue = Some []; failed = false; watch = s.watch })
outside_multi EXEC r a st s = says (err (bytes "EXEC without MULTI")) st s
outside_multi DISCARD r a st s = says (err (bytes "DISCARD without MULTI")) st s
outside_multi WATCH r a st s = cond (count_right r (length (arguments a))) (watching (arguments a) st s) (says (arity r) st s)
outside_multi UNWATCH r a st s = says ok st (record { queue = s.queue; failed = s.failed; watch = [] })
outside_multi QUIT r a st s = says ok st clear
outside_multi other r a st s = direct (executed_of a) st s

-- INSIDE MULTI. 4: 64 commands, 512 arguments, 8,192 argument bytes, names counted
unfoldable pub queue_fits : List Args → Bool
queue_fits q = leb (length q) 64 && leb (total (map length q)) 512 && leb (total (map length (concat q))) 8192

-- `+QUEUED`
abbrev pub queued_reply : Reply
queued_reply = Simple (bytes "QUEUED")

-- the session marked failed
abbrev pub marked : Session → Session
marked s = record { queue = s.queue; failed = true; watch = s.watch }

-- a command joins the queue, or returns 4 and marks the session
unfoldable pub enqueue : List Args → Args → Store → Session → Done
enqueue q a st s =
    cond (queue_fits (q ++ a ∷ []))
    (says queued_reply st (record { queue = Some (q ++ a ∷ []); failed = s.failed; watch = s.watch }))
    (returns 4 st (marked s))

-- one of the eleven: a wrong argument count, and SET with options, are answered by their error, queue nothing and mark the session;
-- both are tested before number 4
unfoldable pub queue_up : List Args → Row → Args → Store → Session → Done
queue_up q r a st s =
    let n = length (arguments a) in
    cond (count_right r n) (cond (with_options (operation_of r.name) n) (says set_options st (marked s)) (enqueue q a st s)) (says (arity r) st (marked s))

-- another name marks the session failed
unfoldable pub not_queueable : Bytes → Reply
not_queueable word = err (quoted (map upper (lossy word)) ++ bytes " can't be used inside MULTI")

-- EXEC DECIDES: the verdict (not taken, if none is reached), the reply, and the writes.
pub record Decision : Type 0 where
  pub verdict : Verdict
  pub answer : Reply
  pub writes : List Write

-- the reply to EXEC of a failed session
abbrev pub exec_abort : Reply
exec_abort = Error (bytes "EXECABORT Transaction discarded because of previous errors.")

-- a watched key has a newest version above its sequence
unfoldable pub any_moved : List Version → Watching → Bool
any_moved vs [] = false
any_moved vs (e ∷ w) = moved e.1 vs e.0 || any_moved vs w

-- conflict comes first; 6 and 7 are those of a group of one without a read sequence
unfoldable pub verdict_exec : List Write → Store → Watching → Verdict
verdict_exec ws st w = cond (any_moved st.versions w) Conflict (verdict_alone st (plain ws))

-- what the verdict makes of the replies and writes
unfoldable pub decided : Verdict → Ran → List Write → Decision
decided Accepted ran ws = record { verdict = Accepted; answer = array ran.replies; writes = ws }
decided Conflict ran ws = record { verdict = Conflict; answer = NilArray; writes = [] }
decided NoRoom ran ws = record { verdict = NoRoom; answer = NilArray; writes = [] }
decided NoSequence ran ws = record { verdict = NoSequence; answer = NilArray; writes = [] }
decided NotTaken ran ws = record { verdict = NotTaken; answer = NilArray; writes = [] }

-- EXEC of a failed session reaches no verdict; any other runs on the table as it stands, and writes once per key, the last, ascending
unfoldable pub decide : List Args → Store → Session → Decision
decide q st s = elim s.failed [
  | true ↦ record { verdict = NotTaken; answer = exec_abort; writes = [] }
  | false ↦
      let ran = run_queue (read_at st.last st.versions) (map command_of q) in
      let ws = last_writes [] ran.writes in
      decided (verdict_exec ws st s.watch) ran ws
]

-- AND APPLIES: 6 and 7 leave all; otherwise queue, watch and mark are dropped, and an accepted EXEC writes.
unfoldable pub apply : Verdict → Decision → Store → Session → Done
apply Accepted d st s = says d.answer (commit d.writes st) clear
apply Conflict d st s = says d.answer st clear
apply NoRoom d st s = returns 6 st s
apply NoSequence d st s = returns 7 st s
apply NotTaken d st s = says d.answer st clear

-- EXEC
unfoldable pub execute : List Args → Store → Session → Done
execute q st s = let d = decide q st s in apply d.verdict d st s

-- a request inside MULTI
unfoldable pub inside_multi : Control → List Args → Row → Args → Store → Session → Done
inside_multi EXEC q r a st s = execute q st s
inside_multi DISCARD q r a st s = says ok st clear
inside_multi MULTI q r a st s = says (err (bytes "MULTI calls can not be nested")) st s
inside_multi WATCH q r a st s = says (err (bytes "WATCH inside MULTI is not allowed")) st s
inside_multi QUIT q r a st s = says ok st clear
inside_multi UNWATCH q r a st s = says (not_queueable (name_word a)) st (marked s)
inside_multi other q r a st s = cond r.queueable (queue_up q r a st s) (says (not_queueable (name_word a)) st (marked s))

-- ONE REQUEST of a session, by its name and queue. QUIT answers `+OK` and clears the session, even inside MULTI.
unfoldable pub respond_by : Option (List Args) → Row → Args → Store → Session → Done
respond_by None r a st s = outside_multi (control_of r.name) r a st s
respond_by (Some q) r a st s = inside_multi (control_of r.name) q r a st s

-- a request that is not empty
unfoldable pub respond : Args → Store → Session → Done
respond a st s = respond_by s.queue (row_of (name_word a)) a st s
