-- A request on one session (document 01, sections 3 and 7, and the returned numbers), a preview of its EXEC (document 02, R-6), and the state of all
-- sessions.
use Rattle.std.specs.Prelude.{ℕ, ◌+◌, true, false, cond, List, [], ◌∷◌, ◌++◌, map, ltb, eqb, length, get_or, set, replicate}
use Rattle.base_key.specs.Bytes.{Bytes, bytes}
use Rattle.resp_spec.specs.declared.Fault.{Fault}
use Rattle.resp_spec.specs.Request.{Reading, waits, faulty, too_many, whole, read_request, spanned, fault_text}
use Rattle.resp_spec.specs.Reply.{Reply, err}
use Rattle.store_memtable.specs.Versions.{Store}
use Rattle.store_memtable.specs.Layout.{empty_store}
use Rattle.command_spec.specs.Session.{Session, clear, says, respond}
use Rattle.command_spec.specs.Finish.{Served, silent, finish}
use Rattle.exec_decision.specs.Decided.{Decided, decide_exec}

-- the reply to a protocol error
unfoldable pub protocol_error : Bytes → Fault → Reply
protocol_error input f = err (bytes "Protocol error: " ++ fault_text input f)

-- a wait uses 0 bytes; an empty request uses its bytes and gets no reply; a protocol error uses all bytes and clears the session
unfoldable pub serve_reading : ℕ → Bytes → Reading → Store → Session → Served
serve_reading room input waits st s = silent 0 0 st s
serve_reading room input too_many st s = silent 2 0 st s
serve_reading room input (faulty f) st s = finish room (length input) (says (protocol_error input f) st clear) st s
serve_reading room input (whole [] used) st s = silent 0 used st s
serve_reading room input (whole (p ∷ ps) used) st s = finish room used (respond (map (spanned input) (p ∷ ps)) st s) st s

-- one request: the bytes handed in, on the store and one session
unfoldable pub serve : ℕ → ℕ → Bytes → Store → Session → Served
serve places room input st s = serve_reading room input (read_request places input) st s

-- THE STATE: the store and sixteen sessions.
pub record State : Type 0 where
  pub store : Store
  pub sessions : List Session

-- session i of the state
abbrev pub session_in : ℕ → State → Session
session_in i st = get_or st.sessions i clear

-- with another store
abbrev pub with_store_of : Store → State → State
with_store_of x st = record { store = x; sessions = st.sessions }

-- with another session i
abbrev pub with_session_of : ℕ → Session → State → State
with_session_of i s st = record { store = st.store; sessions = set st.sessions i s }

-- an empty store just opened, and sixteen clear sessions
unfoldable pub open_state : ℕ → ℕ → ℕ → State
open_state last versions size = record { store = empty_store last versions size; sessions = replicate 16 clear }

-- what a call answers: 0 or a number, the bytes used, the reply, the verdict bytes, and the last sequence that a preview gives
pub record Outcome : Type 0 where
  pub number : ℕ
  pub used : ℕ
  pub reply : Bytes
  pub verdicts : Bytes
  pub last : ℕ

-- AN OUTCOME: a number alone
abbrev pub refused : ℕ → Outcome
refused n = record { number = n; used = 0; reply = []; verdicts = []; last = 0 }

-- or an answer
abbrev pub outcome_of : ℕ → ℕ → Bytes → Bytes → ℕ → Outcome
outcome_of n used reply verdicts last = record { number = n; used = used; reply = reply; verdicts = verdicts; last = last }

-- the outcome of a request
abbrev pub answered : Served → Outcome
answered d = outcome_of d.number d.used d.reply [] 0

-- the outcome of a preview, on a store with this last sequence: the verdict byte, the reply, and the last sequence that EXEC would leave
unfoldable pub previewed : ℕ → Decided → Outcome
previewed last d = cond (eqb d.number 0) (outcome_of 0 0 d.reply (d.verdict ∷ []) (last + length d.writes)) (refused d.number)

-- of EXEC of a session, with a reply buffer of this length
abbrev pub exec_previewed : ℕ → Store → Session → Outcome
exec_previewed room st s = previewed st.last (decide_exec room st s)

-- an outcome, and the state after it
pub record Stepped : Type 0 where
  pub outcome : Outcome
  pub state : State

-- a request on the state: 1 for a session above 15
unfoldable pub request_on : ℕ → Bytes → ℕ → ℕ → State → Stepped
request_on i input places room st = elim (ltb i 16) [
  | true ↦
      let d = serve places room input st.store (session_in i st) in
      record { outcome = answered d; state = with_session_of i d.session (with_store_of d.store st) }
  | false ↦ record { outcome = refused 1; state = st }
]

-- a preview of EXEC on the state, which stays: 1 for a session above 15
unfoldable pub preview_on : ℕ → ℕ → State → Stepped
preview_on i room st = record { outcome = cond (ltb i 16) (exec_previewed room st.store (session_in i st)) (refused 1); state = st }
