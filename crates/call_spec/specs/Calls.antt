-- The published calls on lent words and bytes: what each returns, and every lent word and byte afterwards.
-- The order of the numbers is 1, 9, 8, 2, 4, 5, 6, 7, 3; a preview has 1, 9, 6, 7, 3 of them.
use Rattle.std.specs.Prelude.{ℕ, zero, suc, ◌/◌, Bool, true, false, cond, ◌||◌, List, [], ◌∷◌, map, ◌≡◌, ltb, eqb, length, take, get_or}
use Rattle.std.specs.Prelude.{Option, None, Some}
use Rattle.base_key.specs.Bytes.{Bytes, ◌and◌, over_front}
use Rattle.resp_spec.specs.Request.{read_request}
use Rattle.resp_spec.specs.Steps.{argument_words}
use Rattle.store_memtable.specs.Versions.{Store}
use Rattle.store_memtable.specs.Layout.{store_in, buffers_hold, valid_store, leave_words, leave_bytes, empty_store}
use Rattle.group_spec.specs.declared.Member.{Member}
use Rattle.group_spec.specs.Group.{Finished, group, verdict_byte}
use Rattle.group_spec.specs.Members.{group_fits, pending_of}
use Rattle.command_spec.specs.Session.{Session}
use Rattle.command_spec.specs.Sessions.{session_at, valid_sessions, leave_session_words, leave_session_bytes}
use Rattle.command_spec.specs.Numbers.{AnswerNumbers}
use Rattle.command_spec.specs.Finish.{Served, reply_buffer}
use Rattle.exec_decision.specs.Numbers.{PreviewNumbers}
use Rattle.call_spec.specs.Serve.{serve, State, session_in, with_store_of, Outcome, refused, outcome_of, answered, exec_previewed, Stepped, request_on, preview_on}

-- the lent state: a store and sixteen sessions
pub record Lent : Type 0 where
  pub words : List ℕ
  pub bytes : Bytes
  pub session_words : List ℕ
  pub session_bytes : Bytes

-- the lent state, from its four buffers
abbrev pub lent_of : List ℕ → Bytes → List ℕ → Bytes → Lent
lent_of w b sw sb = record { words = w; bytes = b; session_words = sw; session_bytes = sb }

-- 9 otherwise
unfoldable pub valid : Lent → Bool
valid l = valid_store l.words l.bytes and valid_sessions (store_in l.words l.bytes).last l.session_words l.session_bytes

-- the store that is lent
abbrev pub store_of : Lent → Store
store_of l = store_in l.words l.bytes

-- session i that is lent
abbrev pub session_of : ℕ → Lent → Session
session_of i l = session_at i l.session_words l.session_bytes

-- the words and bytes of the store replaced
abbrev pub with_store : List ℕ → Bytes → Lent → Lent
with_store w b l = record { words = w; bytes = b; session_words = l.session_words; session_bytes = l.session_bytes }

-- the store written back
unfoldable pub leave_store : Store → Lent → Lent
leave_store st l = with_store (leave_words st l.words) (leave_bytes st l.bytes) l

-- session i written back
unfoldable pub leave_session : ℕ → Session → Lent → Lent
leave_session i s l = record {
  words = l.words;
  bytes = l.bytes;
  session_words = leave_session_words i s l.session_words l.session_bytes;
  session_bytes = leave_session_bytes i s l.session_bytes;
}

-- what a call gives and leaves; opening and a group are lent the store alone
pub record Called : Type 0 where
  pub outcome : Outcome
  pub lent : Lent

-- the same of a call that is lent the store alone
pub record StoreCalled : Type 0 where
  pub outcome : Outcome
  pub words : List ℕ
  pub bytes : Bytes

-- the same on all lent memory: the sessions stay
abbrev pub group_called : Lent → StoreCalled → Called
group_called l g = record { outcome = g.outcome; lent = with_store g.words g.bytes l }

-- a number that leaves all
abbrev pub refuses : ℕ → Lent → Called
refuses n l = record { outcome = refused n; lent = l }

-- the same for the store alone
abbrev pub refuses_store : ℕ → List ℕ → Bytes → StoreCalled
refuses_store n w b = record { outcome = refused n; words = w; bytes = b }

-- an outcome with the store that is left
abbrev pub gives_store : Outcome → Store → List ℕ → Bytes → StoreCalled
gives_store o st w b = record { outcome = o; words = leave_words st w; bytes = leave_bytes st b }

-- OPEN. An empty store, with any last sequence and any capacities that its lent buffers hold; greater ones give 9.
unfoldable pub open_call : ℕ → ℕ → ℕ → List ℕ → Bytes → StoreCalled
open_call last versions size w b =
    cond (buffers_hold w b versions size) (gives_store (refused 0) (empty_store last versions size) w b) (refuses_store 9 w b)

-- REQUEST. A number leaves all, but 4 marks the session failed.
unfoldable pub leave_served : ℕ → Served → Lent → Lent
leave_served i d l =
    cond (eqb d.number 0) (leave_store d.store (leave_session i d.session l)) (cond (eqb d.number 4) (leave_session i d.session l) l)

-- the arguments: the session, the bytes handed in, the places of the argument table, and the length of the reply buffer
unfoldable pub request_call : ℕ → Bytes → ℕ → ℕ → Lent → Called
request_call i input places room l = elim (ltb i 16) [
  | false ↦ refuses 1 l
  | true ↦ elim (valid l) [
    | false ↦ refuses 9 l
    | true ↦ let d = serve places room input (store_of l) (session_of i l) in record { outcome = answered d; lent = leave_served i d l }
  ]
]

-- the struct that the request call returns
abbrev pub answer_of : Outcome → AnswerNumbers
answer_of o = record { number = o.number; used = o.used; reply = length o.reply }

-- PREVIEW of EXEC: the lent state stays. The arguments: the session and the length of the reply buffer
unfoldable pub preview_call : ℕ → ℕ → Lent → Called
preview_call i room l = elim (ltb i 16) [
  | false ↦ refuses 1 l
  | true ↦ elim (valid l) [
    | false ↦ refuses 9 l
    | true ↦ record { outcome = exec_previewed room (store_of l) (session_of i l); lent = l }
  ]
]

-- the verdict byte of a preview; 255 if none is reached, and with a number
abbrev pub verdict_in : Outcome → ℕ
verdict_in o = get_or o.verdicts 0 255

-- the struct that the preview call returns
abbrev pub preview_of : Outcome → PreviewNumbers
preview_of o = record { number = o.number; verdict = verdict_in o; reply = length o.reply; last = o.last }

-- GROUP. 9, then 8; a call that returns one of them writes no verdict byte.
abbrev pub judged : Finished → Outcome
judged g = outcome_of 0 0 [] (map verdict_byte g.verdicts) 0

-- the arguments: members, the table of parts, the data, and the verdict bytes
unfoldable pub group_call : List Member → List ℕ → Bytes → Bytes → List ℕ → Bytes → StoreCalled
group_call ms parts d verdicts w b = elim (valid_store w b) [
  | false ↦ refuses_store 9 w b
  | true ↦ elim (group_fits parts d ms verdicts) [
    | false ↦ refuses_store 8 w b
    | true ↦ let g = group (map (pending_of parts d) ms) (store_in w b) in gives_store (judged g) g.store w b
  ]
]

-- the verdict buffer after a group call: bytes behind the verdicts stay, and all of them with a number
unfoldable pub verdict_buffer : Outcome → Bytes → Bytes
verdict_buffer o b = over_front o.verdicts b

-- WHAT THE CODE PROMISES of each call: the result, and every lent word and byte at exit.
pub record OpenPromise (last versions size : ℕ) (w : List ℕ) (b : Bytes) (r : ℕ) (w' : List ℕ) (b' : Bytes) : Type 0 where
  pub number : r ≡ (open_call last versions size w b).outcome.number
  pub words : w' ≡ (open_call last versions size w b).words
  pub bytes : b' ≡ (open_call last versions size w b).bytes

-- `buffer` is the reply buffer, before and after
pub record RequestPromise (i : ℕ) (input : Bytes) (places : ℕ) (buffer : Bytes) (l : Lent) (r : AnswerNumbers) (buffer' : Bytes) (l' : Lent) : Type 0 where
  pub answer : r ≡ answer_of (request_call i input places (length buffer) l).outcome
  pub reply : buffer' ≡ reply_buffer (length buffer) (request_call i input places (length buffer) l).outcome.reply
  pub lent : l' ≡ (request_call i input places (length buffer) l).lent

-- the argument table, before and after: of a whole request it holds the parts read, in order, and behind them it is working memory;
-- a call that reads no request leaves it
pub record TablePromise (i : ℕ) (input : Bytes) (l : Lent) (t t' : List ℕ) : Type 0 where
  pub parts : ltb i 16 ≡ true → valid l ≡ true → take (length (argument_words (read_request (length t / 2) input))) t' ≡ argument_words (read_request (length t / 2) input)
  pub unread : (ltb i 16 and valid l) ≡ false → t' ≡ t

-- a preview leaves the store and the sessions as they were
pub record PreviewPromise (i : ℕ) (buffer : Bytes) (l : Lent) (r : PreviewNumbers) (buffer' : Bytes) (l' : Lent) : Type 0 where
  pub preview : r ≡ preview_of (preview_call i (length buffer) l).outcome
  pub reply : buffer' ≡ reply_buffer (length buffer) (preview_call i (length buffer) l).outcome.reply
  pub lent : l' ≡ (preview_call i (length buffer) l).lent

-- `v` are the verdict bytes, before and after
pub record GroupPromise (ms : List Member) (parts : List ℕ) (d v : Bytes) (w : List ℕ) (b : Bytes) (r : ℕ) (v' : Bytes) (w' : List ℕ) (b' : Bytes) : Type 0 where
  pub number : r ≡ (group_call ms parts d v w b).outcome.number
  pub verdicts : v' ≡ verdict_buffer (group_call ms parts d v w b).outcome v
  pub words : w' ≡ (group_call ms parts d v w b).words
  pub bytes : b' ≡ (group_call ms parts d v w b).bytes

-- A LIST OF CALLS, each on what the last one left, with its own request, group or preview and its own reply buffer.
pub data Call : Type 0 where
  request : ℕ → Bytes → ℕ → ℕ → Call
  grouped : List Member → List ℕ → Bytes → Bytes → Call
  preview : ℕ → ℕ → Call

-- the session that the call belongs to; a group has none
abbrev pub owner_of : Call → Option ℕ
owner_of (request i input places room) = Some i
owner_of (grouped ms parts d verdicts) = None
owner_of (preview i room) = Some i

-- THE MEANING OF A CALL, on the state. A group: 8, or the verdicts
unfoldable pub group_on : List Member → List ℕ → Bytes → Bytes → State → Stepped
group_on ms parts d verdicts st = elim (group_fits parts d ms verdicts) [
  | false ↦ record { outcome = refused 8; state = st }
  | true ↦
      let g = group (map (pending_of parts d) ms) st.store in
      record { outcome = judged g; state = with_store_of g.store st }
]

-- one call on the state
unfoldable pub step : Call → State → Stepped
step (request i input places room) st = request_on i input places room st
step (grouped ms parts d verdicts) st = group_on ms parts d verdicts st
step (preview i room) st = preview_on i room st

-- what the calls answer
unfoldable pub outcomes_on : List Call → State → List Outcome
outcomes_on [] st = []
outcomes_on (c ∷ cs) st = let d = step c st in d.outcome ∷ outcomes_on cs d.state

-- what the last call left
unfoldable pub final_on : List Call → State → State
final_on [] st = st
final_on (c ∷ cs) st = final_on cs (step c st).state

-- THE SAME ON LENT MEMORY. The first number that lent memory or the arguments give, or 0
unfoldable pub first_number : Call → Lent → ℕ
first_number (request i input places room) l = cond (ltb i 16) (cond (valid l) 0 9) 1
first_number (grouped ms parts d verdicts) l = cond (valid_store l.words l.bytes) (cond (group_fits parts d ms verdicts) 0 8) 9
first_number (preview i room) l = cond (ltb i 16) (cond (valid l) 0 9) 1

-- the sessions from i on, n of them
unfoldable pub sessions_from : ℕ → ℕ → Lent → List Session
sessions_from zero i l = []
sessions_from (suc n) i l = session_of i l ∷ sessions_from n (suc i) l

-- the state that is lent
unfoldable pub state_in : Lent → State
state_in l = record { store = store_of l; sessions = sessions_from 16 0 l }

-- what a call writes back: the store or not, and these sessions
pub record Touched : Type 0 where
  pub store : Bool
  pub sessions : List ℕ

-- a number other than 0 leaves all, but 4 marks the session failed
unfoldable pub touched : Call → ℕ → Touched
touched (request i input places room) n = record { store = eqb n 0; sessions = cond (eqb n 0 || eqb n 4) (i ∷ []) [] }
touched (grouped ms parts d verdicts) n = record { store = eqb n 0; sessions = [] }
touched (preview i room) n = record { store = false; sessions = [] }

-- sessions written back
unfoldable pub leave_sessions : List ℕ → State → Lent → Lent
leave_sessions [] st l = l
leave_sessions (i ∷ is) st l = leave_sessions is st (leave_session i (session_in i st) l)

-- the state written back
unfoldable pub leave : Touched → State → Lent → Lent
leave t st l = leave_sessions t.sessions st (cond t.store (leave_store st.store l) l)

-- one call
unfoldable pub call : Call → Lent → Called
call c l = elim (eqb (first_number c l) 0) [
  | false ↦ refuses (first_number c l) l
  | true ↦ let d = step c (state_in l) in record { outcome = d.outcome; lent = leave (touched c d.outcome.number) d.state l }
]

-- what the calls answer
unfoldable pub outcomes : List Call → Lent → List Outcome
outcomes [] l = []
outcomes (c ∷ cs) l = let d = call c l in d.outcome ∷ outcomes cs d.lent

-- what the last call left
unfoldable pub final : List Call → Lent → Lent
final [] l = l
final (c ∷ cs) l = final cs (call c l).lent
