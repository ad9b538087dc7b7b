-- What a request on one session answers and leaves, whatever the store is.
use Rattle.std.specs.Prelude.{ℕ, ◌≡◌, List, length, replicate}
use Rattle.base_key.specs.Bytes.{Bytes}
use Rattle.store_memtable.specs.Versions.{Store}
use Rattle.command_spec.specs.Numbers.{AnswerNumbers}
use Rattle.base_writing.specs.Puts.{Puts}
use Rattle.resp_spec.specs.Reply.{Reply, encode}
use Rattle.command_spec.specs.Session.{Session, Done, says, marked}
use Rattle.command_spec.specs.Sessions.{session_from}
use Rattle.command_spec.specs.Finish.{finish, Says, SessionLeft}
use Rattle.command_spec.specs.Held.{Held}
use Rattle.std.specs.Prelude.{Option}

-- a reply, and a change of the session
unfoldable pub changing : Reply → (Session → Session) → Store → Session → Done
changing r change st s = says r st (change s)

-- no change
abbrev pub same : Session → Session
same s = s

-- `w`, `b` are the session's words and bytes and `out` the reply buffer, before and after
pub record Answered (done : Store → Session → Done) (w w' : List ℕ) (b b' : Bytes) (used : ℕ) (out : Bytes) (r : AnswerNumbers) (out' : Bytes) : Type 0 where
  pub says : (st : Store) → Says (finish (length out) used (done st (session_from w b)) st (session_from w b)) out r out'
  pub left : (st : Store) → SessionLeft (finish (length out) used (done st (session_from w b)) st (session_from w b)) w b w' b'

-- the same at one store, with what the definitions give there
pub record AnsweredAt (st : Store) (d : Done) (w w' : List ℕ) (b b' : Bytes) (used : ℕ) (out : Bytes) (r : AnswerNumbers) (out' : Bytes) : Type 0 where
  pub says : Says (finish (length out) used d st (session_from w b)) out r out'
  pub left : SessionLeft (finish (length out) used d st (session_from w b)) w b w' b'

-- the same at every store with this last sequence
pub record AnsweredWith (last : ℕ) (done : Store → Session → Done) (w w' : List ℕ) (b b' : Bytes) (used : ℕ) (out : Bytes) (r : AnswerNumbers) (out' : Bytes) : Type 0 where
  pub is : (st : Store) → st.last ≡ last → AnsweredAt st (done st (session_from w b)) w w' b b' used out r out'

-- for a function that is lent the words alone: whatever the session's bytes are, they stay
pub record Steered (done : Store → Session → Done) (w w' : List ℕ) (used : ℕ) (out : Bytes) (r : AnswerNumbers) (out' : Bytes) : Type 0 where
  pub is : (b : Bytes) → Held w b → Answered done w w' b b used out r out'

-- an error that was put, whichever it is, marks the session
pub record Marks (put : Option ℕ) (used : ℕ) (w w' : List ℕ) (r : AnswerNumbers) : Type 0 where
  pub steered : (x : Reply) (out out' : Bytes) → out ≡ replicate (length out) 0 → Puts (encode x) out put out' → Steered (changing x marked) w w' used out r out'

-- for a function that is lent no session: whatever its words and bytes are, they stay
pub record Unchanged (done : Store → Session → Done) (used : ℕ) (out : Bytes) (r : AnswerNumbers) (out' : Bytes) : Type 0 where
  pub is : (w : List ℕ) (b : Bytes) → Held w b → Answered done w w b b used out r out'
