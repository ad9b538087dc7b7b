-- What a request leaves: of a protocol error, of a request that was read, and of one session; and what is lent for session i of the sixteen.
use Rattle.std.specs.Prelude.{ℕ, zero, suc, ◌<◌, ◌≡◌, true, List, length, take, replicate}
use Rattle.base_key.specs.Bytes.{Bytes}
use Rattle.resp_spec.specs.declared.Fault.{Fault}
use Rattle.resp_spec.specs.Request.{Reading}
use Rattle.resp_spec.specs.Steps.{argument_words}
use Rattle.store_memtable.specs.Layout.{store_in}
use Rattle.store_memtable.specs.Rows.{Valid}
use Rattle.command_spec.specs.Numbers.{AnswerNumbers}
use Rattle.command_spec.specs.Session.{clear, says}
use Rattle.command_spec.specs.Sessions.{session_from}
use Rattle.command_spec.specs.Held.{Held}
use Rattle.command_spec.specs.Places.{arguments_at}
use Rattle.command_spec.specs.Finish.{Served, silent, finish}
use Rattle.exec_finish.specs.Leaving.{Leaves}
use Rattle.session_route.specs.Responds.{responded}
use Rattle.call_spec.specs.Serve.{protocol_error, serve}
use Rattle.call_spec.specs.Calls.{lent_of, valid}

-- a protocol error answered, with any valid store and session
pub record FaultLeft (input : Bytes) (f : Fault) (s : List ℕ) (out : Bytes) (r : AnswerNumbers) (s' : List ℕ) (out' : Bytes) : Type 0 where
  pub leaves : (w b sb : Bytes) → Valid w b → out ≡ replicate (length out) 0 → Held s sb
      → Leaves (finish (length out) (length input) (says (protocol_error input f) (store_in w b) clear) (store_in w b) (session_from s sb)) out w b s sb r out' w b s'

-- a request of `count` arguments, as bytes: an empty one is silent
unfoldable pub whole_served : ℕ → ℕ → ℕ → List ℕ → Bytes → List ℕ → Bytes → List ℕ → Bytes → Served
whole_served room zero used places input w b s sb = silent 0 used (store_in w b) (session_from s sb)
whole_served room (suc n) used places input w b s sb = responded room used (arguments_at 0 (suc n) places input) w b s sb

-- a request on one session, as bytes
unfoldable pub served_in : ℕ → ℕ → Bytes → List ℕ → Bytes → List ℕ → Bytes → Served
served_in places room input w b s sb = serve places room input (store_in w b) (session_from s sb)

-- the argument table holds what was read
pub record TableHolds (x : Reading) (table : List ℕ) : Type 0 where
  pub front : take (length (argument_words x)) table ≡ argument_words x

-- what is lent for session i: a session below 16, a valid store with sixteen valid sessions, and a cleared reply buffer
pub record ReadyAmong (i : ℕ) (w : List ℕ) (b : Bytes) (sw : List ℕ) (sb out : Bytes) : Type 0 where
  pub below : i < 16
  pub fit : valid (lent_of w b sw sb) ≡ true
  pub cleared : out ≡ replicate (length out) 0
