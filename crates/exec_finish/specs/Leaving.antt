-- What is left where a reply was put and the session is cleared, and of a call of one session.
use Rattle.std.specs.Prelude.{ℕ, ◌≡◌, List, length, replicate}
use Rattle.base_key.specs.Bytes.{Bytes}
use Rattle.base_writing.specs.Puts.{Puts}
use Rattle.resp_spec.specs.Reply.{Reply, encode}
use Rattle.store_memtable.specs.Layout.{store_in}
use Rattle.store_memtable.specs.Rows.{Valid}
use Rattle.command_spec.specs.Numbers.{AnswerNumbers}
use Rattle.command_spec.specs.Session.{clear, says}
use Rattle.command_spec.specs.Sessions.{session_from, session_words, session_bytes}
use Rattle.command_spec.specs.Held.{Held}
use Rattle.command_spec.specs.Finish.{Served, finish, Says, StoreLeft}
use Rattle.std.specs.Prelude.{Option}

-- THE CALL: the answer, the reply buffer, the store and the words of the session, before and after; its bytes stay as they are to be
pub record Leaves (d : Served) (out : Bytes) (w b s : List ℕ) (sb : Bytes) (r : AnswerNumbers) (out' : Bytes) (w' b' s' : List ℕ) : Type 0 where
  pub says : Says d out r out'
  pub store : StoreLeft d w b w' b'
  pub session : s' ≡ session_words d.session s sb
  pub session_bytes : sb ≡ session_bytes d.session sb

-- a reply that was put, with the store as it was: the session is cleared, unless the reply does not fit
pub record Closes (put : Option ℕ) (used : ℕ) (s s' : List ℕ) (r : AnswerNumbers) : Type 0 where
  pub leaves : (x : Reply) (w b out mid sb : Bytes) → Valid w b → out ≡ replicate (length out) 0 → Puts (encode x) out put mid → Held s sb
      → Leaves (finish (length out) used (says x (store_in w b) clear) (store_in w b) (session_from s sb)) out w b s sb r mid w b s'
