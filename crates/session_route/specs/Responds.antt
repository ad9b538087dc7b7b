-- What a request on one session and the store gives and leaves.
use Rattle.std.specs.Prelude.{ℕ, ◌≡◌, true, List, length, replicate}
use Rattle.base_key.specs.Bytes.{Bytes}
use Rattle.store_memtable.specs.Layout.{last_word, store_in}
use Rattle.store_memtable.specs.Rows.{Valid}
use Rattle.command_spec.specs.Numbers.{AnswerNumbers}
use Rattle.command_spec.specs.Names.{Args}
use Rattle.command_spec.specs.Session.{respond}
use Rattle.command_spec.specs.Sessions.{session_from, session_ok}
use Rattle.command_spec.specs.Lent.{OneSession}
use Rattle.command_spec.specs.Finish.{Served, finish, Says, StoreLeft, SessionLeft}

-- a request that is not empty, as bytes
unfoldable pub responded : ℕ → ℕ → Args → List ℕ → Bytes → List ℕ → Bytes → Served
responded room used a w b s sb = finish room used (respond a (store_in w b) (session_from s sb)) (store_in w b) (session_from s sb)

-- the reply buffer, the store and the session, before and after
pub record Left (d : Served) (out : Bytes) (w : List ℕ) (b : Bytes) (s : List ℕ) (sb : Bytes) (r : AnswerNumbers) (out' : Bytes) (w' : List ℕ) (b' : Bytes) (s' : List ℕ) (sb' : Bytes) : Type 0 where
  pub says : Says d out r out'
  pub store : StoreLeft d w b w' b'
  pub session : SessionLeft d s sb s' sb'

-- what is lent: a valid store, a valid session, and a cleared reply buffer
pub record Ready (w : List ℕ) (b : Bytes) (s : List ℕ) (sb out : Bytes) : Type 0 where
  pub valid : Valid w b
  pub one : OneSession s sb
  pub ok : session_ok (last_word w) s sb ≡ true
  pub cleared : out ≡ replicate (length out) 0
