-- A request answered as bytes in a lent reply buffer (document 01, the returned numbers): what it gives, and what the code leaves.
use Rattle.std.specs.Prelude.{ℕ, ◌-◌, ◌≡◌, cond, List, [], ◌++◌, leb, length, replicate}
use Rattle.base_key.specs.Bytes.{Bytes}
use Rattle.resp_spec.specs.Reply.{encode}
use Rattle.store_memtable.specs.Versions.{Store}
use Rattle.store_memtable.specs.Layout.{leave_words, leave_bytes}
use Rattle.command_spec.specs.Numbers.{AnswerNumbers}
use Rattle.command_spec.specs.Session.{Session, Result, number, reply, Done}
use Rattle.command_spec.specs.Sessions.{session_words, session_bytes}

-- what a request gives: 0 or a number, the bytes used, the reply's bytes, and what it leaves
pub record Served : Type 0 where
  pub number : ℕ
  pub used : ℕ
  pub reply : Bytes
  pub store : Store
  pub session : Session

-- no reply: a number, which uses no bytes, or 0
abbrev pub silent : ℕ → ℕ → Store → Session → Served
silent n used st s = record { number = n; used = used; reply = []; store = st; session = s }

-- 3: a reply longer than its buffer leaves all
unfoldable pub fitted : ℕ → ℕ → Bytes → Done → Store → Session → Served
fitted room used b d st s =
    cond (leb (length b) room) (record { number = 0; used = used; reply = b; store = d.store; session = d.session }) (silent 3 0 st s)

-- a number as it is; a reply if it fits
unfoldable pub finish_by : Result → ℕ → ℕ → Done → Store → Session → Served
finish_by (number n) room used d st s = silent n 0 d.store d.session
finish_by (reply r) room used d st s = fitted room used (encode r) d st s

-- what a request of the session gives, as bytes
unfoldable pub finish : ℕ → ℕ → Done → Store → Session → Served
finish room used d st s = finish_by d.result room used d st s

-- the reply buffer after a call: the reply, and zero behind it; all zero with a number
unfoldable pub reply_buffer : ℕ → Bytes → Bytes
reply_buffer room b = b ++ replicate (room - length b) 0

-- WHAT THE CODE LEAVES. The struct that it returns
abbrev pub answer_served : Served → AnswerNumbers
answer_served d = record { number = d.number; used = d.used; reply = length d.reply }

-- `out` is the reply buffer, before and after
pub record Says (d : Served) (out : Bytes) (r : AnswerNumbers) (out' : Bytes) : Type 0 where
  pub answer : r ≡ answer_served d
  pub reply : out' ≡ reply_buffer (length out) d.reply

-- the words and bytes of the store, before and after
pub record StoreLeft (d : Served) (w : List ℕ) (b : Bytes) (w' : List ℕ) (b' : Bytes) : Type 0 where
  pub words : w' ≡ leave_words d.store w
  pub bytes : b' ≡ leave_bytes d.store b

-- the words and bytes of the session, before and after
pub record SessionLeft (d : Served) (w : List ℕ) (b : Bytes) (w' : List ℕ) (b' : Bytes) : Type 0 where
  pub words : w' ≡ session_words d.session w b
  pub bytes : b' ≡ session_bytes d.session b
