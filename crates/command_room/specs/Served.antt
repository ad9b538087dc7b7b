-- What a command outside MULTI gives and leaves, from its reply and its writes.
use Rattle.std.specs.Prelude.{ℕ, ◌-◌, ◌≡◌, cond, List, [], ◌∷◌, ◌++◌, length, replicate, ℤ, pos}
use Rattle.std.specs.Prelude.{Some}
use Rattle.base_key.specs.Bytes.{Bytes}
use Rattle.base_key.specs.Keys.{Key}
use Rattle.base_number.specs.Decimal.{decimal}
use Rattle.resp_spec.specs.Reply.{Integer, crlf}
use Rattle.store_memtable.specs.Versions.{Store, commit}
use Rattle.store_memtable.specs.Layout.{store_in, leave_words, leave_bytes}
use Rattle.group_spec.specs.declared.Verdict.{Verdict}
use Rattle.group_spec.specs.Group.{plain, verdict_alone, is_accepted}
use Rattle.command_spec.specs.Numbers.{AnswerNumbers}
use Rattle.command_spec.specs.Command.{Effect, Executed, live}
use Rattle.command_spec.specs.Places.{arguments_at, tombstones_at}
use Rattle.command_spec.specs.Session.{Session, committed, direct}
use Rattle.command_room.specs.Reading.{last_reader}
use Rattle.command_room.specs.Writes.{RoomForAll}
use Rattle.command_spec.specs.Finish.{Served, finish, Says, StoreLeft}

-- the reply buffer after a verdict: a refusal clears it
unfoldable pub buffer_after : Verdict → Bytes → Bytes
buffer_after v out = cond (is_accepted v) out (replicate (length out) 0)

-- a command by its effect: its writes commit by themselves
unfoldable pub effect_served : ℕ → ℕ → Effect → Store → Session → Served
effect_served room used e st s = finish room used (committed (verdict_alone st (plain e.1)) e st s) st s

-- what the code leaves, whatever the session: reply buffer, words and bytes, before and after
pub record Runs (e : Effect) (used : ℕ) (out : Bytes) (w : List ℕ) (b : Bytes) (r : AnswerNumbers) (out' : Bytes) (w' : List ℕ) (b' : Bytes) : Type 0 where
  pub says : (s : Session) → Says (effect_served (length out) used e (store_in w b) s) out r out'
  pub left : (s : Session) → StoreLeft (effect_served (length out) used e (store_in w b) s) w b w' b'

-- before the commit: with number 0 there is room, and the commit makes the call whole; any other number leaves all
pub record Admitted (e : Effect) (used : ℕ) (out : Bytes) (w : List ℕ) (b : Bytes) (r : AnswerNumbers) (out' : Bytes) : Type 0 where
  pub room : r.number ≡ 0 → RoomForAll w e.1
  pub written : r.number ≡ 0 → Runs e used out w b r out' (leave_words (commit e.1 (store_in w b)) w) (leave_bytes (commit e.1 (store_in w b)) b)
  pub refused : (r.number ≡ 0 → ⊥) → Runs e used out w b r out' w b

-- DEL of the keys from place 1 up to `count`: how many are live, a repeated one counted each time, and a tombstone for each
unfoldable pub deletion : ℕ → List ℕ → Bytes → List ℕ → Bytes → Effect
deletion count places input w b =
    (Integer (pos (live (last_reader w b) (arguments_at 1 (count - 1) places input))), tombstones_at 1 (count - 1) places input)

-- a counter that is put to a number
unfoldable pub counted : Key → ℤ → Effect
counted k n = (Integer n, (k, Some (decimal n)) ∷ [])

-- the reply of an integer by its text
unfoldable pub integer_text : Bytes → Bytes
integer_text text = 58 ∷ text ++ crlf

-- a counter by the text of its new value, before its commit and after it
pub record AdmittedText (k : Key) (text : Bytes) (used : ℕ) (out : Bytes) (w : List ℕ) (b : Bytes) (r : AnswerNumbers) (out' : Bytes) : Type 0 where
  pub is : (n : ℤ) → text ≡ decimal n → Admitted (counted k n) used out w b r out'
  pub room : r.number ≡ 0 → RoomForAll w ((k, Some text) ∷ [])

pub record RunsText (k : Key) (text : Bytes) (used : ℕ) (out : Bytes) (w : List ℕ) (b : Bytes) (r : AnswerNumbers) (out' : Bytes) (w' : List ℕ) (b' : Bytes) : Type 0 where
  pub is : (n : ℤ) → text ≡ decimal n → Runs (counted k n) used out w b r out' w' b'

-- a command outside MULTI by what it means, whatever the session
pub record Answers (x : Executed) (used : ℕ) (out : Bytes) (w : List ℕ) (b : Bytes) (r : AnswerNumbers) (out' : Bytes) (w' : List ℕ) (b' : Bytes) : Type 0 where
  pub says : (s : Session) → Says (finish (length out) used (direct x (store_in w b) s) (store_in w b) s) out r out'
  pub left : (s : Session) → StoreLeft (finish (length out) used (direct x (store_in w b) s) (store_in w b) s) w b w' b'
