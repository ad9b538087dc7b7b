-- What the sessions hold between frames, in lent memory: 16 counts, and for each session 8,192 bytes, of which the first `count` are held and the
-- others are working space for a frame.
use Rattle.std.specs.Prelude.{ℕ, ◌+◌, ◌*◌, ◌-◌, ◌≤◌, ◌<◌, min, List, ◌++◌, ◌≡◌, length, get_or, set}
use Rattle.std.specs.Prelude.{Some}
use Rattle.base_key.specs.Bytes.{Bytes, part}
use Rattle.call_spec.specs.Frames as F
use Rattle.frames_lines.specs.Line.{given_as}
use Rattle.frames_lines.specs.Rest.{kept_of, held_of, rest_of}
use Rattle.frames_lines.specs.Served.{listed}
use Rattle.std.specs.Prelude.{Option}

-- what is lent
pub record Memory (counts : List ℕ) (held : Bytes) : Type 0 where
  pub words : length counts ≡ 16
  pub bytes : length held ≡ 131072

-- a count is 4,096 at most
abbrev pub count_at : List ℕ → ℕ → ℕ
count_at counts i = min (get_or counts i 0) 4096

-- what session i holds
unfoldable pub held_at : List ℕ → Bytes → ℕ → Bytes
held_at counts held i = part (i * 8192) (count_at counts i) held

-- what the sixteen sessions hold
unfoldable pub rests_in : List ℕ → Bytes → List Bytes
rests_in counts held = listed (held_at counts held) 16 0

-- sessions 16 to 99 hold nothing; their frames are read in the working space of the last
abbrev pub slot_of : ℕ → ℕ
slot_of i = min i 15

-- THE CONTRACT of reading a line into the memory: the sessions hold what they held, and the frame's bytes stand behind those of its session
pub record FrameRead (line : Bytes) (counts : List ℕ) (entry : Bytes) (r : Option (ℕ × ℕ)) (exit : Bytes) : Type 0 where
  pub answer : r ≡ given_as (F.given line)
  pub rests : rests_in counts exit ≡ rests_in counts entry
  pub bytes : (g : F.Given) → F.given line ≡ Some g
      → part (slot_of g.session * 8192) (count_at counts (slot_of g.session) + length g.input) exit ≡ held_at counts entry (slot_of g.session) ++ g.input
  pub size : length exit ≡ length entry

-- a session, and the places of its rest
pub record RestAt (i from to : ℕ) : Type 0 where
  pub session : i < 16
  pub order : from ≤ to
  pub size : to ≤ 8192

-- THE CONTRACT of keeping a session's rest in the memory
pub record RestKept (i from to : ℕ) (counts : List ℕ) (held : Bytes) (r : Option ℕ) (counts' : List ℕ) (held' : Bytes) : Type 0 where
  pub answer : r ≡ kept_of (to - from)
  pub rests : rests_in counts' held' ≡ set (rests_in counts held) i (rest_of (part (i * 8192 + from) (to - from) held))
  pub words : counts' ≡ set counts i (held_of r)
  pub bytes : length held' ≡ length held
