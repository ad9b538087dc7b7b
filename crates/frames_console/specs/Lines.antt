-- A line: how its answer is begun and how it is ended.
use Rattle.std.specs.Prelude.{ℕ, ◌+◌, ◌-◌, ◌*◌, ◌<◌, false, cond, List, ◌++◌, ◌≡◌, ltb, length, set}
use Rattle.std.specs.Prelude.{Option, None, Some}
use Rattle.base_key.specs.Bytes.{Bytes, part}
use Rattle.call_spec.specs.Frames as F
use Rattle.frames_lines.specs.declared.pieces.Mark.{Mark}
use Rattle.frames_lines.specs.declared.pieces.Mark.TheVariants.{Number, Dropped}
use Rattle.frames_console.specs.declared.serve.Progress.{Progress}
use Rattle.frames_console.specs.declared.frame.Begun.{Begun}
use Rattle.frames_console.specs.declared.frame.Begun.TheVariants.{Answered, Serve}
use Rattle.frames_lines.specs.Pieces.{head_text, end_text, malformed_text}
use Rattle.frames_lines.specs.Held.{count_at, held_at, rests_in}
use Rattle.frames_lines.specs.Rest.{kept_of, held_of, rest_of}
use Rattle.frames_lines.specs.Served.{mark_after}
use Rattle.frames_console.specs.Page.{Added}

-- the line of a session above 15
unfoldable pub refused_text : ℕ → Bytes
refused_text i = head_text i ++ end_text false (Number 1)

-- what is put for a line before requests are served: the whole line where none are
unfoldable pub begin_text : Option F.Given → Bytes
begin_text None = malformed_text
begin_text (Some g) = cond (ltb g.session 16) (head_text g.session) (refused_text g.session)

-- the bytes of the page in use
abbrev pub filled_of : Begun → ℕ
filled_of (Answered n) = n
filled_of (Serve i to n) = n

-- whether requests are to be served, by the line
unfoldable pub begun_as : Option F.Given → List ℕ → ℕ → Begun
begun_as None counts n = Answered n
begun_as (Some g) counts n =
    cond (ltb g.session 16) (Serve g.session (count_at counts g.session + length g.input) n) (Answered n)

-- THE CONTRACT of beginning a line: the answer, the page, and what the sessions hold; the frame's bytes stand behind those of its session
pub record Begins (line : Bytes) (filled : ℕ) (page : Bytes) (counts : List ℕ) (held : Bytes) (r : Begun) (page' held' : Bytes) : Type 0 where
  pub answer : r ≡ begun_as (F.given line) counts (filled_of r)
  pub added : Added (begin_text (F.given line)) filled page (filled_of r) page'
  pub rests : rests_in counts held' ≡ rests_in counts held
  pub bytes : (g : F.Given) → F.given line ≡ Some g → g.session < 16
      → part (g.session * 8192) (count_at counts g.session + length g.input) held' ≡ held_at counts held g.session ++ g.input

-- the mark of a frame whose rest was kept or dropped
unfoldable pub mark_kept : Mark → Option ℕ → Mark
mark_kept mark (Some n) = mark
mark_kept mark None = Dropped

-- the rest of a frame whose bytes end at `to`
abbrev pub rest_in : ℕ → ℕ → ℕ → Bytes → Bytes
rest_in i from to held = part (i * 8192 + from) (to - from) held

-- THE CONTRACT of ending the line of a frame: the page, what the sessions hold, and their counts
pub record Ends (i to : ℕ) (at : Progress) (page : Bytes) (counts : List ℕ) (held : Bytes) (r : ℕ) (page' : Bytes) (counts' : List ℕ) (held' : Bytes) : Type 0 where
  pub added : Added (end_text at.replied (mark_after at.mark (rest_in i at.from to held))) at.filled page r page'
  pub rests : rests_in counts' held' ≡ set (rests_in counts held) i (rest_of (rest_in i at.from to held))
  pub words : counts' ≡ set counts i (held_of (kept_of (to - at.from)))
