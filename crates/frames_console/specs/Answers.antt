-- Lines and their answers. The page may be written out between the calls that answer a line, and between lines.
use Rattle.std.specs.Prelude.{ℕ, ◌-◌, false, cond, List, [], ◌∷◌, ◌++◌, ◌≡◌, leb, take, drop}
use Rattle.base_key.specs.Bytes.{Bytes}
use Rattle.call_spec.specs.Calls.{Lent}
use Rattle.call_spec.specs.Frames.{Console, open_console, frame, frames}
use Rattle.frames_console.specs.declared.serve.Progress.{Progress}
use Rattle.frames_lines.specs.Served.{state_in, FrameServed}
use Rattle.frames_lines.specs.Held.{rests_in}

-- what the console is, in lent memory
unfoldable pub console_in : Lent → List ℕ → Bytes → Console
console_in l counts held = record { state = state_in l; rests = rests_in counts held }

-- the bytes in use of a page of `size` bytes after room for `need` more is made: as they were, or none where the page is written out
unfoldable pub room_made : ℕ → ℕ → ℕ → ℕ
room_made size filled need = cond (leb need (size - filled)) filled 0

-- the output `t`: what was written out, and behind it the bytes of the page in use
pub record Output (t : Bytes) (filled : ℕ) (page : Bytes) : Type 0 where
  pub written : Bytes
  pub is : t ≡ written ++ take filled page

-- THE REQUESTS of a frame, served in one or more turns; the page may be written out between them
pub record TurnsServed (i : ℕ) (s : Bytes) (filled : ℕ) (page : Bytes) (l : Lent) (r : Progress) (page' : Bytes) (l' : Lent) : Type 0 where
  pub out : Bytes
  pub output : Output out r.filled page'
  pub served : FrameServed i s l false (take filled page) r.mark (drop r.from s) l' r.replied out

-- THE ANSWER to a line: the line that the definition says stands behind the output, with LF, and the console after it is the definition's
pub record LineAnswered (line : Bytes) (c : Console) (filled : ℕ) (page : Bytes) (c' : Console) (filled' : ℕ) (page' : Bytes) : Type 0 where
  pub output : Output (take filled page ++ ((frame line c).out ++ 10 ∷ [])) filled' page'
  pub console : c' ≡ (frame line c).console

-- the console after lines
unfoldable pub console_after : List Bytes → Console → Console
console_after [] c = c
console_after (l ∷ ls) c = console_after ls (frame l c).console

-- lines, each with LF
unfoldable pub lines_text : List Bytes → Bytes
lines_text [] = []
lines_text (l ∷ ls) = (l ++ 10 ∷ []) ++ lines_text ls

-- THE ANSWERS to all lines that were read, from the opening on: output and console are the definition's
pub record AllAnswered (c : Console) (filled : ℕ) (page : Bytes) : Type 0 where
  pub lines : List Bytes
  pub output : Output (lines_text (frames lines open_console)) filled page
  pub console : c ≡ console_after lines open_console
