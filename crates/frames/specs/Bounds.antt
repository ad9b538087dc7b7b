-- What the program keeps within its buffers.
use Rattle.std.specs.Prelude.{ℕ, ◌+◌, ◌≤◌}
use Rattle.frames_console.specs.declared.serve.Progress.{Progress}
use Rattle.frames_lines.specs.Pieces.{MarkFits}

-- the requests of a frame of `size` bytes, served
pub record Served (size : ℕ) (r : Progress) : Type 0 where
  pub from : r.from ≤ size
  pub filled : r.filled + 64 ≤ 131072
  pub mark : MarkFits r.mark

-- a line within what is read of the part, and room on the page for an answer without replies
pub record Within (from end got filled : ℕ) : Type 0 where
  pub order : from ≤ end
  pub inside : end ≤ got
  pub read : got ≤ 65536
  pub room : filled + 64 ≤ 131072
