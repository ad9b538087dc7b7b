-- `frames_lines::held::Held::keep` meets its contract. Assumes nothing.
use Rattle.frames_lines.proofs.HeldLaws.{rest_kept}
use Rattle.frames_lines.proofs.held.Held.keep.Goals as goal

pub returns : goal.returns
returns c = search rest_kept
