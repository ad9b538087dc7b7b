-- `frames_lines::rest::move_down` meets its contract. Assumes nothing.
use Rattle.frames_lines.proofs.RestLaws.{copied_down}
use Rattle.frames_lines.proofs.rest.move_down.Goals as goal

pub returns : goal.returns
returns c = search copied_down
