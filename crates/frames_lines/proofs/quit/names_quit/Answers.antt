-- `frames_lines::quit::names_quit` meets its contract. Assumes nothing.
use Rattle.frames_lines.proofs.QuitLaws.{quits_is}
use Rattle.frames_lines.proofs.quit.names_quit.Goals as goal

pub returns : goal.returns
returns c = search quits_is
