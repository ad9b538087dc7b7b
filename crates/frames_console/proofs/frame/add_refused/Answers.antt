-- `frames_console::frame::add_refused` meets its contract. Assumes nothing.
use Rattle.frames_console.proofs.BeginLaws.{head_room, one_fits, refused_added}
use Rattle.frames_console.proofs.frame.add_refused.Goals as goal

pub add_end-requires-clause-free : goal.add_end-requires-clause-free
add_end-requires-clause-free c = head_room _ c.add_session-at.ensures c.requires.free

pub add_end-requires-clause-mark_fits : goal.add_end-requires-clause-mark_fits
add_end-requires-clause-mark_fits c = one_fits

pub returns : goal.returns
returns c = refused_added _ c.add_session-at.ensures c.add_end.ensures
