-- `frames_console::frame::end` meets its contract. Assumes nothing.
use Rattle.frames_console.proofs.BeginLaws.{mark_fits, line_ended}
use Rattle.frames_console.proofs.frame.end.Goals as goal

pub add_end-requires-clause-mark_fits : goal.add_end-requires-clause-mark_fits
add_end-requires-clause-mark_fits c = mark_fits _ _ c.mark_after.ensures c.requires.mark_fits

pub returns : goal.returns
returns c = line_ended c.args.held.now.sizes c.requires.rest_at c.keep-kept.ensures c.mark_after.ensures c.add_end.ensures
