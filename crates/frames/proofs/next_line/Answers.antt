use mathlib.Core.Path.{◌∙◌}
use Rattle.frames_console.proofs.OutputLaws.{output_on, output_room}
use borrow.Author.Rules.{rules}
use Rattle.frames.proofs.next_line.Goals as goal

pub loop-next-preserved : goal.loop-next-preserved
loop-next-preserved c = (search rules, output_on c.loop-next.invariant.1 (output_room _ 131072 _ 131072 (c.find_end-next-in-loop-next.ensures.filled_value ∙ c.read_on-more.ensures.filled_value)))
