use Rattle.frames_console.proofs.OutputLaws.{output_on, output_room, answers_none, answers_on, answers_more}
use borrow.Author.Rules.{rules}
use Rattle.frames.proofs.answer_all.Goals as goal

pub loop-at-init : goal.loop-at-init
loop-at-init c = (search rules, search rules, answers_none c.requires.held_value c.next_line-at.ensures.output)

pub loop-at-preserved : goal.loop-at-preserved
loop-at-preserved c = (search rules, search rules, answers_on (answers_more c.loop-at.invariant.2 c.answer_line-filled.ensures.line_answered) (output_on (output_room _ 131072 _ 64 c.behind-next.ensures.filled_value) c.next_line-at-in-loop-at.ensures.output))
