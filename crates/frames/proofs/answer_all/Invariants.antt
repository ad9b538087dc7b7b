-- `frames::answer_all` meets its contract. The invariant: the same memory is lent and fit to be served, and all lines
-- before it are answered. Assumes nothing.
use Rattle.call_numbers.specs.Lending.{lent_in, SameMemory}
use Rattle.frames_console.specs.Answers.{console_in, AllAnswered}
use Rattle.frames_console.specs.Steps.{Fit}
use Rattle.frames.specs.Input.{input_left}
use Rattle.frames.proofs.answer_all.Given as goal

abbrev pub invariant-loop-at : goal.invariant-loop-at
invariant-loop-at l =
    SameMemory l.initial.lent l.lent × Fit (lent_in l.lent) l.reply × AllAnswered (console_in (lent_in l.lent) l.held.counts l.held.bytes) l.at.filled l.page

abbrev pub decreases-loop-at : goal.decreases-loop-at
decreases-loop-at l =
    input_left l.at
