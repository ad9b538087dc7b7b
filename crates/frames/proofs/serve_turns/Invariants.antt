-- `frames::serve_turns` meets its contract. The invariant: the same memory is lent, and `InLoop`. Assumes nothing.
use Rattle.call_numbers.specs.Lending.{lent_in, SameMemory}
use Rattle.frames.proofs.TurnLaws.{InLoop, turns_left}
use Rattle.frames.proofs.serve_turns.Given as goal

abbrev pub invariant-loop-at : goal.invariant-loop-at
invariant-loop-at l =
    SameMemory l.initial.lent l.lent × InLoop l.session l.to l.filled l.start l.end l.held l.initial.page (lent_in l.initial.lent) l.at l.page (lent_in l.lent) l.reply

abbrev pub decreases-loop-at : goal.decreases-loop-at
decreases-loop-at l =
    turns_left l.to l.at
