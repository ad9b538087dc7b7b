-- `frames_console::serve::serve_some` meets its contract. The invariant: the same memory is lent, and `InLoop`. Assumes nothing.
use Rattle.call_numbers.specs.Lending.{lent_in, SameMemory}
use Rattle.frames_console.proofs.ServeLaws.{InLoop, left_of}
use Rattle.frames_console.proofs.serve.serve_some.Given as goal

abbrev pub invariant-loop-page : goal.invariant-loop-page
invariant-loop-page l =
    SameMemory l.initial.lent l.lent × InLoop l.session l.held l.initial.page l.initial.places l.initial.reply (lent_in l.initial.lent) l.size l.initial.at l.page l.places l.reply (lent_in l.lent) l.at

abbrev pub decreases-loop-page : goal.decreases-loop-page
decreases-loop-page l =
    left_of l.held l.at
