-- `frames::next_line` meets its contract. The invariant: no more input is left than at first,
-- and the bytes of the page in use are as they were or written out. Assumes nothing.
use Prim.Native.Nat.{◌≤◌}
use lib.ListN.{take}
use Rattle.frames_console.specs.Answers.{Output}
use Rattle.frames.specs.Input.{input_left}
use Rattle.frames.proofs.next_line.Given as goal

abbrev pub invariant-loop-next : goal.invariant-loop-next
invariant-loop-next l =
    (input_left l.next ≤ input_left l.initial.next) × Output (take l.initial.next.filled l.page) l.next.filled l.page

abbrev pub decreases-loop-next : goal.decreases-loop-next
decreases-loop-next l =
    l.next.reads
