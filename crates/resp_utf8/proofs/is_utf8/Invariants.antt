-- `resp_utf8::is_utf8` meets its contract. The invariant: the pieces before `at` are characters, `Checked`. Assumes nothing.
use Prim.Native.Nat.{◌-◌}
use lib.ListN.{length}
use Rattle.resp_utf8.proofs.Pieces.{Checked}
use Rattle.resp_utf8.proofs.is_utf8.Given as goal

abbrev pub invariant-loop-at : goal.invariant-loop-at
invariant-loop-at l = Checked l.text l.at

abbrev pub decreases-loop-at : goal.decreases-loop-at
decreases-loop-at l = length l.text - l.at
