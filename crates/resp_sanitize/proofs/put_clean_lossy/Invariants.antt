-- `resp_sanitize::put_clean_lossy` meets its contract. The invariant: the pieces before `at` are written, `Shown`. Assumes nothing.
use Prim.Native.Nat.{◌-◌}
use lib.ListN.{length}
use Rattle.resp_sanitize.proofs.Letters.{Shown}
use Rattle.resp_sanitize.proofs.put_clean_lossy.Given as goal

abbrev pub invariant-loop-at : goal.invariant-loop-at
invariant-loop-at l = Shown l.letters l.text l.at l.initial.out l.put l.out

abbrev pub decreases-loop-at : goal.decreases-loop-at
decreases-loop-at l = length l.text - l.at
