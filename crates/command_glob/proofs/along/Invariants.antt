-- `command_glob::along` meets its contract. The invariant: the pattern up to `at`, without a star, has matched the name up to `used`, `Walking`. Assumes nothing.
use Prim.Native.Nat.{◌-◌}
use lib.ListN.{length}
use Rattle.command_glob.proofs.Globbing.{Walking}
use Rattle.command_glob.proofs.along.Given as goal

abbrev pub invariant-loop-next : goal.invariant-loop-next
invariant-loop-next l = Walking l.pattern l.name l.at l.used

abbrev pub decreases-loop-next : goal.decreases-loop-next
decreases-loop-next l = length l.pattern - l.at
