-- `command_glob::Pattern::new` meets its contract. The invariant: the last star of the whole is the last one of the rest, else the one passed last, `Seeking`. Assumes nothing.
use Prim.Native.Nat.{◌-◌}
use lib.ListN.{length}
use Rattle.command_glob.proofs.Ends.{Seeking}
use Rattle.command_glob.proofs.Pattern.new.Given as goal

abbrev pub invariant-loop-next : goal.invariant-loop-next
invariant-loop-next l = Seeking l.bytes l.at l.behind l.count

abbrev pub decreases-loop-next : goal.decreases-loop-next
decreases-loop-next l = length l.bytes - l.at
