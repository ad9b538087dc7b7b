-- `command_glob::Pattern::bytes_match` meets its contract. The invariant: the tokens up to `at` match the name up to `used`, and as many bytes as tokens are left, `Pairing`. Assumes nothing.
use Prim.Native.Nat.{◌-◌}
use lib.ListN.{length}
use Rattle.command_glob.proofs.Ends.{Pairing}
use Rattle.command_glob.proofs.Pattern.bytes_match.Given as goal

abbrev pub invariant-loop-next : goal.invariant-loop-next
invariant-loop-next l = Pairing l.self.bytes.now l.name l.self.behind l.end l.at l.used

abbrev pub decreases-loop-next : goal.decreases-loop-next
decreases-loop-next l = length l.self.bytes.now - l.at
