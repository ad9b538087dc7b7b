-- `command_glob::Pattern::tail_matches` meets its contract. The invariant: some tail matches if and only if some tail from `from` on matches the pattern from `at` on, `Retrying`. Assumes nothing.
use Prim.Native.Nat.{◌+◌, ◌-◌}
use lib.ListN.{length}
use Rattle.command_glob.proofs.Globbing.{Retrying}
use Rattle.command_glob.proofs.Pattern.tail_matches.Given as goal

abbrev pub invariant-loop-next : goal.invariant-loop-next
invariant-loop-next l = Retrying l.self.bytes.now l.name l.start l.first l.at l.from

abbrev pub decreases-loop-next : goal.decreases-loop-next
decreases-loop-next l = (length l.self.bytes.now - l.at) + (length l.name - l.from)
