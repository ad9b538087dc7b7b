-- `command_listing::scan::skip` meets its contract. The invariant: the entries left to be skipped complete the count, `Skipping`. Assumes nothing.
use Prim.Native.Nat.{◌-◌}
use Rattle.command_listing.proofs.Scanning.{Skipping}
use Rattle.command_listing.proofs.scan.skip.Given as goal

abbrev pub invariant-loop-skipped : goal.invariant-loop-skipped
invariant-loop-skipped l = Skipping l.store.words.now l.store.bytes.now l.count l.i (l.count - l._skipped)
