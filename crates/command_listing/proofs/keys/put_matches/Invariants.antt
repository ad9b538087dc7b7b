-- `command_listing::keys::put_matches` meets its contract. The invariant: what is left to be written completes the array, `Writing`. Assumes nothing.
use Prim.Native.Nat.{◌-◌}
use Rattle.command_listing.proofs.Matching.{Writing}
use Rattle.command_listing.proofs.keys.put_matches.Given as goal

abbrev pub invariant-loop-written : goal.invariant-loop-written
invariant-loop-written l = Writing l.store.words.now l.store.bytes.now l.pattern.bytes.now l.from l.count l.i (l.count - l._written) l.initial.put l.initial.out l.put l.out
