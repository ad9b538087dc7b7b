-- `command_listing::keys::count_matches` meets its contract. The invariant: what is left to be looked at completes the count, `Looking`. Assumes nothing.
use Prim.Native.Nat.{◌-◌}
use Rattle.command_listing.proofs.Matching.{Looking}
use Rattle.command_listing.proofs.keys.count_matches.Given as goal

abbrev pub invariant-loop-looked : goal.invariant-loop-looked
invariant-loop-looked l = Looking l.store.words.now l.store.bytes.now l.pattern.bytes.now l.from l.most l.i (l.most - l._looked) l.matched
