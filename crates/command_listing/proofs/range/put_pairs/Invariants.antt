-- `command_listing::range::put_pairs` meets its contract. The invariant: what is left to be written completes the array, `Pairing`. Assumes nothing.
use Prim.Native.Nat.{◌-◌}
use Rattle.command_listing.proofs.Ranging.{Pairing}
use Rattle.command_listing.proofs.range.put_pairs.Given as goal

abbrev pub invariant-loop-written : goal.invariant-loop-written
invariant-loop-written l = Pairing l.store.words.now l.store.bytes.now l.from l.count l.i (l.count - l._written) l.initial.put l.initial.out l.put l.out
