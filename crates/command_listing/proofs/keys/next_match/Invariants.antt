-- `command_listing::keys::next_match` meets its contract. The invariant: no key before `i` matches, `Missing`. The measure is what is left of the versions. Assumes nothing.
use Prim.Native.Nat.{◌-◌}
use Rattle.store_memtable.specs.Layout.{count_word}
use Rattle.command_listing.proofs.Matching.{Missing}
use Rattle.command_listing.proofs.keys.next_match.Given as goal

abbrev pub invariant-loop-j : goal.invariant-loop-j
invariant-loop-j l = Missing l.store.words.now l.store.bytes.now l.pattern.bytes.now l.from l.i

abbrev pub decreases-loop-j : goal.decreases-loop-j
decreases-loop-j l = count_word l.store.words.now - l.i
