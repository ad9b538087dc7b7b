-- `command_listing::range::count_below` meets its contract. The invariant: every entry passed is below the end, `Passing`. Assumes nothing.
use Rattle.command_listing.proofs.Ranging.{Passing}
use Rattle.command_listing.proofs.range.count_below.Given as goal

abbrev pub invariant-loop-count : goal.invariant-loop-count
invariant-loop-count l = Passing l.store.words.now l.store.bytes.now l.end l.from l.limit l.i l.count
