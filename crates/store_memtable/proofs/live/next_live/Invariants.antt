-- `store_memtable::live::next_live` meets its contract. The invariant: no live version stands before place i. Assumes nothing.
use Rattle.std.proofs.Common.{◌≡◌, ◌-◌}
use Rattle.store_memtable.specs.Layout.{count_word}
use Rattle.store_memtable.specs.Walk.{next_live}
use Rattle.store_memtable.proofs.live.next_live.Given as goal

abbrev pub invariant-loop-i : goal.invariant-loop-i
invariant-loop-i l = next_live l.words l.bytes l.from (count_word l.words - l.from) ≡ next_live l.words l.bytes l.i (count_word l.words - l.i)
