-- `store_memtable::store::Store::count_live` meets its contract. The invariant: with those that stand from place i on, the live versions are as many as in all. Assumes nothing.
use Rattle.std.proofs.Common.{◌≡◌, ◌+◌, ◌-◌, ◌≤◌, length}
use Rattle.store_memtable.specs.Layout.{count_word}
use Rattle.store_memtable.specs.Walk.{live_from}
use Rattle.store_memtable.proofs.store.Store.count_live.Given as goal

abbrev pub invariant-loop-i : goal.invariant-loop-i
invariant-loop-i l = record {
  few : l.live ≤ l.i;
  rest : l.live + length (live_from l.self.words.now l.self.bytes.now l.i (count_word l.self.words.now - l.i)) ≡ length (live_from l.self.words.now l.self.bytes.now 0 (count_word l.self.words.now));
}
