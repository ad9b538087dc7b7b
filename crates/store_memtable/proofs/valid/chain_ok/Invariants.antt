-- `store_memtable::valid::chain_ok` meets its contract. The invariant: the rows before place i lie one behind the other up to pos, `Linked`. Assumes nothing.
use Rattle.store_memtable.proofs.Validity.{Linked}
use Rattle.store_memtable.proofs.valid.chain_ok.Given as goal

abbrev pub invariant-loop-i : goal.invariant-loop-i
invariant-loop-i l = Linked l.words l.i l.pos
