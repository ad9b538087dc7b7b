-- `store_memtable::valid::validate` meets its contract. The three tests together. Assumes nothing.
use Rattle.std.proofs.Common.{rules}
use Rattle.store_memtable.proofs.Validity.{rows_in, readable, by_order, not_chain, not_header}
use Rattle.store_memtable.proofs.valid.validate.Goals as goal

pub chain_ok-requires : goal.chain_ok-requires
chain_ok-requires c = search rows_in

pub sorted_ok-requires : goal.sorted_ok-requires
sorted_ok-requires c = search (rules, readable)

pub returns-then-chain_ok : goal.returns-then-chain_ok
returns-then-chain_ok c = search (rules, by_order)

pub returns-else-chain_ok : goal.returns-else-chain_ok
returns-else-chain_ok c = search (rules, not_chain, not_header)
