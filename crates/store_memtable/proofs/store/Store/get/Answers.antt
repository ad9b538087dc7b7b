-- `store_memtable::store::Store::get` meets its contract. What is found is the value that a reader reads. Assumes nothing.
use Rattle.std.proofs.Common.{ap, ◌∙◌, option_copied}
use Rattle.store_memtable.proofs.Rows.{read_in, read_some, read_none}
use Rattle.store_memtable.proofs.store.Store.get.Goals as goal

pub returns-in_err-find_value : goal.returns-in_err-find_value
returns-in_err-find_value c = ap option_copied c.from_residual.ensures ∙ read_none _ _ _ _ c.find_value.ensures c.in_err-find_value.was

pub value-requires : goal.value-requires
value-requires c = read_in _ _ _ _ c.find_value.ensures c.in_ok-find_value.was

pub returns : goal.returns
returns c = read_some _ _ _ _ c.find_value.ensures c.in_ok-find_value.was c.value.ensures
