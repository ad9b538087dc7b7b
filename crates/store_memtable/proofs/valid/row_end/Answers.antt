-- `store_memtable::valid::row_end` meets its contract. Assumes nothing.
use Rattle.std.proofs.Common.{rules}
use Rattle.base_key.specs.Bytes.{◌and◌}
use Rattle.store_memtable.specs.Layout.{row_ok}
use Rattle.store_memtable.specs.Rows.{row_end}
use Rattle.store_memtable.proofs.valid.row_end.Goals as goal

pub returns-then-word-pos : goal.returns-then-word-pos
unfolding row_end row_ok ◌and◌
returns-then-word-pos c = search rules

pub returns-then-words-row : goal.returns-then-words-row
unfolding row_end row_ok ◌and◌
returns-then-words-row c = search rules

pub returns-in_err-behind_key : goal.returns-in_err-behind_key
unfolding row_end row_ok ◌and◌
returns-in_err-behind_key c = search rules

pub returns-in_err-rest : goal.returns-in_err-rest
unfolding row_end row_ok ◌and◌
returns-in_err-rest c = search rules

pub returns : goal.returns
unfolding row_end row_ok ◌and◌
returns c = search rules
