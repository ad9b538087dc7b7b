-- `exec_run::layout::sizes_of` meets its contract. Assumes nothing.
use Rattle.exec_run.proofs.LayoutLaws.{lengths_in, sizes_are}
use borrow.Author.Rules.{rules}
use Rattle.exec_run.proofs.layout.sizes_of.Goals as goal

pub sum_within-bytes-requires : goal.sum_within-bytes-requires
sum_within-bytes-requires c = (search lengths_in, search rules)

pub returns : goal.returns
returns c = search sizes_are
