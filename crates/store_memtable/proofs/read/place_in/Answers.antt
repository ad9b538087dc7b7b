-- `store_memtable::read::place_in` meets its contract. The versions before the place come before the key, and no others. Assumes nothing.
use Rattle.std.proofs.Common.{rules, ◌∙◌}
use Rattle.store_memtable.proofs.Rows.{place_fits, place_splits}
use Rattle.store_memtable.proofs.read.place_in.Goals as goal

pub returns : goal.returns
returns c = c.partition_point.ensures.point _ (place_fits _ _ _ _ 0 _) (λ i holds h post. search rules ∙ place_splits _ _ _ _ _ i c.requires.ordered h)
