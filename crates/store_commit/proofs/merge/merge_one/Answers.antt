-- `store_commit::merge::merge_one` meets its contract. The write goes to its place in the front; its bytes, and then its row, are written in front of what moves. Assumes nothing.
use Rattle.std.proofs.Common.{rules, arith}
use Rattle.store_memtable.specs.Merging.{front_after, words_after, bytes_after}
use Rattle.store_memtable.proofs.Rows.{place_fits}
use Rattle.store_memtable.proofs.Merging.{start_below_used}
use Rattle.store_commit.proofs.merge.merge_one.Goals as goal

pub merge_bytes-requires-clause-start_le_used : goal.merge_bytes-requires-clause-start_le_used
merge_bytes-requires-clause-start_le_used c = omega (arith, start_below_used c.place_in-at.result c.requires)

pub overflow_add-start : goal.overflow_add-start
overflow_add-start c = omega (arith, start_below_used c.place_in-at.result c.requires)

pub merge_row-requires-clause-at_le_rows : goal.merge_row-requires-clause-at_le_rows
merge_row-requires-clause-at_le_rows c = search (rules, place_fits)

pub returns-clause-value : goal.returns-clause-value
unfolding front_after
returns-clause-value c = search rules

pub returns-clause-words_after : goal.returns-clause-words_after
unfolding words_after
returns-clause-words_after c = search rules

pub returns-clause-bytes_after : goal.returns-clause-bytes_after
unfolding bytes_after
returns-clause-bytes_after c = search rules
