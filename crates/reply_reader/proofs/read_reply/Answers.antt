-- `reply_reader::read_reply` meets its contract. Assumes nothing.
use borrow.Author.Rules.{rules}
use native.Mathlib.Omega.{arith}
use Rattle.reply_reader.proofs.Passing.{kept_inside, reply_read}
use Rattle.reply_reader.proofs.read_reply.Goals as goal

pub overflow_mul-kept : goal.overflow_mul-kept
overflow_mul-kept c = omega (arith, kept_inside c.read_items-read.ensures (search rules) c.item_count-kept.ensures)

pub offset_bounds-items-kept : goal.offset_bounds-items-kept
offset_bounds-items-kept c = omega (arith, kept_inside c.read_items-read.ensures (search rules) c.item_count-kept.ensures)

pub slice_bounds-fill-count : goal.slice_bounds-fill-count
slice_bounds-fill-count c = omega (arith, kept_inside c.read_items-read.ensures (search rules) c.item_count-kept.ensures)

pub slice_bounds-fill-start : goal.slice_bounds-fill-start
slice_bounds-fill-start c = omega (arith, kept_inside c.read_items-read.ensures (search rules) c.item_count-kept.ensures)

pub returns : goal.returns
returns c = reply_read c.read_items-read.ensures (search rules) c.item_count-kept.ensures (c.fill.ensures.after (λ y e. e))
