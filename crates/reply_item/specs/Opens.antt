-- Every definition of this crate, opened at once: for facts that antt computes.
use Rattle.resp_spec.specs.Opens.{resp_spec_opens}
use Rattle.reply_item.specs.Replies.{word_of, refusal_number, counted_size, reply_size, number_line, bulk_line, array_line, item_line_of, with_items, placed, body_of, item_of, item_by_line, followed, read_items, nested, too_deep, read_item, read_reply, answer_of, item_words, words_of, table_of}
use Rattle.reply_item.specs.Steps.{level, item_parsed, item_of_line, item_at}

unfoldable pub reply_item_opens : Unit {0}
unfolding resp_spec_opens word_of refusal_number counted_size reply_size number_line bulk_line array_line item_line_of with_items placed body_of item_of item_by_line followed read_items nested too_deep read_item read_reply answer_of item_words words_of table_of level item_parsed item_of_line item_at
reply_item_opens = tt
